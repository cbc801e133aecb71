pub mod Refusal
pub mod Rule
pub mod Slots
