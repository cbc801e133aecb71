pub mod Demand
pub mod Refusal
pub mod Slots
