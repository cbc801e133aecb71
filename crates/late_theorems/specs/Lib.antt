pub mod Refusals
pub mod Takes
pub mod Came
