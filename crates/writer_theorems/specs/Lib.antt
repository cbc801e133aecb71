pub mod History
pub mod Refusals
pub mod Finished
