pub mod Keeping
pub mod Runs
pub mod Sets
pub mod Refusals
