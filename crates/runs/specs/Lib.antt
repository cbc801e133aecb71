pub mod Sets
pub mod Refusals
