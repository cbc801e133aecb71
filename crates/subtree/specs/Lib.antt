pub mod Names
pub mod Subtree
