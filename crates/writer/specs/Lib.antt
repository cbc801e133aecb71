pub mod Writer
pub mod Calls
