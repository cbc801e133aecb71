pub mod Given
pub mod Passed
