pub mod Numbers
pub mod Writing
