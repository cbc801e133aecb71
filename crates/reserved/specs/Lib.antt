pub mod Number
pub mod Reserved
