pub mod Share
pub mod Sheet
pub mod Nearest
