pub mod Leaving
pub mod Asked
