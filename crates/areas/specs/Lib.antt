pub mod Interval
pub mod Shape
pub mod Carve
pub mod Areas
pub mod Table
pub mod Steps
