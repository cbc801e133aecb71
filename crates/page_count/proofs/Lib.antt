pub mod Reading
pub mod Counting
pub mod Intervals
pub mod Claims
pub mod PageCount
