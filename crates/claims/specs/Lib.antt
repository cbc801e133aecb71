pub mod Claims
pub mod Judging
pub mod Values
