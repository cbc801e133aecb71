pub mod Rows
pub mod Demand
pub mod Pages
pub mod Late
