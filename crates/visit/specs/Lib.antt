pub mod Steps
pub mod Script
