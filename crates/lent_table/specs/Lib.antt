pub mod Table
pub mod Less
pub mod Edit
pub mod Steps
