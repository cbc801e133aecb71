pub mod Input
pub mod Run
