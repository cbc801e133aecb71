pub mod Input
pub mod Status
