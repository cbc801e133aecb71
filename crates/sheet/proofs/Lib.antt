pub mod NearestLaws
pub mod ShareLaws
pub mod Examples
pub mod Counting
pub mod Summing
pub mod SheetLaws
