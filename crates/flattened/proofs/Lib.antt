pub mod NumberLaws
pub mod PartLaws
pub mod HeaderLaws
pub mod EntriesLaws
pub mod ForestLaws
pub mod ReadBack
pub mod OneTree
