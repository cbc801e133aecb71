pub mod BlockLaws
pub mod EntryLaws
