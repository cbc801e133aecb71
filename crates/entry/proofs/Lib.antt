pub mod KindLaws
pub mod EntryLaws
pub mod ClaimLaws
