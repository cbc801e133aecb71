pub mod TakingLaws
pub mod CallLaws
