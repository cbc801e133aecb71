pub mod ClaimLaws
pub mod JudgeLaws
