pub mod Places
pub mod NumberLaws
