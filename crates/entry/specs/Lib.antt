pub mod Kind
pub mod Entry
pub mod Claim
