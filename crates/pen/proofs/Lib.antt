pub mod LengthLaws
pub mod WritingLaws
pub mod NumberLaws
