pub mod DigitsLaws
pub mod PutLaws
