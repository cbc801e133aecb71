pub mod OrderLaws
pub mod EndLaws
