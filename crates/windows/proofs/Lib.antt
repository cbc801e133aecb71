pub mod FitLaws
pub mod WindowLaws
