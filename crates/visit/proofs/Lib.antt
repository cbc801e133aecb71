pub mod LeftLaws
pub mod EnterLaws
pub mod StepLaws
pub mod CodeLaws
