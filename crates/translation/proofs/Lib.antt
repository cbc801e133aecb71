pub mod SearchLaws
pub mod StepLaws
