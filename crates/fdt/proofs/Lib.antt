pub mod TokLaws
pub mod LexLaws
pub mod WalkLaws
pub mod HeaderLaws
pub mod VerdictLaws
