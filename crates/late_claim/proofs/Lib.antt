pub mod Judging
pub mod Entering
pub mod Claiming
pub mod MadeLaws
