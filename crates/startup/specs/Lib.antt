pub mod Sources
pub mod Verdict
pub mod Report
pub mod Start
