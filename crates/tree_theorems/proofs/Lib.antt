pub mod ClaimKinds
pub mod SomeChild
pub mod Unreadable
pub mod Judging
pub mod Refusals
pub mod Translated
pub mod Depth
pub mod ControllerLaws
