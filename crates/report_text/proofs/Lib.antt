pub mod Examples
pub mod TextLaws
pub mod LateLaws
pub mod LateMeaning
