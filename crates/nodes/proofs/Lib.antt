pub mod SameLaws
pub mod TokenLaws
pub mod NavLaws
pub mod FindLaws
pub mod OrderLaws
pub mod PathLaws
