pub mod SlotLaws
pub mod PassLaws
pub mod MapLaws
pub mod RunLaws
pub mod Refusing
