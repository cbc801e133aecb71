pub mod BytesLaws
pub mod LittleLaws
