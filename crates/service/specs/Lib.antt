pub mod Plain
pub mod Late
