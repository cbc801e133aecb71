pub mod Translation
pub mod Search
