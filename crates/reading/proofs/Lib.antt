pub mod Places
pub mod Tokens
pub mod Reading
pub mod Values
pub mod Paths
pub mod Order
pub mod ReadVeil
pub mod Opened
