pub mod Reads
pub mod Places
pub mod Values
pub mod Paths
pub mod Order
pub mod Veil
