pub mod Children
pub mod Unreadable
pub mod Addresses
pub mod Controllers
