pub mod Sizes
pub mod Accepting
pub mod Laying
