pub mod Written
pub mod Faults
pub mod Numbers
pub mod Past
pub mod Veil
