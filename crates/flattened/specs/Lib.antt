pub mod Parts
pub mod Blob
pub mod Forest
pub mod ReadBack
