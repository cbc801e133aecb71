pub mod Nav
pub mod Path
pub mod Order
pub mod Cells
pub mod OnTree
