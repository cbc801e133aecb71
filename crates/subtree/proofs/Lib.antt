pub mod TokenRows
pub mod SubtreeLaws
