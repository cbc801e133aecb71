pub mod NumberLaws
pub mod ChildrenLaws
pub mod ExactLaws
