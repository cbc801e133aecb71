pub mod TreeLaws
pub mod GrammarLaws
pub mod TurnLaws
pub mod FaultLaws
pub mod OpeningLaws
pub mod VeilLaws
pub mod PastLaws
pub mod Aligned
