pub mod VeilShape
pub mod VeilRules
pub mod VeilClaims
pub mod ValueBytes
pub mod PastBytes
