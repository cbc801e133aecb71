pub mod Header
pub mod Token
pub mod Walk
pub mod Tree
pub mod Grammar
pub mod Opening
