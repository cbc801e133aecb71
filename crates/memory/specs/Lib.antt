pub mod Map
pub mod Made
pub mod Run
