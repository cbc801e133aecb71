pub mod CountLaws
pub mod RowsLaws
pub mod TextLaws
