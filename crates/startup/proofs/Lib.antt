pub mod ListLaws
pub mod TreeLaws
pub mod SourceLaws
pub mod SheetLaws
pub mod ReportLaws
pub mod StartLaws
