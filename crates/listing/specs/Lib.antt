pub mod Lines
pub mod RowLines
pub mod Steps
