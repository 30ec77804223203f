pub mod BadRow
pub mod Reading
pub mod Rows
pub mod Writes
