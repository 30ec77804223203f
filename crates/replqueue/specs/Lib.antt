pub mod Edits
pub mod Facts
pub mod Lines
pub mod Marks
pub mod Queue
pub mod Rows
pub mod Search
