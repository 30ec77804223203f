pub mod Draws
pub mod Entries
pub mod Issued
pub mod Purposes
pub mod Room
