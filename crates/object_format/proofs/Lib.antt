pub mod Contents
pub mod Entries
pub mod FirstBad
pub mod Lines
pub mod Loops
pub mod Readers
pub mod Turns
