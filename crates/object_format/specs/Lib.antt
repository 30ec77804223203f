pub mod Grammar
pub mod Links
pub mod Name
pub mod Reading
pub mod TreeReading
