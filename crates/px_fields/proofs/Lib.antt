pub mod FieldBytes
pub mod OneValue
