pub mod Happens
pub mod Safe
pub mod Grows
pub mod Conditions
pub mod Examples
