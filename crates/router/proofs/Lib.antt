mod Ascending
pub mod Choosing
mod Places
