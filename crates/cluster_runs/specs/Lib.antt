pub mod Lists
pub mod Runs
pub mod Safe
pub mod Current
pub mod Later
pub mod Conditions
