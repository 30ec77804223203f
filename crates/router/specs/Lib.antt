pub mod Factors
pub mod Reads
pub mod Routes
