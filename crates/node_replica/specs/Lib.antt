pub mod Checks
pub mod Effects
pub mod Hashes
pub mod Kept
pub mod Prepared
pub mod Replica
pub mod Told
