pub mod History
pub mod Seen
pub mod Remembered
pub mod Goes
