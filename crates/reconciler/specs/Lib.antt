pub mod Known
pub mod Listed
pub mod Sites
pub mod Sources
