pub mod HashOrder
pub mod HexText
pub mod Lists
pub mod Streams
