pub mod Held
pub mod OpenEnds
pub mod Opening
pub mod RowKeys
pub mod Shelf
