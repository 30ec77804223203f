pub mod After
mod Alike
mod Conflicts
mod Creations
pub mod Least
pub mod Names
mod NamesMet
mod OneList
mod Overlaid
mod Passing
pub mod RefLists
mod RefMaps
pub mod Stages
pub mod Under
