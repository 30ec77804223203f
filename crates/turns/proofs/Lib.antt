mod Begins
mod Changes
mod Holders
mod Pushes
