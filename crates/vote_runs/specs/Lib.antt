pub mod Acts
pub mod Outcomes
pub mod Commits
pub mod Complete
