pub mod Conflicts
pub mod Hook
pub mod Named
pub mod Planned
pub mod Prepared
pub mod RefMap
pub mod Stages
pub mod Updates
