pub mod Reached
pub mod SafeReplica
pub mod SafePush
pub mod Grows
pub mod EventLists
pub mod Conditions
pub mod PushExample
pub mod RepairExample
