mod Added
pub mod ClusterCalls
mod Deliveries
mod NodeLists
