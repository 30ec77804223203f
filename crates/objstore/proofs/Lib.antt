pub mod BoundLemmas
pub mod BundleAfter
pub mod BundleLemmas
pub mod Changed
pub mod Comes
pub mod EntriesLemmas
pub mod FirstLemmas
pub mod Ids
mod Moved
pub mod Places
mod PutLemmas
mod QueueLemmas
mod QueuedLemmas
pub mod ReachedLemmas
pub mod TakenBack
pub mod WalkLemmas
