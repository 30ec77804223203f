mod Additions
mod Locks
mod PlannedLists
mod StoragesOf
