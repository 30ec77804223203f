mod Turns
mod Results
mod Accepted
mod OtherActs
mod SameVotes
pub mod Ends
mod Counted
mod Members
mod Cases
mod Doubts
mod OnPush
mod PreparedCast
mod Deciding
mod Joining
mod Prepared
mod CommittedCast
mod Confirming
mod Committed
pub mod Casts
