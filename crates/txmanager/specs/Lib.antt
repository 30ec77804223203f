pub mod Calls
pub mod Chain
pub mod Readings
pub mod Registry
pub mod Rounds
pub mod Runs
pub mod VoterCalls
pub mod Voting
