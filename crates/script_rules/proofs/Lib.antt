pub mod OneAnswer
pub mod OneScript
pub mod ScriptMoves
pub mod Transactions
pub mod LawfulLines
pub mod Booked
pub mod Commits
pub mod Complete
