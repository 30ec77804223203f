pub mod Books
pub mod Frame
pub mod OneRepository
pub mod Effects
pub mod NodeCalls
pub mod OneReplica
