mod FenceLemmas
pub mod OptionLemmas
mod ReachLemmas
mod RefusalLemmas
pub mod ReplicaLemmas
pub mod StepLemmas
mod TipLemmas
pub mod UpdateLemmas
pub mod WholeLemmas
