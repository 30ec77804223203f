mod AddedLemmas
mod HashLemmas
mod ReadyLemmas
