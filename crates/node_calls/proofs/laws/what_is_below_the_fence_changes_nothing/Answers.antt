-- No call is done whose lease is below the fence.
use Rattle.node_calls.proofs.FenceLemmas.{fence_stays, never_below, never_done}
use Rattle.node_calls.proofs.OptionLemmas.{no_first}
use Rattle.node_calls.proofs.laws.what_is_below_the_fence_changes_nothing.Goals as goal

pub returns : goal.returns
returns c = record {
  create = λ lease path result old new below ends.
      never_done _ _ path old new
      (λ answer place done. never_below lease (old path) below (no_first _ _ done.accepted))
      result ends;
  prepare = λ lease push path result old new below ends.
      never_done _ _ path old new
      (λ answer place done. never_below lease (old path) below (no_first _ _ done.accepted))
      result ends;
  commit = λ lease hash path result old new below ends.
      never_done _ _ path old new
      (λ answer place done. never_below lease (old path) below (no_first _ _ done.accepted))
      result ends;
  abort = λ lease path result old new below ends.
      never_done _ _ path old new
      (λ answer place done. never_below lease (old path) below (no_first _ _ done.accepted))
      result ends;
  fence = fence_stays;
  apply = λ lease given path result old new below ends.
      never_done _ _ path old new
      (λ answer place done. never_below lease (old path) below (no_first _ _ done.accepted))
      result ends;
  remove = λ lease path result old new below ends.
      never_done _ _ path old new
      (λ answer place done. never_below lease (old path) below done.accepted) result ends;
}
