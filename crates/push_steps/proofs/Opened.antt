-- A transaction that is opened.
use Rattle.std.proofs.Common.{refl, inl}
use Rattle.px_cluster.specs.Core.{turn_of}
use Rattle.px_cluster.specs.Ops.{with_opened}
use Rattle.px_cluster.specs.Pushes.{next_tx}
use Rattle.push_steps.specs.Steps.{OpenGoesOn}
use Rattle.push_steps.proofs.Turns.{seen_later, turns_go}

pub open_goes : OpenGoesOn
open_goes threshold rounds voters whole sound none =
    let core = whole.cluster.core in
    let new = with_opened threshold rounds voters core in
    turns_go whole new refl (λ repo. inl
    (seen_later core new _ (next_tx core) refl refl sound.form.core.turns repo (turn_of core repo)
    refl))
