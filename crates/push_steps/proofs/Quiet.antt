-- The operations of which nothing is seen of any repository: health, and what is only asked.
use Rattle.std.proofs.Common.{refl, inl, set}
use Rattle.px_cluster.specs.Reads.{with_read}
use Rattle.cluster_history.specs.Goes.{GoesOn}
use Rattle.cluster_history.specs.History.{Whole}
use Rattle.push_steps.specs.Steps.{BookedGoesOn, FindGoesOn, HealthGoesOn, HolderGoesOn, OutcomeGoesOn, RouteReadGoesOn}
use Rattle.push_steps.proofs.Turns.{turns_go}

-- what is only asked leaves all as it was
asked_goes : (whole : Whole) → GoesOn whole whole
asked_goes whole = turns_go whole whole.cluster.core refl (λ repo. inl refl)

pub health_goes : HealthGoesOn
health_goes storage up whole sound none = turns_go whole
    (record whole.cluster.core { health = set whole.cluster.core.health storage.0 up }) refl
    (λ repo. inl refl)

pub read_goes : RouteReadGoesOn
read_goes repo whole sound none =
    turns_go whole (with_read repo.0 whole.cluster.core) refl (λ other. inl refl)

pub outcome_goes : OutcomeGoesOn
outcome_goes tx sub whole sound none = asked_goes whole

pub booked_goes : BookedGoesOn
booked_goes repo whole sound none = asked_goes whole

pub find_goes : FindGoesOn
find_goes virt path whole sound none = asked_goes whole

pub holder_goes : HolderGoesOn
holder_goes repo whole sound none = asked_goes whole
