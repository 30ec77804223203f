-- Every state of every run is safe, and goes on to every later one.
use Rattle.std.proofs.Common.{◌≡◌, ℕ, List, [], ◌∷◌, ◌++◌, None, Some, refl, sym, subst}
use Rattle.node_calls.specs.ReplicaState.{NodeState}
use Rattle.px_cluster.specs.Astray.{Move, MovesOn}
use Rattle.px_cluster.specs.Cluster.{Cluster, Destination, starting_with}
use Rattle.px_cluster.specs.Growth.{Grows}
use Rattle.replica_invariant.specs.Contents.{Updates, Vote}
use Rattle.safe_states.proofs.SafePush.{every_state_is_safe}
use Rattle.cluster_form.specs.Homes.{IsHome}
use Rattle.cluster_form.proofs.FormKept.{form_always}
use Rattle.cluster_history.specs.History.{Whole}
use Rattle.cluster_history.specs.Seen.{state_of}
use Rattle.cluster_runs.specs.Lists.{AreFit}
use Rattle.cluster_runs.specs.Runs.{EachMoveGoesOn, starting}
use Rattle.cluster_runs.specs.Safe.{EveryRunIsSafe, IsSafeCluster}
use Rattle.cluster_runs.proofs.Grown.{home_stays, newest_never_falls}
use Rattle.cluster_runs.proofs.Runs.{IsKept, Ran, form_on, leads_on_to, run_on}
use Rattle.cluster_runs.proofs.Texts.{LeadApart, prepared_after, prepared_before, text_in}

-- nothing is on record yet
start_kept : (node : ℕ → NodeState) (text : ℕ → ℕ → Vote → Updates) → AreFit node
    → IsKept (starting node text)
start_kept node text fit = record {
  sound = record {
    form = form_always node [] (starting_with node) refl;
    reached = λ repo book there. absurd (let z : None ≡ Some book = there in cc);
    quiet = λ storage path nobodys. fit.quiet storage path;
  };
  nodes = fit.whole;
  snapshots = λ repo storage lease. tt;
}

homes_on : (repo storage : ℕ) (moves : List Move) (old new : Cluster)
    → IsHome old.core repo storage → MovesOn old moves new → IsHome new.core repo storage
homes_on repo storage [] old new home is =
    subst (λ (c : Cluster). IsHome c.core repo storage) (sym is) home
homes_on repo storage (move ∷ moves) old new home is =
    homes_on repo storage moves is.0 new (home_stays repo storage old is.0 move home is.1) is.2

safe_cluster : (whole : Whole) → IsKept whole → IsSafeCluster whole
safe_cluster whole kept = record {
  form = kept.sound.form;
  reached = kept.sound.reached;
  safe = λ repo book there.
      every_state_is_safe (state_of whole repo book) (kept.sound.reached repo book there);
  whole_ = kept.nodes;
}

pub every_run_is_safe : EachMoveGoesOn → EveryRunIsSafe
every_run_is_safe each node moves more old new fit lawful premise first then_ =
    let form = form_on more old new
    (form_on moves (starting_with node) old (form_always node [] (starting_with node) refl) first)
    then_ in
    let apart : LeadApart new.pushed = form.routes.pushes.apart in
    let all = moves ++ more in
    let later : (tx : ℕ) (to : Destination) → old.pushed tx ≡ Some to → new.pushed tx ≡ Some to =
    (λ tx to at. leads_on_to tx to more old new (
      at,
      ((form_on moves (starting_with node) old
          (form_always node [] (starting_with node) refl) first).routes.pushes.each tx to at).given,
    ) then_) in
    let ran : Ran each new.pushed all apart premise lawful
    (starting node (text_in new.pushed all)) old =
    run_on each new.pushed all apart premise lawful moves
    (starting node (text_in new.pushed all)) old
    (λ tx push is. prepared_before moves more tx push is)
    (start_kept node (text_in new.pushed all) fit) refl
    later first in
    let again : MovesOn ran.now.cluster more new =
    subst (λ (c : Cluster). MovesOn c more new) (sym ran.is) then_ in
    let on = run_on each new.pushed all apart premise lawful more ran.now new
    (λ tx push is. prepared_after moves more tx push is) ran.kept ran.same (λ tx to at. at) again in
    record {
      before = ran.now;
      is_before = ran.is;
      after = on.now;
      is_after = on.is;
      safe_before = safe_cluster ran.now ran.kept;
      safe_after = safe_cluster on.now on.kept;
      follows = on.follows;
      grows = subst (λ (c : Cluster). Grows ran.now.cluster.core c.core) (sym on.is)
          (newest_never_falls ran.now.cluster new more again);
      homes = λ repo storage home. subst (λ (c : Cluster). IsHome c.core repo storage) (sym on.is)
          (homes_on repo storage more ran.now.cluster new home again);
    }
