-- The events of a script are moves of the cluster, so its states are those of a list of moves.
use Rattle.std.proofs.Common.{◌≡◌, ℕ, List, [], ◌∷◌, ◌++◌, Option, None, Some, Result, Ok, Err, refl, sym, ◌∙◌, inl, inr, ◌⊎◌}
use Rattle.px_base.specs.declared.ids.TxId.{TxId}
use Rattle.px_base.specs.declared.push.Push.{Push}
use Rattle.px_ops.specs.declared.refusal.Refusal.{Refusal}
use Rattle.px_cluster.specs.Astray.{Happens, Move, MovesOn}
use Rattle.px_cluster.specs.Cluster.{Cluster, empty}
use Rattle.px_cluster.specs.Core.{Core}
use Rattle.px_cluster.specs.Events.{Event as Happening, Prepare}
use Rattle.px_script.specs.declared.event.Event.{Event}
use Rattle.px_script.specs.declared.event.Event.TheVariants as script
use Rattle.script_run.specs.Machine.{Runs}
use Rattle.cluster_runs.proofs.EachMove.{each_move_goes}
use Rattle.cluster_runs.proofs.Empty.{empty_nodes_are_fit}
use Rattle.cluster_runs.proofs.Safe.{every_run_is_safe}
use Rattle.cluster_runs.specs.Lists.{Prepared, prepared_by_event}
use Rattle.cluster_runs.specs.Lists as list
use Rattle.vote_runs.proofs.Transactions.{moves_both}
use Rattle.node_calls.specs.ReplicaState.{NodeState, nothing}
use Rattle.script_rules.specs.Laws.{EveryStateIsSafe}
use Rattle.script_rules.specs.Machine.{Leads, machine, told}
use Rattle.script_rules.specs.Prepared.{IsPreparedIn, prepared_by}
use Rattle.script_rules.specs.Resolved.{at_found, resolved, storage_named}
use Rattle.script_rules.specs.declared.answer.Answer.{Answer}

-- moves lead from old to new, and hand no other push to a node than the events do
pub record AreMoves (old : Cluster) (asked : List Event) (new : Cluster) : Type 0 where
  pub moves : List Move
  pub on : MovesOn old moves new
  pub prepared : (tx : TxId) (push : Push) → list.IsPreparedIn moves tx push
      → IsPreparedIn asked tx push

-- ---- one after the other

-- one of the moves of both lists is one of either
in_either : (moves more : List Move) (tx : TxId) (push : Push)
    → list.IsPreparedIn (moves ++ more) tx push
    → list.IsPreparedIn moves tx push ⊎ list.IsPreparedIn more tx push
in_either [] more tx push is = inr is
in_either (move ∷ moves) more tx push (inl is) = inl (inl is)
in_either (move ∷ moves) more tx push (inr is) = elim (in_either moves more tx push is) [
  | inl first ↦ inl (inr first)
  | inr second ↦ inr second
]

-- the events of either list are events of both
in_first : (asked more : List Event) (tx : TxId) (push : Push) → IsPreparedIn asked tx push
    → IsPreparedIn (asked ++ more) tx push
in_first [] more tx push is = absurd is
in_first (event ∷ asked) more tx push (inl is) = inl is
in_first (event ∷ asked) more tx push (inr is) = inr (in_first asked more tx push is)

in_second : (asked more : List Event) (tx : TxId) (push : Push) → IsPreparedIn more tx push
    → IsPreparedIn (asked ++ more) tx push
in_second [] more tx push is = is
in_second (event ∷ asked) more tx push is = inr (in_second asked more tx push is)

pub both : (old then_ new : Cluster) (asked more : List Event) → AreMoves old asked then_
    → AreMoves then_ more new → AreMoves old (asked ++ more) new
both old then_ new asked more first second = record {
  moves = first.moves ++ second.moves;
  on = moves_both first.moves second.moves old then_ new first.on second.on;
  prepared = λ tx push is. elim (in_either first.moves second.moves tx push is) [
    | inl is ↦ in_first asked more tx push (first.prepared tx push is)
    | inr is ↦ in_second asked more tx push (second.prepared tx push is)
  ];
}

-- ---- one event

-- what happens hands no other push to a node than the event does
abbrev HandsAs : Event → Result Happening Refusal → Type 0
HandsAs event (Ok happening) = (handed : Prepared) → prepared_by_event happening ≡ Some handed
    → prepared_by event ≡ Some handed
HandsAs event (Err why) = Unit {0}

-- none, where nothing is prepared
none_handed : (event : Event) (name : List ℕ) (happening : ℕ → Happening) (found : Option ℕ)
    → ((storage : ℕ) → prepared_by_event (happening storage) ≡ None)
    → HandsAs event (at_found name happening found)
none_handed event name happening None none = tt
none_handed event name happening (Some storage) none =
    λ handed is. absurd (let z : None ≡ Some handed = sym (none storage) ∙ is in cc)

-- .. and the very push of a line that prepares one
push_handed : (tx : TxId) (name : List ℕ) (push : Push) (found : Option ℕ)
    → HandsAs (script.Prepare tx name push) (at_found name (λ storage. Prepare tx storage push) found)
push_handed tx name push None = tt
push_handed tx name push (Some storage) = λ handed is. is

hands_as : (core : Core) (event : Event) → HandsAs event (resolved core event)
hands_as core (script.Operation asked) =
    λ handed is. absurd (let z : None ≡ Some handed = is in cc)
hands_as core (script.Health name up) =
    none_handed (script.Health name up) name _ (storage_named core name) (λ storage. refl)
hands_as core (script.Make name repo lease) =
    none_handed (script.Make name repo lease) name _ (storage_named core name) (λ storage. refl)
hands_as core (script.Enrol repo name lease) =
    none_handed (script.Enrol repo name lease) name _ (storage_named core name) (λ storage. refl)
hands_as core (script.Prepare tx name push) = push_handed tx name push (storage_named core name)
hands_as core (script.Commit tx name) =
    none_handed (script.Commit tx name) name _ (storage_named core name) (λ storage. refl)
hands_as core (script.Abort tx name) =
    none_handed (script.Abort tx name) name _ (storage_named core name) (λ storage. refl)
hands_as core (script.Refs name repo) =
    none_handed (script.Refs name repo) name _ (storage_named core name) (λ storage. refl)
hands_as core (script.Take name now) =
    none_handed (script.Take name now) name _ (storage_named core name) (λ storage. refl)
hands_as core (script.Snapshot job lease) =
    λ handed is. absurd (let z : None ≡ Some handed = is in cc)
hands_as core (script.Apply job lease) =
    λ handed is. absurd (let z : None ≡ Some handed = is in cc)
hands_as core (script.Remove job lease) =
    λ handed is. absurd (let z : None ≡ Some handed = is in cc)
hands_as core (script.AcceptBegin repo name) =
    none_handed (script.AcceptBegin repo name) name _ (storage_named core name) (λ storage. refl)
hands_as core (script.SettleBegin repo name) =
    none_handed (script.SettleBegin repo name) name _ (storage_named core name) (λ storage. refl)
hands_as core (script.Fence name repo lease) =
    none_handed (script.Fence name repo lease) name _ (storage_named core name) (λ storage. refl)
hands_as core (script.Accept repo name lease) =
    none_handed (script.Accept repo name lease) name _ (storage_named core name) (λ storage. refl)
hands_as core (script.Settle repo name lease) =
    none_handed (script.Settle repo name lease) name _ (storage_named core name) (λ storage. refl)

-- it happens, or nothing does
leads_by : (old new : Cluster) (event : Event) (asked : Result Happening Refusal) (answer : Answer)
    → HandsAs event asked → Leads old asked (told answer) new → AreMoves old (event ∷ []) new
leads_by old new event (Ok happening) answer hands step = record {
  moves = Happens happening (told answer) ∷ [];
  on = (new, step, refl);
  prepared = λ tx push is. elim is [
    | inl is ↦ inl (hands (record { tx = tx; push = push }) is)
    | inr none ↦ absurd none
  ];
}
leads_by old new event (Err why) answer hands same = record {
  moves = [];
  on = same.1;
  prepared = λ tx push none. absurd none;
}

-- ---- a list of events

pub run_moves : (old new : Cluster) (asked : List Event) (answers : List Answer)
    → Runs machine old asked answers new → AreMoves old asked new
run_moves old new [] [] run = record {
  moves = [];
  on = run;
  prepared = λ tx push none. absurd none;
}
run_moves old new [] (answer ∷ answers) run = absurd run
run_moves old new (event ∷ asked) [] run = absurd run
run_moves old new (event ∷ asked) (answer ∷ answers) run =
    both old run.0 new (event ∷ []) asked
    (leads_by old run.0 event (resolved old.core event) answer (hands_as old.core event) run.1)
    (run_moves run.0 new asked answers run.2)

-- no node holds anything at first
abbrev pub no_nodes : ℕ → NodeState
no_nodes = λ storage path. nothing

pub every_state_is_safe : EveryStateIsSafe
unfolding both
every_state_is_safe old new states lawful premise =
    let first = run_moves empty old states.first states.answers states.to in
    let second = run_moves old new states.more states.others states.on in
    let all = both empty old new states.first states.more first second in
    every_run_is_safe each_move_goes no_nodes first.moves second.moves old new empty_nodes_are_fit
    (λ tx push is. lawful tx push (all.prepared tx push is))
    (λ tx one other is is_other. premise tx one other (all.prepared tx one is)
    (all.prepared tx other is_other)) first.on second.on
