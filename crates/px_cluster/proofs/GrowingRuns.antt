-- At each event and over every list of events a repository stays on record, and newest generations,
-- leases and numbers never fall.
use Rattle.std.proofs.Common.{◌≡◌, ℕ, [], ◌∷◌, Option, None, Some, sym, ◌∙◌, subst, inl, inr, arith}
use Rattle.px_ops.specs.declared.node_refusal.NodeRefusal.{NodeRefusal}
use Rattle.px_ops.specs.declared.op.Op.{Op}
use Rattle.px_ops.specs.declared.refusal.Refusal.{Refusal}
use Rattle.node_calls.specs.ReplicaState.{ReplicaState}
use Rattle.px_cluster.specs.Acknowledged.{event_refusal}
use Rattle.px_cluster.specs.Book.{Repository}
use Rattle.px_cluster.specs.Cluster.{Cluster}
use Rattle.px_cluster.specs.Core.{Core, repository}
use Rattle.px_cluster.specs.Deliveries.{Delivers, Fences, ReadsRefs, TakesSnapshot}
use Rattle.px_cluster.specs.Effects.{Effect, Location, effect_of, location_of, source_of}
use Rattle.px_cluster.specs.Events.{Answer}
use Rattle.px_cluster.specs.Events as event
use Rattle.px_cluster.specs.Growth.{Grows, IsLater, IsOnRecord, RunGrows, StepGrows}
use Rattle.px_cluster.specs.Ledger.{Purpose, answered}
use Rattle.px_cluster.specs.Ops.{unless_refused}
use Rattle.px_cluster.specs.Step.{IsAsked, keeps_nothing, settling, tells_done}
use Rattle.px_cluster.specs.Events.{Voted}
use Rattle.px_cluster.proofs.Growing.{GrowsSo, grows, left, stays}

-- ---- events

same_core : (old new then_ : Cluster) → new ≡ then_ → GrowsSo old.core then_.core
    → Grows old.core new.core
same_core old new then_ is so =
    subst (λ (c : Cluster). Grows old.core c.core) (sym is) (grows old.core then_.core so)

asked_so : (old : Cluster) (refusal : Option Refusal) (done : Cluster)
    → GrowsSo old.core done.core → GrowsSo old.core (unless_refused refusal old done).core
asked_so old None done so = so
asked_so old (Some why) done so = stays old.core

asking : (old new : Cluster) (asked : Op) (answer : Answer) → IsAsked old asked answer new
    → Grows old.core new.core
asking old new asked answer is = same_core old new _ is.leads
    (asked_so old (event_refusal old asked) _ (left old.core asked))

module _ {A : Type 0} (refuses : ReplicaState → NodeRefusal → Type 0)
    (does : ReplicaState → A → ReplicaState → Type 0) (tells : A → Answer)
    (keeps : Purpose → Purpose) where
  delivering : (old new : Cluster) (effect : Option Effect) (answer : Answer)
      → Delivers refuses does tells keeps old effect answer new → Grows old.core new.core
  delivering old new None answer is = same_core old new old is.1 (stays old.core)
  delivering old new (Some effect) answer (inl is) = same_core old new old is.same (stays old.core)
  delivering old new (Some effect) answer (inr is) =
      same_core old new _ is.changes (stays old.core)

fencing : (old new : Cluster) (effect : Option Effect) (answer : Answer)
    → Fences old effect answer new → Grows old.core new.core
fencing old new None answer is = same_core old new old is.1 (stays old.core)
fencing old new (Some effect) answer is = same_core old new _ is.1 (stays old.core)

reading : (old new : Cluster) (location : Option Location) (answer : Answer)
    → ReadsRefs old location answer new → Grows old.core new.core
reading old new None answer is = same_core old new old is.1 (stays old.core)
reading old new (Some location) answer is = same_core old new old is.1 (stays old.core)

taking_snapshot : (old new : Cluster) (source : Option Location) (effect : Option Effect)
    (answer : Answer) → TakesSnapshot old source effect answer new → Grows old.core new.core
taking_snapshot old new source None answer is = same_core old new old is.1 (stays old.core)
taking_snapshot old new None (Some effect) answer is = same_core old new old is.1 (stays old.core)
taking_snapshot old new (Some source) (Some effect) answer (inl is) =
    same_core old new old is.same (stays old.core)
taking_snapshot old new (Some source) (Some effect) answer (inr is) =
    same_core old new _ is.kept (stays old.core)

pub step_grows : StepGrows
step_grows old new (event.Asks asked) answer is = asking old new asked answer is
step_grows old new (event.Settled repo storage lease) answer is =
    asking old new (settling old repo storage lease) answer is
step_grows old new (event.Make storage repo lease) answer is =
    delivering _ _ tells_done answered old new
    (effect_of old (event.Make storage repo lease)) answer is
step_grows old new (event.Prepare tx storage push) answer is =
    delivering _ _ Voted keeps_nothing old new
    (effect_of old (event.Prepare tx storage push)) answer is
step_grows old new (event.Commit tx storage) answer is =
    delivering _ _ Voted answered old new (effect_of old (event.Commit tx storage)) answer is
step_grows old new (event.Abort tx storage) answer is =
    delivering _ _ tells_done keeps_nothing old new
    (effect_of old (event.Abort tx storage)) answer is
step_grows old new (event.Refs storage repo) answer is =
    reading old new (location_of old repo storage) answer is
step_grows old new (event.TakeSnapshot job lease) answer is =
    let effect = effect_of old (event.TakeSnapshot job lease) in
    taking_snapshot old new (source_of old job effect) effect answer is
step_grows old new (event.Apply job lease) answer is =
    delivering _ _ tells_done answered old new (effect_of old (event.Apply job lease)) answer is
step_grows old new (event.Remove job lease) answer is =
    delivering _ _ tells_done answered old new (effect_of old (event.Remove job lease)) answer is
step_grows old new (event.Fence storage repo lease) answer is =
    fencing old new (effect_of old (event.Fence storage repo lease)) answer is
step_grows old new event.Restart answer is = same_core old new _ is.leads (stays old.core)

-- ---- runs

still_on_record : (old then_ new : Core) → Grows old then_ → Grows then_ new → (repo : ℕ)
    (book : Repository) → repository old repo ≡ Some book → IsOnRecord new repo book
still_on_record old then_ new first second repo book is =
    let on = first.books repo book is in
    let later = second.books repo on.book on.there in
    record { book = later.book; there = later.there; later = both on.later later.later }
  where
    both : {a b c : Repository} → IsLater a b → IsLater b c → IsLater a c
    both x y = record {
      virt = y.virt ∙ x.virt;
      path = y.path ∙ x.path;
      newest = omega (arith, x.newest, y.newest);
      last = omega (arith, x.last, y.last);
    }

pub run_grows : RunGrows
run_grows old new [] [] is = same_core old new old is (stays old.core)
run_grows old new [] (answer ∷ answers) is = absurd is
run_grows old new (happened ∷ events) [] is = absurd is
run_grows old new (happened ∷ events) (answer ∷ answers) is =
    let first = step_grows old is.0 happened answer is.1 in
    let rest = run_grows is.0 new events answers is.2 in
    record {
      books = still_on_record old.core is.0.core new.core first rest;
      last_tx = omega (arith, first.last_tx, rest.last_tx);
      last_job = omega (arith, first.last_job, rest.last_job);
    }
