-- What stands behind an effect that was issued, and a delivery that did nothing or was done.
use Rattle.std.proofs.Common.{◌≡◌, ℕ, Bool, true, false, Option, None, Some, if◌then◌else◌, is_some, refl, sym, ◌∙◌, ap, subst, inl, inr}
use Rattle.px_base.specs.declared.hash.Hash.{Hash}
use Rattle.px_ops.specs.declared.node_refusal.NodeRefusal.{NodeRefusal}
use Rattle.node_calls.specs.ReplicaState.{ReplicaState}
use Rattle.px_cluster.specs.Astray.{GoesAstray, GoesUnanswered}
use Rattle.px_cluster.specs.Book.{Repository, has_replica_on}
use Rattle.px_cluster.specs.Cluster.{Cluster, Destination}
use Rattle.px_cluster.specs.Core.{repository}
use Rattle.px_cluster.specs.Deliveries.{Delivers, with_answer, with_state_at}
use Rattle.px_cluster.specs.Effects.{Effect, Location, effect_of, issued_at, issued_for, issued_to, location_in, location_of, purpose_at, state_at}
use Rattle.px_cluster.specs.Events.{Answer, Event}
use Rattle.px_cluster.specs.Ledger.{Creation, Deleting, Fencing, Purpose, Pushing, Unused, Updating, commit_in, is_creation, is_fence, is_push}
use Rattle.cluster_form.proofs.Lists.{bool, some_is}
use Rattle.cluster_history.specs.Goes.{GoesOn}
use Rattle.cluster_history.specs.History.{Whole}
use Rattle.cluster_history.specs.Remembered.{after_delivery, after_effect, after_move, by_delivery, is_refused}
use Rattle.cluster_history.proofs.Frame.{looks_itself}
use Rattle.cluster_history.proofs.OneRepository.{none_goes}

-- ---- a replica at its node

pub record IsReplica (c : Cluster) (at : Location) : Type 0 where
  pub book : Repository
  pub known : repository c.core at.repo ≡ Some book
  pub there : has_replica_on book at.storage ≡ true
  pub path : at.path ≡ book.path

-- what a location that is found is
located : (c : Cluster) (repo storage : ℕ) (there : Option Repository) (at : Location)
    → repository c.core repo ≡ there → location_in there repo storage ≡ Some at
    → IsReplica c at × (at.repo ≡ repo) × (at.storage ≡ storage)
located c repo storage None at known is = absurd (let z : None ≡ Some at = is in cc)
located c repo storage (Some book) at known is = elim (bool (has_replica_on book storage)) [
  | inl holds ↦ (
      let here : Location = record { repo = repo; path = book.path; storage = storage } in
      let found : Some here ≡ Some at = rw holds at is in
      subst (λ x. IsReplica c x × (x.repo ≡ repo) × (x.storage ≡ storage)) (some_is here at found)
      (record { book = book; known = known; there = holds; path = refl }, refl, refl))
  | inr fails ↦ absurd (let z : None ≡ Some at = rw fails at is in cc)
]

pub location_is : (c : Cluster) (repo storage : ℕ) (at : Location)
    → location_of c repo storage ≡ Some at
    → IsReplica c at × (at.repo ≡ repo) × (at.storage ≡ storage)
location_is c repo storage at is = located c repo storage (repository c.core repo) at refl is

-- ---- an effect that was issued

pub record IsIssued (c : Cluster) (test : Purpose → Bool) (effect : Effect) : Type 0 where
  pub replica : IsReplica c effect.at
  pub passes : test (purpose_at c effect) ≡ true

pub record IsAt (c : Cluster) (test : Purpose → Bool) (repo storage lease : ℕ) (effect : Effect)
    : Type 0 where
  pub issued : IsIssued c test effect
  pub repo_ : effect.at.repo ≡ repo
  pub storage_ : effect.at.storage ≡ storage
  pub lease_ : effect.lease ≡ lease

pub issued_is : (c : Cluster) (test : Purpose → Bool) (lease repo storage : ℕ) (effect : Effect)
    → issued_at c test lease (location_of c repo storage) ≡ Some effect
    → IsAt c test repo storage lease effect
issued_is c test lease repo storage effect is = by (location_of c repo storage) refl is
  where
    by : (there : Option Location) → location_of c repo storage ≡ there
        → issued_at c test lease there ≡ Some effect → IsAt c test repo storage lease effect
    by None at found = absurd (let z : None ≡ Some effect = found in cc)
    by (Some here) at found = elim (bool (test (c.ledger here.repo here.storage lease))) [
      | inl holds ↦ (
          let one : Effect = record { at = here; lease = lease } in
          let same : Some one ≡ Some effect = rw holds at found in
          let is_ = location_is c repo storage here at in
          subst (λ x. IsAt c test repo storage lease x) (some_is one effect same) (record {
            issued = record { replica = is_.0; passes = holds };
            repo_ = is_.1;
            storage_ = is_.2;
            lease_ = refl;
          }))
      | inr fails ↦ absurd (let z : None ≡ Some effect = rw fails at found in cc)
    ]

-- .. of the push of a transaction
pub record IsSent (c : Cluster) (test : Purpose → Bool) (tx storage : ℕ) (effect : Effect)
    : Type 0 where
  pub to : Destination
  pub pushed : c.pushed tx ≡ Some to
  pub at : IsAt c test to.repo storage to.number effect

pub sent_is : (c : Cluster) (test : Purpose → Bool) (tx storage : ℕ) (effect : Effect)
    → issued_to c test storage (c.pushed tx) ≡ Some effect → IsSent c test tx storage effect
sent_is c test tx storage effect is = by (c.pushed tx) refl is
  where
    by : (there : Option Destination) → c.pushed tx ≡ there
        → issued_to c test storage there ≡ Some effect → IsSent c test tx storage effect
    by None at found = absurd (let z : None ≡ Some effect = found in cc)
    by (Some to) at found = record {
      to = to;
      pushed = at;
      at = issued_is c test to.number to.repo storage effect found;
    }

-- .. of a job, under a lease
pub record IsWork (c : Cluster) (test : Purpose → Bool) (job lease : ℕ) (effect : Effect)
    : Type 0 where
  pub to : Destination
  pub worked : c.worked job ≡ Some to
  pub at : IsAt c test to.repo to.number lease effect

pub work_is : (c : Cluster) (test : Purpose → Bool) (job lease : ℕ) (effect : Effect)
    → issued_for c test lease (c.worked job) ≡ Some effect → IsWork c test job lease effect
work_is c test job lease effect is = by (c.worked job) refl is
  where
    by : (there : Option Destination) → c.worked job ≡ there
        → issued_for c test lease there ≡ Some effect → IsWork c test job lease effect
    by None at found = absurd (let z : None ≡ Some effect = found in cc)
    by (Some to) at found = record {
      to = to;
      worked = at;
      at = issued_is c test lease to.repo to.number effect found;
    }

-- ---- what a lease was drawn for, by a test that it passes

pub creation_is : (purpose : Purpose) → is_creation purpose ≡ true
    → (made : Bool) × (purpose ≡ Creation made)
creation_is (Creation made) is = (made, refl)
creation_is Unused is = absurd (let z : false ≡ true = is in cc)
creation_is (Pushing begun commit answered) is = absurd (let z : false ≡ true = is in cc)
creation_is (Updating job source generation kept answered) is =
    absurd (let z : false ≡ true = is in cc)
creation_is (Deleting job answered) is = absurd (let z : false ≡ true = is in cc)
creation_is (Fencing last) is = absurd (let z : false ≡ true = is in cc)

pub push_is : (purpose : Purpose) → is_push purpose ≡ true
    → (begun : ℕ) × (commit : Option Hash) × (answered : Bool)
    × (purpose ≡ Pushing begun commit answered)
push_is (Pushing begun commit answered) is = (begun, commit, answered, refl)
push_is Unused is = absurd (let z : false ≡ true = is in cc)
push_is (Creation made) is = absurd (let z : false ≡ true = is in cc)
push_is (Updating job source generation kept answered) is =
    absurd (let z : false ≡ true = is in cc)
push_is (Deleting job answered) is = absurd (let z : false ≡ true = is in cc)
push_is (Fencing last) is = absurd (let z : false ≡ true = is in cc)

pub commit_is : (purpose : Purpose) → is_some (commit_in purpose) ≡ true
    → (begun : ℕ) × (hash : Hash) × (answered : Bool)
    × (purpose ≡ Pushing begun (Some hash) answered)
commit_is (Pushing begun (Some hash) answered) is = (begun, hash, answered, refl)
commit_is (Pushing begun None answered) is = absurd (let z : false ≡ true = is in cc)
commit_is Unused is = absurd (let z : false ≡ true = is in cc)
commit_is (Creation made) is = absurd (let z : false ≡ true = is in cc)
commit_is (Updating job source generation kept answered) is =
    absurd (let z : false ≡ true = is in cc)
commit_is (Deleting job answered) is = absurd (let z : false ≡ true = is in cc)
commit_is (Fencing last) is = absurd (let z : false ≡ true = is in cc)

pub fence_is : (purpose : Purpose) → is_fence purpose ≡ true
    → (last : Option (Option ℕ)) × (purpose ≡ Fencing last)
fence_is (Fencing last) is = (last, refl)
fence_is Unused is = absurd (let z : false ≡ true = is in cc)
fence_is (Creation made) is = absurd (let z : false ≡ true = is in cc)
fence_is (Pushing begun commit answered) is = absurd (let z : false ≡ true = is in cc)
fence_is (Updating job source generation kept answered) is =
    absurd (let z : false ≡ true = is in cc)
fence_is (Deleting job answered) is = absurd (let z : false ≡ true = is in cc)

-- ---- a delivery that did nothing

pub nothing_goes : (whole : Whole) → GoesOn whole whole
nothing_goes whole = none_goes whole whole refl (λ repo book there. looks_itself whole repo book)

-- ---- a delivery that did nothing, or was done

module _ {A : Type 0} (refuses : ReplicaState → NodeRefusal → Type 0)
    (does : ReplicaState → A → ReplicaState → Type 0) (tells : A → Answer)
    (keeps : Purpose → Purpose) (whole : Whole) (happened : Event)
    (plain : (result : A) → is_refused (tells result) ≡ false)
    (done : (effect : Effect) (result : A) (state : ReplicaState)
    → effect_of whole.cluster happened ≡ Some effect
    → does (state_at whole.cluster effect.at) result state → GoesOn whole (record {
      cluster = with_answer (with_state_at whole.cluster effect.at state) effect keeps;
      history = by_delivery whole.history whole.cluster happened effect;
    })) where
  abbrev Leads : Option Effect → Answer → Cluster → Type 0
  Leads effect answer new = GoesOn whole (record {
    cluster = new;
    history = if is_refused answer then whole.history else after_effect whole happened effect;
  })

  refused_so : (effect : Option Effect) (answer : Answer) (new : Cluster) → new ≡ whole.cluster
      → is_refused answer ≡ true → Leads effect answer new
  refused_so effect answer new same is = subst (λ (w : Whole). GoesOn whole w) (λ i. record {
    cluster = sym same i;
    history = if sym is i then whole.history else after_effect whole happened effect;
  }) (nothing_goes whole)

  by_effect : (effect : Option Effect) (answer : Answer) (new : Cluster)
      → effect_of whole.cluster happened ≡ effect
      → Delivers refuses does tells keeps whole.cluster effect answer new → Leads effect answer new
  by_effect None answer new is delivers =
      refused_so None answer new delivers.1 (ap is_refused delivers.0)
  by_effect (Some effect) answer new is (inl delivers) =
      refused_so (Some effect) answer new delivers.same (ap is_refused delivers.answer_)
  by_effect (Some effect) answer new is (inr delivers) =
      subst (λ (w : Whole). GoesOn whole w) (λ i. record {
        cluster = sym delivers.changes i;
        history = if sym (ap is_refused delivers.answer_ ∙ plain delivers.result) i
            then whole.history else after_effect whole happened (Some effect);
      }) (done effect delivers.result delivers.state is delivers.does_)

  -- whatever it is answered
  pub delivered_goes : (answer : Answer) (new : Cluster)
      → Delivers refuses does tells keeps whole.cluster (effect_of whole.cluster happened) answer new
      → GoesOn whole (after_delivery whole happened answer new)
  delivered_goes answer new delivers =
      by_effect (effect_of whole.cluster happened) answer new refl delivers

-- .. or was done, and its answer is lost
module _ {A : Type 0} (does : ReplicaState → A → ReplicaState → Type 0) (whole : Whole)
    (happened : Event)
    (done : (effect : Effect) (result : A) (state : ReplicaState)
    → effect_of whole.cluster happened ≡ Some effect
    → does (state_at whole.cluster effect.at) result state → GoesOn whole (record {
      cluster = with_state_at whole.cluster effect.at state;
      history = by_delivery whole.history whole.cluster happened effect;
    })) where
  by_loss : (effect : Option Effect) (new : Cluster) → effect_of whole.cluster happened ≡ effect
      → GoesUnanswered does whole.cluster effect new
      → GoesOn whole (record { cluster = new; history = after_effect whole happened effect })
  by_loss None new is goes = absurd goes
  by_loss (Some effect) new is goes = subst (λ (w : Whole). GoesOn whole w)
      (λ i. record {
        cluster = sym goes.changes i;
        history = by_delivery whole.history whole.cluster happened effect;
      }) (done effect goes.result goes.state is goes.does_)

  pub unanswered_goes : (new : Cluster)
      → GoesUnanswered does whole.cluster (effect_of whole.cluster happened) new
      → GoesOn whole (after_move whole (GoesAstray happened) new)
  unanswered_goes new goes = by_loss (effect_of whole.cluster happened) new refl goes
