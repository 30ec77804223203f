-- What holds of a subtransaction holds after every longer list of acts.
use Rattle.std.proofs.Common.{◌≡◌, ℕ, ◌≤◌, ◌<◌, List, [], ◌∷◌, ◌++◌, Bool, true, Option, Some, None, arith, ap, sym, ◌∙◌, inl, inr, refl, slice_get, zero, suc}
use Rattle.std.specs.List.{AllByRecursion}
use Rattle.std.specs.Option.{option_map}
use Rattle.std.proofs.lemmas.Bool.{cases_Bool}
use Rattle.px_base.specs.declared.hash.Hash.{Hash}
use Rattle.voters.specs.Marks.{standing_weight}
use Rattle.voters.specs.Results.{committed_in, voted_in}
use Rattle.voters.specs.Rule.{IsPoll}
use Rattle.voters.specs.Sub.{IsSound}
use Rattle.voters.specs.Votes.{Poll, Votes}
use Rattle.voters.specs.declared.outcome.Outcome.{Outcome}
use Rattle.voters.specs.declared.outcome.Outcome.TheVariants.{Open, Commit}
use Rattle.voters.proofs.KeepLemmas.{Keeps}
use Rattle.txmanager.specs.Chain.{Follows, IsChain}
use Rattle.txmanager.specs.Readings.{committed_at, outcome_in}
use Rattle.txmanager.specs.Rounds.{TxAct, after_acts, current, opened}
use Rattle.txmanager.proofs.CarryLemmas.{acts_step, after_acts-append, opened_chain}
use Rattle.txmanager.proofs.ChainLemmas.{KeepEach, Step}

-- what stands in a place now, and keeps what stood there
record Kept (ys : List Votes) (i : ℕ) (a : Votes) : Type 0 where
  now : Votes
  there : slice_get ys i ≡ Some now
  keeps : Keeps a now

kept_at : (xs ys : List Votes) (i : ℕ) (a : Votes) → KeepEach xs ys → slice_get xs i ≡ Some a → Kept ys i a
kept_at [] ys i a k there = absurd (cc)
kept_at (x ∷ xs) [] i a k there = absurd k
kept_at (x ∷ xs) (y ∷ ys) zero a k there = (let e : x ≡ a = cc in record { now = y; there = refl; keeps = rw (← e) k.0 })
kept_at (x ∷ xs) (y ∷ ys) (suc i) a k there =
    let r : Kept ys i a = kept_at xs ys i a k.1 there in record { now = r.now; there = r.there; keeps = r.keeps }

-- a list of acts, and a longer one
both : (poll : Poll) (n : ℕ) (acts more : List TxAct) → IsPoll poll → Step (after_acts acts (opened poll n)) (after_acts (acts ++ more) (opened poll n))
both poll n acts more is =
    let s : Step (opened poll n) (after_acts acts (opened poll n)) = acts_step acts (opened poll n) (opened_chain poll n is) in
    rw (after_acts-append acts more (opened poll n)) (acts_step more (after_acts acts (opened poll n)) s.chain)

pub outcome_kept : (xs ys : List Votes) (i : ℕ) (o : Outcome) (a : Option Votes) → (o ≡ Open → ⊥) → KeepEach xs ys → slice_get xs i ≡ a → option_map (λ (sub : Votes). sub.outcome) a ≡ Some o → outcome_in i ys ≡ Some o
outcome_kept xs ys i o None done k there e = absurd (cc)
outcome_kept xs ys i o (Some a) done k there e =
    let r : Kept ys i a = kept_at xs ys i a k there in
    let is : a.outcome ≡ o = cc in
    rw r.there (ap (λ (x : Outcome). Some x) (r.keeps.outcome (λ f. done (sym is ∙ f)) ∙ is))

-- the outcome
pub keeps_outcome : (poll : Poll) (n i : ℕ) (acts more : List TxAct) (o : Outcome) → IsPoll poll → (o ≡ Open → ⊥) → outcome_in i (after_acts acts (opened poll n)) ≡ Some o → outcome_in i (after_acts (acts ++ more) (opened poll n)) ≡ Some o
keeps_outcome poll n i acts more o is done e =
    outcome_kept (after_acts acts (opened poll n)) (after_acts (acts ++ more) (opened poll n)) i o (slice_get (after_acts acts (opened poll n)) i) done (both poll n acts more is).keeps refl e

commit_kept : (xs ys : List Votes) (i v : ℕ) (a : Option Votes) → KeepEach xs ys → slice_get xs i ≡ a → option_map (committed_in v) a ≡ Some true → committed_at v i ys ≡ Some true
commit_kept xs ys i v None k there e = absurd (cc)
commit_kept xs ys i v (Some a) k there e =
    let r : Kept ys i a = kept_at xs ys i a k there in
    let is : committed_in v a ≡ true = cc in
    rw r.there (ap (λ (x : Bool). Some x) (r.keeps.committed v is))

-- who is committed
pub keeps_commit : (poll : Poll) (n i v : ℕ) (acts more : List TxAct) → IsPoll poll → committed_at v i (after_acts acts (opened poll n)) ≡ Some true → committed_at v i (after_acts (acts ++ more) (opened poll n)) ≡ Some true
keeps_commit poll n i v acts more is e =
    commit_kept (after_acts acts (opened poll n)) (after_acts (acts ++ more) (opened poll n)) i v (slice_get (after_acts acts (opened poll n)) i) (both poll n acts more is).keeps refl e

pub chain_at : (xs : List Votes) (i : ℕ) (a : Votes) → IsChain xs → slice_get xs i ≡ Some a → IsSound a
chain_at [] i a is there = absurd (cc)
chain_at (x ∷ xs) zero a is there = (let e : x ≡ a = cc in rw (← e) is.0)
chain_at (x ∷ xs) (suc i) a is there = chain_at xs i a is.2 there

thresholds : (xs ys : List Votes) (t : ℕ) → KeepEach xs ys → AllByRecursion (λ x. x.threshold ≡ t) xs → AllByRecursion (λ y. y.threshold ≡ t) ys
thresholds [] [] t k all = tt
thresholds [] (y ∷ ys) t k all = absurd k
thresholds (x ∷ xs) [] t k all = absurd k
thresholds (x ∷ xs) (y ∷ ys) t k all = (k.0.threshold ∙ all.0, thresholds xs ys t k.1 all.1)

opened_threshold : (poll : Poll) (n : ℕ) → AllByRecursion (λ x. x.threshold ≡ poll.threshold) (opened poll n)
opened_threshold poll zero = tt
opened_threshold poll (suc n) = (refl, opened_threshold poll n)

-- what holds of each holds of the one in a place
pub all_at : (holds : Votes → Type 0) (xs : List Votes) (i : ℕ) (a : Votes) → AllByRecursion holds xs → slice_get xs i ≡ Some a → holds a
all_at holds [] i a all there = absurd (cc)
all_at holds (x ∷ xs) zero a all there = (let e : x ≡ a = cc in rw (← e) all.0)
all_at holds (x ∷ xs) (suc i) a all there = all_at holds xs i a all.1 there

-- a committed hash has the threshold's weight
pub quorum_at : (poll : Poll) (n i : ℕ) (acts : List TxAct) (h : Hash) (sub : Votes) → IsPoll poll → slice_get (after_acts acts (opened poll n)) i ≡ Some sub → sub.outcome ≡ Commit h → poll.threshold ≤ standing_weight h sub.marks
quorum_at poll n i acts h sub is there o =
    let ys = after_acts acts (opened poll n) in
    let s : Step (opened poll n) ys = acts_step acts (opened poll n) (opened_chain poll n is) in
    let t : sub.threshold ≡ poll.threshold = all_at (λ x. x.threshold ≡ poll.threshold) ys i sub (thresholds (opened poll n) ys poll.threshold s.keeps (opened_threshold poll n)) there in
    omega (arith, t, (chain_at ys i sub s.chain there).leads h o)

pub named : (poll : Poll) (n i : ℕ) (acts more : List TxAct) (h : Hash) (sub : Votes) → IsPoll poll → outcome_in i (after_acts acts (opened poll n)) ≡ Some (Commit h) → slice_get (after_acts (acts ++ more) (opened poll n)) i ≡ Some sub → poll.threshold ≤ standing_weight h sub.marks
named poll n i acts more h sub is e there =
    let later : outcome_in i (after_acts (acts ++ more) (opened poll n)) ≡ Some (Commit h) = keeps_outcome poll n i acts more (Commit h) is (λ f. absurd (cc)) e in
    let is_h : Some sub.outcome ≡ Some (Commit h) = rw there at later in
    quorum_at poll n i (acts ++ more) h sub is there (cc)

-- a voter votes in one after the other
follows_at : (xs : List Votes) (i j : ℕ) (a b : Votes) → IsChain xs → i < j → slice_get xs i ≡ Some a → slice_get xs j ≡ Some b → Follows a b
follows_at [] i j a b is lt there next = absurd (cc)
follows_at (x ∷ xs) i zero a b is lt there next = absurd (omega (arith, lt))
follows_at (x ∷ xs) zero (suc j) a b is lt there next =
    let e : x ≡ a = cc in
    rw (← e) (all_at (λ next. Follows x next) xs j b is.1 next)
follows_at (x ∷ xs) (suc i) (suc j) a b is lt there next = follows_at xs i j a b is.2 (omega (arith, lt)) there next

pub in_turn : (poll : Poll) (n i j v : ℕ) (acts : List TxAct) (sub later : Votes) → IsPoll poll → i < j → slice_get (after_acts acts (opened poll n)) i ≡ Some sub → slice_get (after_acts acts (opened poll n)) j ≡ Some later → voted_in v later ≡ true → committed_in v sub ≡ true
in_turn poll n i j v acts sub later is lt there next voted =
    follows_at (after_acts acts (opened poll n)) i j sub later (acts_step acts (opened poll n) (opened_chain poll n is)).chain lt there next v voted

-- a voter's current subtransaction
current_kept : (xs ys : List Votes) (v : ℕ) → KeepEach xs ys → current v xs ≤ current v ys
current_kept [] [] v k = omega arith
current_kept [] (y ∷ ys) v k = absurd k
current_kept (x ∷ xs) [] v k = absurd k
current_kept (x ∷ xs) (y ∷ ys) v k =
    elim (cases_Bool (committed_in v x)) [
      | inl t ↦ rw (t, k.0.committed v t) (omega (arith, current_kept xs ys v k.1))
      | inr f ↦ rw f (omega arith)
    ]

pub current_on : (poll : Poll) (n v : ℕ) (acts more : List TxAct) → IsPoll poll → current v (after_acts acts (opened poll n)) ≤ current v (after_acts (acts ++ more) (opened poll n))
current_on poll n v acts more is = current_kept (after_acts acts (opened poll n)) (after_acts (acts ++ more) (opened poll n)) v (both poll n acts more is).keeps
