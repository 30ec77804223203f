-- Whether a panel is lost can be read from its tallies.
use Rattle.std.proofs.Common.{◌≡◌, ℕ, ◌+◌, ◌≤◌, ◌<◌, List, [], ◌∷◌, Bool, true, false, Option, None, Some, arith, ap, sym, ◌∙◌, inl, inr, refl, ◌&&◌, nat_lt, ◌⊎◌, ◌^◌}
use Rattle.std.specs.List.{AllByRecursion, list_any, list_all}
use Rattle.std.proofs.lemmas.Bool.{cases_Bool, cases_lt, false≢true, lt-ltb, ltb-true, and_parts, and_from}
use Rattle.std.proofs.lemmas.List.Sums.{sum_by-cons}
use Rattle.std.proofs.lemmas.List.Elements.{All-from_recursion}
use Rattle.px_base.specs.declared.hash.Hash.{Hash}
use Rattle.px_base.specs.Hash.{same_hash, same_hash-Decides}
use Rattle.voters.specs.declared.mark.Mark.{Mark}
use Rattle.voters.specs.declared.tally.Tally.{Tally}
use Rattle.voters.specs.Marks.{share, standing_hash, standing_hashes, standing_weight, open_weight, total_weight, is_lost, is_hash}
use Rattle.voters.specs.Tallies.{is_for, FitsRaised, CanBeLowered}
use Rattle.voters.specs.Count.{AreTallies}
use Rattle.voters.proofs.TallyLemmas.{IsRight, or_true}
use Rattle.voters.proofs.MarkLemmas.{within_total}

-- two tests that are true of each other are one
pub same_tests : (r s : Bool) → (r ≡ true → s ≡ true) → (s ≡ true → r ≡ true) → r ≡ s
same_tests true s f g = sym (f refl)
same_tests false true f g = g refl
same_tests false false f g = refl

all_of : (q : Hash → Bool) (hashes : List Hash) → ((h : Hash) → q h ≡ true) → list_all q hashes ≡ true
all_of q [] each = refl
all_of q (h ∷ hs) each = rw (each h) (all_of q hs each)

-- a test that each hash of a list passes, passes at one that is in it
pub all_at : (q : Hash → Bool) (hashes : List Hash) (h : Hash) → list_all q hashes ≡ true → list_any (λ g. same_hash g h) hashes ≡ true → q h ≡ true
all_at q [] h all in' = absurd (false≢true in')
all_at q (g ∷ gs) h all in' =
    elim (cases_Bool (same_hash g h)) [
      | inl e ↦ ap q (sym ((same_hash-Decides g h).0 e)) ∙ (and_parts (q g) (list_all q gs) all).0
      | inr e ↦ all_at q gs h (and_parts (q g) (list_all q gs) all).1 (rw e at in')
    ]

stands_one : (h : Hash) (b : Mark) (bs : List Mark) (o : Option Hash) → standing_hash b ≡ o → (is_hash h o ≡ true) ⊎ (list_any (λ g. same_hash g h) (standing_hashes bs) ≡ true) → list_any (λ g. same_hash g h) (standing_hashes (b ∷ bs)) ≡ true
stands_one h b bs None e (inl t) = absurd (false≢true t)
stands_one h b bs None e (inr r) = rw e r
stands_one h b bs (Some g) e (inl t) = rw (e, t) refl
stands_one h b bs (Some g) e (inr r) = rw (e, r) (or_true (same_hash g h))

-- a hash with weight is the hash of a standing vote
pub stands : (h : Hash) (marks : List Mark) → 0 < standing_weight h marks → list_any (λ g. same_hash g h) (standing_hashes marks) ≡ true
stands h [] some = absurd (omega (arith, some))
stands h (b ∷ bs) some =
    elim (cases_Bool (is_hash h (standing_hash b))) [
      | inl e ↦ stands_one h b bs (standing_hash b) refl (inl e)
      | inr e ↦ stands_one h b bs (standing_hash b) refl (inr (stands h bs
          (let none : share h b ≡ 0 = rw e refl in omega (arith, some, sum_by-cons (share h) b bs, none))))
    ]

row_at : (threshold : ℕ) (marks : List Mark) (tallies : List Tally) → AllByRecursion (IsRight marks) tallies → list_all (λ t. nat_lt (t.weight + open_weight marks) threshold) tallies ≡ true → (h : Hash) → list_any (is_for h) tallies ≡ true → standing_weight h marks + open_weight marks < threshold
row_at threshold marks [] r all h in' = absurd (false≢true in')
row_at threshold marks (t ∷ ts) r all h in' =
    let parts = and_parts (nat_lt (t.weight + open_weight marks) threshold) (list_all (λ t. nat_lt (t.weight + open_weight marks) threshold) ts) all in
    elim (cases_Bool (same_hash t.hash h)) [
      | inl e ↦
          (let here : t.weight + open_weight marks < threshold = ltb-true _ _ parts.0 in
          let same : standing_weight t.hash marks ≡ standing_weight h marks = ap (λ (g : Hash). standing_weight g marks) ((same_hash-Decides t.hash h).0 e) in
          omega (arith, here, same, r.0))
      | inr e ↦ row_at threshold marks ts r.1 parts.1 h (rw e at in')
    ]

rows_all : (threshold : ℕ) (marks : List Mark) (tallies : List Tally) → AllByRecursion (IsRight marks) tallies → ((h : Hash) → standing_weight h marks + open_weight marks < threshold) → list_all (λ t. nat_lt (t.weight + open_weight marks) threshold) tallies ≡ true
rows_all threshold marks [] r each = refl
rows_all threshold marks (t ∷ ts) r each =
    and_from _ _ (lt-ltb _ _ (rw r.0 (each t.hash))) (rows_all threshold marks ts r.1 each)

-- a lost panel, for each hash
pub lost_each : (threshold : ℕ) (marks : List Mark) → is_lost threshold marks ≡ true → (h : Hash) → standing_weight h marks + open_weight marks < threshold
unfolding is_lost
lost_each threshold marks lost h =
    let q : Hash → Bool = λ (g : Hash). nat_lt (standing_weight g marks + open_weight marks) threshold in
    let parts = and_parts (nat_lt (open_weight marks) threshold) (list_all q (standing_hashes marks)) lost in
    let few : open_weight marks < threshold = ltb-true _ _ parts.0 in
    elim (cases_lt 0 (standing_weight h marks)) [
      | inl some ↦ ltb-true _ _ (all_at q (standing_hashes marks) h parts.1 (stands h marks some))
      | inr none ↦ omega (arith, none, few)
    ]

pub lost_from_each : (threshold : ℕ) (marks : List Mark) → open_weight marks < threshold → ((h : Hash) → standing_weight h marks + open_weight marks < threshold) → is_lost threshold marks ≡ true
unfolding is_lost
lost_from_each threshold marks few each =
    and_from _ _ (lt-ltb _ _ few) (all_of (λ (g : Hash). nat_lt (standing_weight g marks + open_weight marks) threshold) (standing_hashes marks) (λ h. lt-ltb _ _ (each h)))

-- the test on the tallies
pub lost-is : (threshold : ℕ) (marks : List Mark) (tallies : List Tally) → AreTallies marks tallies → (nat_lt (open_weight marks) threshold && list_all (λ t. nat_lt (t.weight + open_weight marks) threshold) tallies) ≡ is_lost threshold marks
lost-is threshold marks tallies are = same_tests _ _
    (λ t.
    let parts = and_parts (nat_lt (open_weight marks) threshold) (list_all (λ t. nat_lt (t.weight + open_weight marks) threshold) tallies) t in
    let few : open_weight marks < threshold = ltb-true _ _ parts.0 in
    lost_from_each threshold marks few (λ h. elim (cases_lt 0 (standing_weight h marks)) [
      | inl some ↦ row_at threshold marks tallies are.right parts.1 h (are.covers h some)
      | inr none ↦ omega (arith, none, few)
    ]))
    (λ lost.
    and_from _ _ (lt-ltb _ _ (omega (arith, lost_each threshold marks lost (record { 0 = [] }))))
    (rows_all threshold marks tallies are.right (lost_each threshold marks lost)))

fits_rec : (by : ℕ) (marks : List Mark) (tallies : List Tally) → AllByRecursion (IsRight marks) tallies → by ≤ open_weight marks → total_weight marks < 2 ^ 64 → AllByRecursion (λ t. t.weight + by < 2 ^ 64) tallies
fits_rec by marks [] r le fits = tt
fits_rec by marks (t ∷ ts) r le fits = (omega (arith, r.0, within_total t.hash marks, le, fits), fits_rec by marks ts r.1 le fits)

-- no tally overflows by what is open
pub tallies_fit : (by : ℕ) (marks : List Mark) (tallies : List Tally) → AreTallies marks tallies → by ≤ open_weight marks → total_weight marks < 2 ^ 64 → FitsRaised by tallies
tallies_fit by marks tallies are le fits = All-from_recursion (λ t. t.weight + by < 2 ^ 64) tallies (fits_rec by marks tallies are.right le fits)

low_rec : (hash : Hash) (by : ℕ) (marks : List Mark) (tallies : List Tally) → AllByRecursion (IsRight marks) tallies → by ≤ standing_weight hash marks → AllByRecursion (λ t. is_for hash t ≡ true → by ≤ t.weight) tallies
low_rec hash by marks [] r le = tt
low_rec hash by marks (t ∷ ts) r le = (
  λ e. let same : standing_weight t.hash marks ≡ standing_weight hash marks = ap (λ (g : Hash). standing_weight g marks) ((same_hash-Decides t.hash hash).0 e) in omega (arith, r.0, same, le),
  low_rec hash by marks ts r.1 le,
)

pub tallies_low : (hash : Hash) (by : ℕ) (marks : List Mark) (tallies : List Tally) → AreTallies marks tallies → by ≤ standing_weight hash marks → CanBeLowered hash by tallies
tallies_low hash by marks tallies are le = All-from_recursion (λ t. is_for hash t ≡ true → by ≤ t.weight) tallies (low_rec hash by marks tallies are.right le)

pub test-is : (threshold pending : ℕ) (marks : List Mark) (tallies : List Tally) → AreTallies marks tallies → pending ≡ open_weight marks → (nat_lt pending threshold && list_all (λ t. nat_lt (t.weight + pending) threshold) tallies) ≡ is_lost threshold marks
test-is threshold pending marks tallies are e = rw e (lost-is threshold marks tallies are)
