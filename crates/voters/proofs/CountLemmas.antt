-- A count stays right when one mark is cast or canceled.
use Rattle.std.proofs.Common.{◌≡◌, ℕ, ◌+◌, ◌≤◌, List, [], ◌∷◌, Bool, true, false, Option, None, Some, set, arith, inl, inr, refl, slice_get, length, map, sum_by, length-append, if◌then◌else◌}
use Rattle.std.specs.List.{list_any}
use Rattle.std.specs.Option.{is_none, IfSome}
use Rattle.std.proofs.lemmas.Bool.{cases_Bool, true≢false}
use Rattle.std.proofs.lemmas.List.{length-map}
use Rattle.std.proofs.lemmas.List.Sums.{sum_by-cons}
use Rattle.px_base.specs.declared.hash.Hash.{Hash}
use Rattle.px_base.specs.Hash.{same_hash}
use Rattle.voters.specs.declared.mark.Mark.{Mark}
use Rattle.px_base.specs.declared.voter.Voter.{Voter}
use Rattle.voters.specs.declared.tally.Tally.{Tally}
use Rattle.voters.specs.Marks.{share, open_share, mark_weight, standing_weight, open_weight, total_weight, voting, canceling, is_open, fresh, voter_weight}
use Rattle.voters.specs.Tallies.{is_for, raised, lowered, with_vote, without_vote, CanBeLowered}
use Rattle.voters.specs.Count.{AreTallies}
use Rattle.voters.proofs.MarkLemmas.{sum-set, voted_shares, is_open-parts}
use Rattle.voters.proofs.TallyLemmas.{Raises, raised-tallies, added-tallies, lowered-tallies, same-tallies, same_hash-refl}
use Rattle.voters.proofs.LostLemmas.{tallies_low}

abbrev pub no_vote : Mark → ℕ
no_vote b = if is_none b.vote then 1 else 0

pub with_vote-tallies : (hash : Hash) (by : ℕ) (old new : List Mark) → Raises hash by old new → (tallies : List Tally) → AreTallies old tallies → AreTallies new (with_vote hash by tallies)
with_vote-tallies hash by old new up tallies are =
    elim (cases_Bool (list_any (is_for hash) tallies)) [
      | inl e ↦ rw e (raised-tallies hash by old new up tallies are e)
      | inr e ↦ rw e (added-tallies hash by old new up tallies are e)
    ]

pub length-with_vote : (hash : Hash) (by : ℕ) (tallies : List Tally) → length (with_vote hash by tallies) ≤ length tallies + 1
length-with_vote hash by tallies =
    elim (cases_Bool (list_any (is_for hash) tallies)) [
      | inl e ↦ rw e (omega (arith, length-map tallies (raised hash by)))
      | inr e ↦ rw e (let last : Tally = record { hash = hash; weight = by } in omega (arith, length-append tallies (last ∷ [])))
    ]

-- a vote raises what stands for its hash
pub vote-raises : (hash : Hash) (marks : List Mark) (v : ℕ) (b : Mark) → slice_get marks v ≡ Some b → is_open b ≡ true → Raises hash b.weight marks (set marks v (voting b hash))
vote-raises hash marks v b there o g =
    let s = voted_shares hash g b o in
    let e : standing_weight g (set marks v (voting b hash)) + share g b ≡ standing_weight g marks + share g (voting b hash) = sum-set (share g) marks v b (voting b hash) there in
    omega (arith, e, s.0, s.1)

pub vote-weights : (hash : Hash) (marks : List Mark) (v : ℕ) (b : Mark) → slice_get marks v ≡ Some b → is_open b ≡ true → (total_weight (set marks v (voting b hash)) ≡ total_weight marks) × (open_weight (set marks v (voting b hash)) + b.weight ≡ open_weight marks) × (sum_by no_vote (set marks v (voting b hash)) + 1 ≡ sum_by no_vote marks)
vote-weights hash marks v b there o =
    let s = voted_shares hash hash b o in
    let new = voting b hash in
    let one : no_vote b ≡ 1 = rw (is_open-parts b o).0 refl in
    let none : no_vote new ≡ 0 = refl in
    let same : mark_weight new ≡ mark_weight b = refl in (
      omega (arith, sum-set mark_weight marks v b new there, same),
      omega (arith, sum-set open_share marks v b new there, s.2, s.3),
      omega (arith, sum-set no_vote marks v b new there, one, none),
    )

-- what a cancel takes from a hash
unfoldable pub taken : Option Hash → ℕ → Hash → ℕ
taken None by g = 0
taken (Some hash) by g = if same_hash hash g then by else 0

cancel_parts : (g : Hash) (w : ℕ) (vote : Option Hash) (canceled : Bool) → canceled ≡ false → let b : Mark = record { weight = w; vote = vote; canceled = canceled } in (share g b ≡ taken vote w g) × (share g (canceling b) ≡ 0) × (open_share (canceling b) ≡ 0)
unfolding taken
cancel_parts g w None false e = (refl, refl, refl)
cancel_parts g w (Some k) false e = (refl, refl, refl)
cancel_parts g w vote true e = absurd (true≢false e)

pub cancel_shares : (g : Hash) (b : Mark) → b.canceled ≡ false → (share g b ≡ taken b.vote b.weight g) × (share g (canceling b) ≡ 0) × (open_share (canceling b) ≡ 0)
cancel_shares g b e = cancel_parts g b.weight b.vote b.canceled e

pub cancel-lowers : (marks : List Mark) (v : ℕ) (b : Mark) → slice_get marks v ≡ Some b → b.canceled ≡ false → (g : Hash) → standing_weight g (set marks v (canceling b)) + taken b.vote b.weight g ≡ standing_weight g marks
cancel-lowers marks v b there e g =
    let s = cancel_shares g b e in
    omega (arith, sum-set (share g) marks v b (canceling b) there, s.0, s.1)

without_some : (vote : Option Hash) (by : ℕ) (old new : List Mark) → ((g : Hash) → standing_weight g new + taken vote by g ≡ standing_weight g old) → (tallies : List Tally) → AreTallies old tallies → AreTallies new (without_vote vote by tallies)
unfolding taken
without_some None by old new down tallies are = same-tallies old new (λ g. omega (arith, down g)) tallies are
without_some (Some hash) by old new down tallies are = lowered-tallies hash by old new down tallies are

pub cancel-tallies : (marks : List Mark) (v : ℕ) (b : Mark) → slice_get marks v ≡ Some b → b.canceled ≡ false → (tallies : List Tally) → AreTallies marks tallies → AreTallies (set marks v (canceling b)) (without_vote b.vote b.weight tallies)
cancel-tallies marks v b there e tallies are =
    without_some b.vote b.weight marks (set marks v (canceling b)) (cancel-lowers marks v b there e) tallies are

length-without : (vote : Option Hash) (by : ℕ) (tallies : List Tally) → length (without_vote vote by tallies) ≡ length tallies
length-without None by tallies = refl
length-without (Some hash) by tallies = length-map tallies (lowered hash by)

pub length-without_vote : (vote : Option Hash) (by : ℕ) (tallies : List Tally) → length (without_vote vote by tallies) ≡ length tallies
length-without_vote vote by tallies = length-without vote by tallies

pub cancel-weights : (marks : List Mark) (v : ℕ) (b : Mark) → slice_get marks v ≡ Some b → b.canceled ≡ false → (total_weight (set marks v (canceling b)) ≡ total_weight marks) × (open_weight (set marks v (canceling b)) + open_share b ≡ open_weight marks) × (sum_by no_vote (set marks v (canceling b)) ≡ sum_by no_vote marks)
cancel-weights marks v b there e =
    let s = cancel_shares (record { 0 = [] }) b e in
    let new = canceling b in
    let same : mark_weight new ≡ mark_weight b = refl in
    let same_vote : no_vote new ≡ no_vote b = refl in (
      omega (arith, sum-set mark_weight marks v b new there, same),
      omega (arith, sum-set open_share marks v b new there, s.2),
      omega (arith, sum-set no_vote marks v b new there, same_vote),
    )

stands_low : (vote : Option Hash) (by : ℕ) (marks : List Mark) → ((g : Hash) → taken vote by g ≤ standing_weight g marks) → (tallies : List Tally) → AreTallies marks tallies → IfSome vote (λ hash. CanBeLowered hash by tallies)
unfolding taken
stands_low None by marks le tallies are = tt
stands_low (Some hash) by marks le tallies are =
    tallies_low hash by marks tallies are (let own : taken (Some hash) by hash ≡ by = rw (same_hash-refl hash) refl in omega (arith, le hash, own))

-- what stands for a mark's hash is at least its weight
pub cancel_low : (marks : List Mark) (v : ℕ) (b : Mark) → slice_get marks v ≡ Some b → b.canceled ≡ false → (tallies : List Tally) → AreTallies marks tallies → IfSome b.vote (λ hash. CanBeLowered hash b.weight tallies)
cancel_low marks v b there e tallies are =
    stands_low b.vote b.weight marks (λ g. omega (arith, cancel-lowers marks v b there e g)) tallies are

new_share : (hash : Hash) (voters : List Voter) → standing_weight hash (map fresh voters) ≡ 0
new_share hash [] = refl
new_share hash (v ∷ vs) = omega (arith, sum_by-cons (share hash) (fresh v) (map fresh vs), new_share hash vs)

new_open : (voters : List Voter) → open_weight (map fresh voters) ≡ sum_by voter_weight voters
new_open [] = refl
new_open (v ∷ vs) = omega (arith, sum_by-cons open_share (fresh v) (map fresh vs), sum_by-cons voter_weight v vs, new_open vs)

pub new_total : (voters : List Voter) → total_weight (map fresh voters) ≡ sum_by voter_weight voters
new_total [] = refl
new_total (v ∷ vs) = omega (arith, sum_by-cons mark_weight (fresh v) (map fresh vs), sum_by-cons voter_weight v vs, new_total vs)

new_votes : (voters : List Voter) → sum_by no_vote (map fresh voters) ≡ length voters
new_votes [] = refl
new_votes (v ∷ vs) = omega (arith, sum_by-cons no_vote (fresh v) (map fresh vs), new_votes vs)

-- what a new count keeps
pub record StartsRight (voters : List Voter) : Type 0 where
  pub total : total_weight (map fresh voters) ≡ sum_by voter_weight voters
  pub pending : open_weight (map fresh voters) ≡ sum_by voter_weight voters
  pub tallies : AreTallies (map fresh voters) []
  pub votes : sum_by no_vote (map fresh voters) ≡ length voters

pub starts_right : (voters : List Voter) → StartsRight voters
starts_right voters = record {
  total = new_total voters;
  pending = new_open voters;
  tallies = record { right = tt; covers = λ h some. absurd (omega (arith, some, new_share h voters)) };
  votes = new_votes voters;
}
