-- The undecided voters, one after another.
use Rattle.std.proofs.Common.{◌≡◌, ℕ, ◌+◌, ◌≤◌, List, [], ◌∷◌, ◌++◌, Bool, true, false, Option, None, Some, arith, ap, sym, ◌∙◌, inl, inr, refl, slice_get, set, if◌then◌else◌, take, drop, length, zero, suc, map, append-nil, length-append, length-set}
use Rattle.std.proofs.lemmas.List.{map-append, drop-set-lt, take_all}
use Rattle.std.proofs.lemmas.Grind.{drop_more_same}
use Rattle.std.proofs.lemmas.Bool.{cases_Bool}
use Rattle.px_base.specs.declared.hash.Hash.{Hash}
use Rattle.px_base.specs.Hash.{same_hash}
use Rattle.voters.specs.declared.act.Act.{Act}
use Rattle.voters.specs.declared.act.Act.TheVariants.{Cancel}
use Rattle.voters.specs.declared.mark.Mark.{Mark}
use Rattle.voters.specs.declared.outcome.Outcome.{Outcome}
use Rattle.voters.specs.declared.outcome.Outcome.TheVariants.{Open, Commit, Fail, Stop}
use Rattle.voters.specs.Calls.{all_canceled}
use Rattle.voters.specs.Results.{result_of, result_by, is_undecided, undecided_from, undecided_voters, undecided_by, standing_of}
use Rattle.voters.specs.Verdict.{Standing}
use Rattle.voters.specs.Votes.{Votes, after, run}
use Rattle.voters.proofs.StepLemmas.{run-append}

pub some_is : (a b : Mark) → Some a ≡ Some b → a ≡ b
some_is a b e = cc

by_parts : (canceled : Bool) (o : Outcome) (vote : Option Hash) (standing : Hash → Standing) (w : ℕ) → let b : Mark = record { weight = w; vote = vote; canceled = canceled } in is_undecided (result_by canceled o vote standing) ≡ undecided_by o b
by_parts true o vote standing w = refl
by_parts false Stop vote standing w = refl
by_parts false Open vote standing w = refl
by_parts false (Commit h) None standing w = refl
by_parts false Fail None standing w = refl
by_parts false (Commit h) (Some g) standing w = elim (cases_Bool (same_hash h g)) [ inl e ↦ rw e refl | inr e ↦ rw e refl ]
by_parts false Fail (Some g) standing w = refl

-- a result is undecided by the outcome and the mark
pub undecided-by : (votes : Votes) (b : Mark) → is_undecided (result_of votes b) ≡ undecided_by votes.outcome b
undecided-by votes b = by_parts b.canceled votes.outcome b.vote (standing_of votes) b.weight

-- one voter more
pub undecided_from-more : (votes : Votes) (bs : List Mark) (i s at : ℕ) (b : Mark) → at ≡ s + i → slice_get bs i ≡ Some b → undecided_from votes s (take (i + 1) bs) ≡ undecided_from votes s (take i bs) ++ (if is_undecided (result_of votes b) then at ∷ [] else [])
undecided_from-more votes [] i s at b here there = absurd (cc)
undecided_from-more votes (x ∷ xs) zero s at b here there =
    let is_b : x ≡ b = some_is x b there in
    let is_s : at ≡ s = omega (arith, here) in
    rw (is_b, is_s) refl
undecided_from-more votes (x ∷ xs) (suc i) s at b here there =
    let rest : undecided_from votes (s + 1) (take (i + 1) xs) ≡ undecided_from votes (s + 1) (take i xs) ++ (if is_undecided (result_of votes b) then at ∷ [] else []) = undecided_from-more votes xs i (s + 1) at b (omega (arith, here)) there in
    let n : suc i + 1 ≡ suc (i + 1) = omega arith in
    rw n (elim (cases_Bool (is_undecided (result_of votes x))) [
      | inl e ↦ rw (e, rest) refl
      | inr e ↦ rw (e, rest) refl
    ])

still_parts : (o : Outcome) (vote : Option Hash) (canceled : Bool) (w : ℕ) → let b : Mark = record { weight = w; vote = vote; canceled = canceled } in undecided_by o b ≡ true → (canceled ≡ false) × ((h : Hash) → o ≡ Commit h → vote ≡ None)
still_parts o vote true w e = absurd (cc)
still_parts o None false w e = (refl, λ h f. refl)
still_parts Open (Some g) false w e = (refl, λ h f. absurd (cc))
still_parts (Commit k) (Some g) false w e = absurd (cc)
still_parts Fail (Some g) false w e = absurd (cc)
still_parts Stop (Some g) false w e = absurd (cc)

-- who may be canceled
pub still-parts : (o : Outcome) (b : Mark) → undecided_by o b ≡ true → (b.canceled ≡ false) × ((h : Hash) → o ≡ Commit h → b.vote ≡ None)
still-parts o b e = still_parts o b.vote b.canceled b.weight e

get_drop : (bs : List Mark) (i : ℕ) → slice_get (drop i bs) 0 ≡ slice_get bs i
get_drop [] zero = refl
get_drop [] (suc i) = refl
get_drop (x ∷ xs) zero = refl
get_drop (x ∷ xs) (suc i) = get_drop xs i

-- marks that are the same from number i on
same_at : (bs cs : List Mark) (i : ℕ) → drop i bs ≡ drop i cs → slice_get bs i ≡ slice_get cs i
same_at bs cs i e = sym (get_drop bs i) ∙ ap (λ (xs : List Mark). slice_get xs 0) e ∙ get_drop cs i

-- the undecided voters in front of number i are canceled, and the others as they were
pub record IsSoFar (votes now : Votes) (i canceled : ℕ) : Type 0 where
  pub steps : now ≡ run (map Cancel (undecided_from votes 0 (take i votes.marks))) votes
  pub count : canceled ≡ length (undecided_from votes 0 (take i votes.marks))
  pub small : canceled ≤ i
  pub long : length now.marks ≡ length votes.marks
  pub rest : drop i now.marks ≡ drop i votes.marks
  pub commit : (h : Hash) → now.outcome ≡ Commit h → votes.outcome ≡ Commit h

pub so_far_canceled : (votes now next : Votes) (i canceled : ℕ) (b new : Mark) → IsSoFar votes now i canceled → slice_get now.marks i ≡ Some b → undecided_by votes.outcome b ≡ true
    → next ≡ after now (Cancel i) → next.marks ≡ set now.marks i new → ((h : Hash) → next.outcome ≡ Commit h → now.outcome ≡ Commit h)
    → IsSoFar votes next (i + 1) (canceled + 1)
so_far_canceled votes now next i canceled b new s there passes act marks commit =
    let was : slice_get votes.marks i ≡ Some b = sym (same_at now.marks votes.marks i s.rest) ∙ there in
    let test : is_undecided (result_of votes b) ≡ true = undecided-by votes b ∙ passes in
    let more : undecided_from votes 0 (take (i + 1) votes.marks) ≡ undecided_from votes 0 (take i votes.marks) ++ i ∷ [] = rw test at (undecided_from-more votes votes.marks i 0 i b (omega arith) was) in
    record {
      steps = act ∙ ap (λ (v : Votes). after v (Cancel i)) s.steps ∙ sym (run-append (map Cancel (undecided_from votes 0 (take i votes.marks))) (Cancel i) votes)
          ∙ ap (λ (xs : List Act). run xs votes) (sym (ap (λ (vs : List ℕ). map Cancel vs) more ∙ map-append _ (undecided_from votes 0 (take i votes.marks)) (i ∷ [])));
      count = rw (more, length-append) (omega (arith, s.count));
      small = omega (arith, s.small);
      long = rw (marks, length-set) s.long;
      rest = rw (marks, drop-set-lt (i + 1) now.marks i new (omega arith)) (drop_more_same now.marks votes.marks i s.rest);
      commit = λ h e. s.commit h (commit h e);
    }

pub so_far_skipped : (votes now : Votes) (i canceled : ℕ) (b : Mark) → IsSoFar votes now i canceled → slice_get now.marks i ≡ Some b → undecided_by votes.outcome b ≡ false
    → IsSoFar votes now (i + 1) canceled
so_far_skipped votes now i canceled b s there not_yet =
    let was : slice_get votes.marks i ≡ Some b = sym (same_at now.marks votes.marks i s.rest) ∙ there in
    let test : is_undecided (result_of votes b) ≡ false = undecided-by votes b ∙ not_yet in
    let same : undecided_from votes 0 (take (i + 1) votes.marks) ≡ undecided_from votes 0 (take i votes.marks) = rw (test, append-nil) at (undecided_from-more votes votes.marks i 0 i b (omega arith) was) in
    record {
      steps = rw same s.steps;
      count = rw same s.count;
      small = omega (arith, s.small);
      long = s.long;
      rest = drop_more_same now.marks votes.marks i s.rest;
      commit = s.commit;
    }

-- all voters are done
pub so_far_all : (votes now : Votes) (i canceled : ℕ) → IsSoFar votes now i canceled → length votes.marks ≤ i
    → (now ≡ all_canceled votes) × (canceled ≡ length (undecided_voters votes))
so_far_all votes now i canceled s end =
    let whole : take i votes.marks ≡ votes.marks = take_all i votes.marks end in
    (rw whole at s.steps, rw whole at s.count)
