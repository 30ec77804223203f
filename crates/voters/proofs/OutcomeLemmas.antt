-- What marks decide.
use Rattle.std.proofs.Common.{◌≡◌, ℕ, ◌*◌, ◌≤◌, ◌<◌, List, [], ◌∷◌, Bool, true, false, Option, None, Some, arith, ap, sym, ◌∙◌, inl, inr, refl, nat_le}
use Rattle.std.specs.List.{list_any, find}
use Rattle.std.proofs.lemmas.Bool.{cases_Bool, cases_lt, false≢true, le-leb, leb-true, lt-leb}
use Rattle.px_base.specs.declared.hash.Hash.{Hash}
use Rattle.px_base.specs.Hash.{same_hash, same_hash-Decides}
use Rattle.voters.specs.declared.mark.Mark.{Mark}
use Rattle.voters.specs.declared.outcome.Outcome.{Outcome}
use Rattle.voters.specs.declared.outcome.Outcome.TheVariants.{Open, Commit, Fail, Stop}
use Rattle.voters.specs.Marks.{committed_hash, standing_weight, standing_hashes, total_weight}
use Rattle.voters.specs.Votes.{decided, or_later}
use Rattle.voters.proofs.MarkLemmas.{two_within_total}
use Rattle.voters.proofs.LostLemmas.{stands}

pub or_later-done : (a b : Outcome) → (a ≡ Open → ⊥) → or_later a b ≡ a
or_later-done Open b done = absurd (done refl)
or_later-done (Commit h) b done = refl
or_later-done Fail b done = refl
or_later-done Stop b done = refl

pub or_later-open : (a b : Outcome) → or_later a b ≡ Open → b ≡ Open
or_later-open Open b e = e
or_later-open (Commit h) b e = absurd (cc)
or_later-open Fail b e = absurd (cc)
or_later-open Stop b e = absurd (cc)

pub decided_open : (c : Option Hash) (l s : Bool) → decided c l s ≡ Open → (c ≡ None) × (l ≡ false) × (s ≡ false)
decided_open (Some h) l s e = absurd (cc)
decided_open None true s e = absurd (cc)
decided_open None false true e = absurd (cc)
decided_open None false false e = (refl, refl, refl)

-- a test that some hash of the list passes is passed by the one that is found
find_some : (p : Hash → Bool) (hashes : List Hash) (h : Hash) → list_any (λ g. same_hash g h) hashes ≡ true → p h ≡ true → (g : Hash) × (find p hashes ≡ Some g) × (p g ≡ true)
find_some p [] h in' passes = absurd (false≢true in')
find_some p (g ∷ gs) h in' passes =
    elim (cases_Bool (p g)) [
      | inl t ↦ (g, rw t refl, t)
      | inr f ↦ elim (cases_Bool (same_hash g h)) [
        | inl e ↦ absurd (false≢true (sym f ∙ (ap p ((same_hash-Decides g h).0 e) ∙ passes)))
        | inr n ↦ (let rest = find_some p gs h (rw n at in') passes in (rest.0, rw f rest.1, rest.2))
      ]
    ]

find_none : (p : Hash → Bool) (hashes : List Hash) → ((h : Hash) → p h ≡ false) → find p hashes ≡ None
find_none p [] never = refl
find_none p (g ∷ gs) never = rw (never g) (find_none p gs never)

-- at most one hash reaches more than half
pub one_commits : (threshold : ℕ) (marks : List Mark) (g h : Hash) → total_weight marks < 2 * threshold → threshold ≤ standing_weight g marks → threshold ≤ standing_weight h marks → g ≡ h
one_commits threshold marks g h most gs hs =
    elim (cases_Bool (same_hash g h)) [
      | inl e ↦ (same_hash-Decides g h).0 e
      | inr n ↦ absurd (omega (arith, two_within_total g h marks n, most, gs, hs))
    ]

pub committed_hash-some : (threshold : ℕ) (marks : List Mark) (h : Hash) → total_weight marks < 2 * threshold → threshold ≤ standing_weight h marks → committed_hash threshold marks ≡ Some h
unfolding committed_hash
committed_hash-some threshold marks h most hs =
    let f = find_some (λ (g : Hash). nat_le threshold (standing_weight g marks)) (standing_hashes marks) h
    (stands h marks (omega (arith, most, hs))) (le-leb _ _ hs) in
    f.1 ∙ ap (λ (g : Hash). Some g) (one_commits threshold marks f.0 h most (leb-true _ _ f.2) hs)

pub committed_hash-none : (threshold : ℕ) (marks : List Mark) → ((h : Hash) → standing_weight h marks < threshold) → committed_hash threshold marks ≡ None
unfolding committed_hash
committed_hash-none threshold marks less =
    find_none (λ (g : Hash). nat_le threshold (standing_weight g marks)) (standing_hashes marks) (λ g. lt-leb _ _ (less g))

pub none_commits : (threshold : ℕ) (marks : List Mark) → total_weight marks < 2 * threshold → committed_hash threshold marks ≡ None → (h : Hash) → standing_weight h marks < threshold
none_commits threshold marks most none h =
    elim (cases_lt (standing_weight h marks) threshold) [
      | inl lt ↦ lt
      | inr le ↦ (let e : None ≡ Some h = sym none ∙ committed_hash-some threshold marks h most le in absurd (cc))
    ]
