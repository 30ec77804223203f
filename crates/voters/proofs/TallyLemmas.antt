-- Tallies, kept up to date, are those of the marks.
use Rattle.std.proofs.Common.{◌≡◌, ℕ, ◌+◌, ◌<◌, List, [], ◌∷◌, ◌++◌, Bool, true, false, map, if◌then◌else◌, arith, ap, sym, ◌∙◌, inl, inr, refl, add-zero, ◌||◌}
use Rattle.std.specs.List.{AllByRecursion, list_any}
use Rattle.std.proofs.lemmas.Bool.{cases_Bool, cases_lt, false≢true}
use Rattle.std.proofs.Common.{◌⊎◌}
use Rattle.px_base.specs.declared.hash.Hash.{Hash}
use Rattle.px_base.specs.Hash.{same_hash, same_hash-Decides}
use Rattle.voters.specs.declared.mark.Mark.{Mark}
use Rattle.voters.specs.declared.tally.Tally.{Tally}
use Rattle.voters.specs.Marks.{standing_weight}
use Rattle.voters.specs.Tallies.{raised, lowered, is_for, tally_of}
use Rattle.voters.specs.Count.{AreTallies}
use Rattle.voters.proofs.MarkLemmas.{same_hash-sym}

abbrev pub IsRight : List Mark → Tally → Type 0
IsRight marks tally = tally.weight ≡ standing_weight tally.hash marks

tally_found : (marks : List Mark) (hash : Hash) (tallies : List Tally) → AllByRecursion (IsRight marks) tallies → list_any (is_for hash) tallies ≡ true → tally_of hash tallies ≡ standing_weight hash marks
tally_found marks hash [] r h = absurd (false≢true h)
tally_found marks hash (t ∷ ts) r h =
    elim (cases_Bool (same_hash t.hash hash)) [
      | inl e ↦ rw e (r.0 ∙ ap (λ (g : Hash). standing_weight g marks) ((same_hash-Decides t.hash hash).0 e))
      | inr e ↦ rw e (tally_found marks hash ts r.1 (rw e at h))
    ]

tally_none : (hash : Hash) (tallies : List Tally) → list_any (is_for hash) tallies ≡ false → tally_of hash tallies ≡ 0
tally_none hash [] h = refl
tally_none hash (t ∷ ts) h =
    elim (cases_Bool (same_hash t.hash hash)) [
      | inl e ↦ absurd (false≢true (sym (rw e at h)))
      | inr e ↦ rw e (tally_none hash ts (rw e at h))
    ]

pub or_true : (b : Bool) → (b || true) ≡ true
or_true true = refl
or_true false = refl

-- the tally of a hash is the weight that stands for it
pub tally_of-is : (marks : List Mark) (tallies : List Tally) → AreTallies marks tallies → (hash : Hash) → tally_of hash tallies ≡ standing_weight hash marks
tally_of-is marks tallies are hash =
    elim (cases_Bool (list_any (is_for hash) tallies)) [
      | inl e ↦ tally_found marks hash tallies are.right e
      | inr e ↦ elim (cases_lt 0 (standing_weight hash marks)) [
        | inl some ↦ absurd (false≢true (sym e ∙ are.covers hash some))
        | inr none ↦ tally_none hash tallies e ∙ omega (arith, none)
      ]
    ]

is_for-raised : (g hash : Hash) (by : ℕ) (t : Tally) → is_for g (raised hash by t) ≡ is_for g t
is_for-raised g hash by t = elim (cases_Bool (same_hash t.hash hash)) [ inl e ↦ rw e refl | inr e ↦ rw e refl ]

any-raised : (g hash : Hash) (by : ℕ) (tallies : List Tally) → list_any (is_for g) (map (raised hash by) tallies) ≡ list_any (is_for g) tallies
any-raised g hash by [] = refl
any-raised g hash by (t ∷ ts) = rw (is_for-raised g hash by t, any-raised g hash by ts) refl

is_for-lowered : (g hash : Hash) (by : ℕ) (t : Tally) → is_for g (lowered hash by t) ≡ is_for g t
is_for-lowered g hash by t = elim (cases_Bool (same_hash t.hash hash)) [ inl e ↦ rw e refl | inr e ↦ rw e refl ]

any-lowered : (g hash : Hash) (by : ℕ) (tallies : List Tally) → list_any (is_for g) (map (lowered hash by) tallies) ≡ list_any (is_for g) tallies
any-lowered g hash by [] = refl
any-lowered g hash by (t ∷ ts) = rw (is_for-lowered g hash by t, any-lowered g hash by ts) refl

-- the new marks have so much more for a hash
abbrev pub Raises : Hash → ℕ → List Mark → List Mark → Type 0
Raises hash by old new = (g : Hash) → standing_weight g new ≡ standing_weight g old + (if same_hash hash g then by else 0)

raised-right : (hash : Hash) (by : ℕ) (old new : List Mark) → Raises hash by old new → (tallies : List Tally) → AllByRecursion (IsRight old) tallies → AllByRecursion (IsRight new) (map (raised hash by) tallies)
raised-right hash by old new up [] r = tt
raised-right hash by old new up (t ∷ ts) r = (
  elim (cases_Bool (same_hash t.hash hash)) [
    | inl e ↦ rw e (ap (λ (n : ℕ). n + by) r.0 ∙ sym (rw (sym (same_hash-sym t.hash hash) ∙ e) at (up t.hash)))
    | inr e ↦ rw e (r.0 ∙ sym (rw (sym (same_hash-sym t.hash hash) ∙ e, add-zero) at (up t.hash)))
  ],
  raised-right hash by old new up ts r.1,
)

-- a hash that weighs more than before weighed something, or is the raised one
raised_covers : (hash : Hash) (by : ℕ) (old new : List Mark) → Raises hash by old new → (g : Hash) → 0 < standing_weight g new → (0 < standing_weight g old) ⊎ (hash ≡ g)
raised_covers hash by old new up g some =
    elim (cases_Bool (same_hash hash g)) [
      | inl e ↦ inr ((same_hash-Decides hash g).0 e)
      | inr e ↦ inl (let same : standing_weight g new ≡ standing_weight g old + 0 = rw e at (up g) in omega (arith, some, same))
    ]

pub raised-tallies : (hash : Hash) (by : ℕ) (old new : List Mark) → Raises hash by old new → (tallies : List Tally) → AreTallies old tallies → list_any (is_for hash) tallies ≡ true → AreTallies new (map (raised hash by) tallies)
raised-tallies hash by old new up tallies are has = record {
  right = raised-right hash by old new up tallies are.right;
  covers = λ g some. any-raised g hash by tallies ∙ (elim (raised_covers hash by old new up g some) [
    | inl was ↦ are.covers g was
    | inr same ↦ rw (← same) has
  ]);
}

-- tallies for other hashes stay right
others-right : (hash : Hash) (by : ℕ) (old new : List Mark) → Raises hash by old new → (tallies : List Tally) → AllByRecursion (IsRight old) tallies → list_any (is_for hash) tallies ≡ false → (last : Tally) → IsRight new last → AllByRecursion (IsRight new) (tallies ++ last ∷ [])
others-right hash by old new up [] r none last l = (l, tt)
others-right hash by old new up (t ∷ ts) r none last l =
    elim (cases_Bool (same_hash t.hash hash)) [
      | inl e ↦ absurd (false≢true (sym (rw e at none)))
      | inr e ↦ (r.0 ∙ sym (rw (sym (same_hash-sym t.hash hash) ∙ e, add-zero) at (up t.hash)), others-right hash by old new up ts r.1 (rw e at none) last l)
    ]

pub same_hash-refl : (g : Hash) → same_hash g g ≡ true
same_hash-refl g = (same_hash-Decides g g).1 refl

any-append_last : (g : Hash) (tallies : List Tally) (last : Tally) → is_for g last ≡ true → list_any (is_for g) (tallies ++ last ∷ []) ≡ true
any-append_last g [] last h = rw h refl
any-append_last g (t ∷ ts) last h = rw (any-append_last g ts last h) (or_true (is_for g t))

any-append_kept : (g : Hash) (tallies : List Tally) (last : Tally) → list_any (is_for g) tallies ≡ true → list_any (is_for g) (tallies ++ last ∷ []) ≡ true
any-append_kept g [] last h = absurd (false≢true h)
any-append_kept g (t ∷ ts) last h =
    elim (cases_Bool (is_for g t)) [
      | inl e ↦ rw e refl
      | inr e ↦ rw e (any-append_kept g ts last (rw e at h))
    ]

pub added-tallies : (hash : Hash) (by : ℕ) (old new : List Mark) → Raises hash by old new → (tallies : List Tally) → AreTallies old tallies → list_any (is_for hash) tallies ≡ false → let last : Tally = record { hash = hash; weight = by } in AreTallies new (tallies ++ last ∷ [])
added-tallies hash by old new up tallies are none =
    let last : Tally = record { hash = hash; weight = by } in
    let zero_before : standing_weight hash old ≡ 0 = elim (cases_lt 0 (standing_weight hash old)) [ inl some ↦ absurd (false≢true (sym none ∙ are.covers hash some)) | inr le ↦ omega (arith, le) ] in
    let now : standing_weight hash new ≡ standing_weight hash old + by = rw (same_hash-refl hash) at (up hash) in
    record {
      right = others-right hash by old new up tallies are.right none last (omega (arith, now, zero_before));
      covers = λ g some. elim (raised_covers hash by old new up g some) [
        | inl was ↦ any-append_kept g tallies last (are.covers g was)
        | inr same ↦ any-append_last g tallies last ((same_hash-Decides hash g).1 same)
      ];
    }

-- the new marks have so much less for a hash
abbrev pub Lowers : Hash → ℕ → List Mark → List Mark → Type 0
Lowers hash by old new = (g : Hash) → standing_weight g new + (if same_hash hash g then by else 0) ≡ standing_weight g old

lowered-right : (hash : Hash) (by : ℕ) (old new : List Mark) → Lowers hash by old new → (tallies : List Tally) → AllByRecursion (IsRight old) tallies → AllByRecursion (IsRight new) (map (lowered hash by) tallies)
lowered-right hash by old new down [] r = tt
lowered-right hash by old new down (t ∷ ts) r = (
  elim (cases_Bool (same_hash t.hash hash)) [
    | inl e ↦ rw e (let less : standing_weight t.hash new + by ≡ standing_weight t.hash old = rw (sym (same_hash-sym t.hash hash) ∙ e) at (down t.hash) in omega (arith, less, r.0))
    | inr e ↦ rw e (let same : standing_weight t.hash new + 0 ≡ standing_weight t.hash old = rw (sym (same_hash-sym t.hash hash) ∙ e) at (down t.hash) in omega (arith, same, r.0))
  ],
  lowered-right hash by old new down ts r.1,
)

pub lowered-tallies : (hash : Hash) (by : ℕ) (old new : List Mark) → Lowers hash by old new → (tallies : List Tally) → AreTallies old tallies → AreTallies new (map (lowered hash by) tallies)
lowered-tallies hash by old new down tallies are = record {
  right = lowered-right hash by old new down tallies are.right;
  covers = λ g some. any-lowered g hash by tallies ∙ are.covers g (omega (arith, some, down g));
}

same-right : (old new : List Mark) → ((g : Hash) → standing_weight g new ≡ standing_weight g old) → (tallies : List Tally) → AllByRecursion (IsRight old) tallies → AllByRecursion (IsRight new) tallies
same-right old new same [] r = tt
same-right old new same (t ∷ ts) r = (r.0 ∙ sym (same t.hash), same-right old new same ts r.1)

-- tallies of marks with the same sums
pub same-tallies : (old new : List Mark) → ((g : Hash) → standing_weight g new ≡ standing_weight g old) → (tallies : List Tally) → AreTallies old tallies → AreTallies new tallies
same-tallies old new same tallies are = record {
  right = same-right old new same tallies are.right;
  covers = λ g some. are.covers g (rw (sym (same g)) some);
}
