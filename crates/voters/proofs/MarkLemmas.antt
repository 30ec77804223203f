-- How the sums over the marks change with one of them, and how large they are.
use Rattle.std.proofs.Common.{◌≡◌, ℕ, ◌+◌, ◌≤◌, List, [], ◌∷◌, Bool, true, false, Option, None, Some, set, if◌then◌else◌, arith, sym, slice_get, sum_by, refl, inl, inr}
use Rattle.std.proofs.lemmas.List.Sums.{sum_by-set, sum_by-cons, get_or-le-sum_by}
use Rattle.std.proofs.lemmas.Option.{slice_get_within, get_or_from_slice_get}
use Rattle.std.proofs.lemmas.Bool.Decides.{same_from_decides}
use Rattle.std.specs.Bool.{Decides}
use Rattle.px_base.specs.declared.hash.Hash.{Hash}
use Rattle.px_base.specs.Hash.{same_hash, same_hash-Decides}
use Rattle.voters.specs.declared.mark.Mark.{Mark}
use Rattle.voters.specs.Marks.{share, open_share, mark_weight, standing_weight, open_weight, total_weight, is_open, voting}
use Rattle.std.proofs.lemmas.Bool.{cases_Bool, false≢true, true≢false}

pub same_hash-sym : (g h : Hash) → same_hash g h ≡ same_hash h g
same_hash-sym g h =
    let there : Decides (same_hash g h) (g ≡ h) = same_hash-Decides g h in
    let back : Decides (same_hash h g) (g ≡ h) = (λ t. sym ((same_hash-Decides h g).0 t), λ e. (same_hash-Decides h g).1 (sym e)) in
    same_from_decides (same_hash g h) (same_hash h g) there back

-- a sum after one mark is replaced
pub sum-set : (f : Mark → ℕ) (marks : List Mark) (v : ℕ) (old new : Mark) → slice_get marks v ≡ Some old → sum_by f (set marks v new) + f old ≡ sum_by f marks + f new
sum-set f marks v old new there =
    rw (get_or_from_slice_get marks v old old there) at (sum_by-set f marks v new old (slice_get_within marks v old there))

parts : (hash : Hash) (w : ℕ) (vote : Option Hash) (canceled : Bool) → let b : Mark = record { weight = w; vote = vote; canceled = canceled } in share hash b + open_share b ≤ w
parts hash w None true = omega arith
parts hash w None false = omega arith
parts hash w (Some g) true = omega arith
parts hash w (Some g) false = grind arith

pub share-le : (hash : Hash) (b : Mark) → share hash b + open_share b ≤ b.weight
share-le hash b = parts hash b.weight b.vote b.canceled

-- the standing votes for a hash and the open voters are within the panel
pub within_total : (hash : Hash) (marks : List Mark) → standing_weight hash marks + open_weight marks ≤ total_weight marks
within_total hash [] = omega arith
within_total hash (b ∷ bs) =
    omega (arith, sum_by-cons (share hash) b bs, sum_by-cons open_share b bs, sum_by-cons mark_weight b bs, share-le hash b, within_total hash bs)

at_most : (t : Bool) (w : ℕ) → 0 + (if t then w else 0) ≤ w
at_most true w = omega arith
at_most false w = omega arith

-- a hash that is g is no other
other : (k g h : Hash) → same_hash k g ≡ true → same_hash g h ≡ false → same_hash k h ≡ false
other k g h e n = let same : k ≡ g = (same_hash-Decides k g).0 e in rw same n

-- what stands for two hashes is within the panel
two_parts : (g h : Hash) (w : ℕ) (vote : Option Hash) (canceled : Bool) → same_hash g h ≡ false → let b : Mark = record { weight = w; vote = vote; canceled = canceled } in share g b + share h b ≤ w
two_parts g h w None true n = omega arith
two_parts g h w None false n = omega arith
two_parts g h w (Some k) true n = omega arith
two_parts g h w (Some k) false n =
    elim (cases_Bool (same_hash k g)) [
      | inl e ↦ rw (e, other k g h e n) (omega arith)
      | inr e ↦ rw e (at_most (same_hash k h) w)
    ]

pub two_within_total : (g h : Hash) (marks : List Mark) → same_hash g h ≡ false → standing_weight g marks + standing_weight h marks ≤ total_weight marks
two_within_total g h [] n = omega arith
two_within_total g h (b ∷ bs) n =
    omega (arith, sum_by-cons (share g) b bs, sum_by-cons (share h) b bs, sum_by-cons mark_weight b bs, two_parts g h b.weight b.vote b.canceled n, two_within_total g h bs n)

-- the share of one mark stands in the sum
pub share-within : (f : Mark → ℕ) (marks : List Mark) (v : ℕ) (b : Mark) → slice_get marks v ≡ Some b → f b ≤ sum_by f marks
share-within f marks v b there =
    rw (get_or_from_slice_get marks v b b there) at (get_or-le-sum_by f marks v b (slice_get_within marks v b there))

open_parts : (w : ℕ) (vote : Option Hash) (canceled : Bool) → is_open (record { weight = w; vote = vote; canceled = canceled }) ≡ true → (vote ≡ None) × (canceled ≡ false)
open_parts w None true o = absurd (false≢true o)
open_parts w None false o = (refl, refl)
open_parts w (Some g) true o = absurd (false≢true o)
open_parts w (Some g) false o = absurd (false≢true o)

-- an open mark has no vote and is not canceled
pub is_open-parts : (b : Mark) → is_open b ≡ true → (b.vote ≡ None) × (b.canceled ≡ false)
is_open-parts b o = open_parts b.weight b.vote b.canceled o

voted_parts : (hash g : Hash) (w : ℕ) (vote : Option Hash) (canceled : Bool) → vote ≡ None → canceled ≡ false → let b : Mark = record { weight = w; vote = vote; canceled = canceled } in (share g b ≡ 0) × (share g (voting b hash) ≡ (if same_hash hash g then w else 0)) × (open_share b ≡ w) × (open_share (voting b hash) ≡ 0)
voted_parts hash g w None false e f = (refl, refl, refl, refl)
voted_parts hash g w None true e f = absurd (true≢false f)
voted_parts hash g w (Some k) canceled e f = absurd (cc)

pub voted_shares : (hash g : Hash) (b : Mark) → is_open b ≡ true → (share g b ≡ 0) × (share g (voting b hash) ≡ (if same_hash hash g then b.weight else 0)) × (open_share b ≡ b.weight) × (open_share (voting b hash) ≡ 0)
voted_shares hash g b o = voted_parts hash g b.weight b.vote b.canceled (is_open-parts b o).0 (is_open-parts b o).1
