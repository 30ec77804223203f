-- Marks in a set, as it is read and changed.
use Rattle.std.proofs.Common.{◌≡◌, ◌+◌, ◌<◌, ◌≤◌, ◌==◌, ◌∷◌, [], ℕ, List, Bool, true, false, cond, refl, sym, ◌∙◌, inl, inr, arith, subst}
use Rattle.std.specs.BTreeMap.{is_at}
use Rattle.std.specs.BTreeMap.Range.{IsFromStart}
use Rattle.std.specs.BTreeSet.{BTreeSet, IsKeyRangeOf}
use Rattle.std.specs.List.{list_any}
use Rattle.std.specs.Option.{IfNone, IfSome}
use Rattle.std.specs.Ordering.{is_eq, is_gt, nat_cmp, ordering_then}
use Rattle.std.specs.declared.cmp.Ordering.{Ordering}
use Rattle.std.specs.declared.cmp.Ordering.TheVariants.{Equal, Greater, Less}
use Rattle.std.specs.declared.ops.Bound.{Bound}
use Rattle.std.specs.declared.ops.Bound.TheVariants.{Excluded, Included, Unbounded}
use Rattle.std.proofs.lemmas.Bool.{cases_Bool}
use Rattle.std.proofs.lemmas.Bool.Decides.{nat_tests}
use Rattle.replqueue.specs.declared.mark.Mark.{Mark}
use Rattle.replqueue.specs.Marks.{KeepsAll, KeepsOthers, NoneBetween, NoneFrom, has, mark_cmp, mark_of, number_on}

abbrev pub holds : List Mark → Mark → Bool
holds marks mark = list_any (is_at (mark_cmp mark)) marks

-- ---- orders

less_or_same : (a b : ℕ) → is_gt (nat_cmp a b) ≡ false → a ≤ b
less_or_same a b is = grind (arith, nat_tests)

not_above : (a b : ℕ) → a ≤ b → is_gt (nat_cmp a b) ≡ false
not_above a b is = grind (arith, nat_tests)

self_cmp : (n : ℕ) → nat_cmp n n ≡ Equal
self_cmp n = grind (arith, nat_tests)

other_cmp : (a b : ℕ) → (b == a) ≡ false → is_eq (nat_cmp a b) ≡ false
other_cmp a b is = grind (arith, nat_tests)

-- the first numbers are in order where the pairs are
first_part : (o p : Ordering) → is_gt (ordering_then o p) ≡ false → is_gt o ≡ false
first_part Less p is = refl
first_part Equal p is = refl
first_part Greater p is = is

then_other : (o p : Ordering) → is_eq p ≡ false → is_eq (ordering_then o p) ≡ false
then_other Less p is = refl
then_other Equal p is = is
then_other Greater p is = refl

less_cmp : (a b : ℕ) → a < b → nat_cmp a b ≡ Less
less_cmp a b is = grind (arith, nat_tests)

cmp_less : (a b : ℕ) → nat_cmp a b ≡ Less → a < b
cmp_less a b is = grind (arith, nat_tests)

first_less : (o p : Ordering) → ordering_then o p ≡ Less → is_gt o ≡ false
first_less Less p is = refl
first_less Equal p is = refl
first_less Greater p is = absurd cc

-- on one line the numbers are in order
on_one_line : (line a b : ℕ) → is_gt (mark_cmp (mark_of line a) (mark_of line b))
    ≡ is_gt (nat_cmp a b)
on_one_line line a b = rw (self_cmp line) refl

-- ---- marks that come and go

-- one mark more loses none
pub marked_keeps : (mark : Mark) (old new : List Mark)
    → ((q : Mark) → holds new q ≡ cond (is_at (mark_cmp mark) q) true (holds old q))
    → KeepsAll old new
marked_keeps mark old new becomes line number is = becomes (mark_of line number)
    ∙ either (is_at (mark_cmp mark) (mark_of line number)) is
  where
    either : {b : Bool} (a : Bool) → b ≡ true → cond a true b ≡ true
    either true is = refl
    either false is = is

-- one mark less loses none of another number
pub unmarked_keeps : (line number : ℕ) (old new : List Mark)
    → ((q : Mark) → holds new q ≡ cond (is_at (mark_cmp (mark_of line number)) q) false
    (holds old q)) → KeepsOthers number old new
unmarked_keeps line number old new becomes l other another is =
    becomes (mark_of l other)
    ∙ rw (then_other (nat_cmp line l) (nat_cmp number other) (other_cmp number other another))
    is

-- ---- the next mark

-- the keys from a bound on are those of the line from a number on, and of the lines after it
pub record Starts (line from : ℕ) (bound : Bound Mark) : Type 0 where
  pub inside : (number : ℕ) → from ≤ number → IsFromStart mark_cmp bound (mark_of line number)
  pub behind : (number : ℕ) → IsFromStart mark_cmp bound (mark_of line number) → from ≤ number
  pub ahead : (mark : Mark) → IsFromStart mark_cmp bound mark → line ≤ mark.line

pub from_number : (line from : ℕ) → Starts line from (Included (mark_of line from))
from_number line from = record {
  inside = λ number within. on_one_line line from number ∙ not_above from number within;
  behind = λ number is. less_or_same from number (sym (on_one_line line from number) ∙ is);
  ahead = λ mark is. less_or_same line mark.line (first_part (nat_cmp line mark.line)
      (nat_cmp from mark.number) is);
}

pub after_number : (line number : ℕ) → Starts line (number + 1) (Excluded (mark_of line number))
after_number line number = record {
  inside = λ other within. rw (self_cmp line) (less_cmp number other (omega (arith, within)));
  behind = λ other is. let below : number < other =
      cmp_less number other (rw (self_cmp line) at is) in omega (arith, below);
  ahead = λ mark is. less_or_same line mark.line (first_less (nat_cmp line mark.line)
      (nat_cmp number mark.number) is);
}

module _ (set : BTreeSet Mark) (line from : ℕ) (bound : Bound Mark)
    (starts : Starts line from bound) where
  abbrev FromHere : List Mark → Type 0
  FromHere marks = IsKeyRangeOf mark_cmp bound Unbounded set marks

  -- a number that is marked on the line, from here on, is not before the next mark
  not_before : (mark : Mark) (rest : List Mark) → FromHere (mark ∷ rest) → (number : ℕ)
      → from ≤ number
      → has set.keys line number ≡ true → is_gt (mark_cmp mark (mark_of line number)) ≡ false
  not_before mark rest range number within is =
      range.2 (mark_of line number) (starts.inside number within, tt) is

  -- the next mark is on the line
  found_next : (number : ℕ) (rest : List Mark) → FromHere (mark_of line number ∷ rest)
      → (from ≤ number) × NoneBetween set.keys line from number
  found_next number rest range = (
    starts.behind number range.1.0.0,
    λ other within below. elim (cases_Bool (has set.keys line other)) [
      | inl t ↦
          (let behind : number ≤ other = less_or_same number other
          (sym (on_one_line line number other) ∙ not_before (mark_of line number) rest range other
          within t) in
          absurd (omega (arith, behind, below)))
      | inr f ↦ f
    ],
  )

  -- the next mark is on another line
  passed_line : (mark : Mark) (rest : List Mark) → FromHere (mark ∷ rest) → (mark.line == line)
      ≡ false → NoneFrom set.keys line from
  passed_line mark rest range another number within = elim (cases_Bool (has set.keys line number)) [
    | inl t ↦
        (let above : line ≤ mark.line = starts.ahead mark range.1.0.0 in
        let below : mark.line ≤ line = less_or_same mark.line line
        (first_part (nat_cmp mark.line line) (nat_cmp mark.number number)
        (not_before mark rest range number within t)) in
        absurd (grind (arith, nat_tests)))
    | inr f ↦ f
  ]

  same_line : (mark : Mark) → (mark.line == line) ≡ true → mark ≡ mark_of line mark.number
  same_line mark is = let same : mark.line ≡ line = grind (arith, nat_tests) in
      λ i. mark_of (same i) mark.number

  pub next_some : (mark : Mark) (rest : List Mark) → FromHere (mark ∷ rest)
      → IfSome (number_on line mark) (λ number. (from ≤ number)
      × NoneBetween set.keys line from number)
  next_some mark rest range = elim (cases_Bool (mark.line == line)) [
    | inl t ↦ rw t (found_next mark.number rest (subst (λ (first : Mark). FromHere (first ∷ rest))
        (same_line mark t) range))
    | inr f ↦ rw f tt
  ]

  pub next_none : (mark : Mark) (rest : List Mark) → FromHere (mark ∷ rest)
      → IfNone (number_on line mark) (NoneFrom set.keys line from)
  next_none mark rest range = elim (cases_Bool (mark.line == line)) [
    | inl t ↦ rw t tt
    | inr f ↦ rw f (passed_line mark rest range f)
  ]

  -- there is no next mark
  pub none_next : FromHere [] → NoneFrom set.keys line from
  none_next range number within =
      range.5 refl (mark_of line number) (starts.inside number within, tt)
