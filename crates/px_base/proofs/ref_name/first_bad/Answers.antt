use Rattle.std.proofs.Common.{◌≡◌, ℕ, ◌+◌, ◌<◌, ◌≤◌, List, length, take, get_or, false, arith, ap, sym, ◌∙◌, inl, inr}
use Rattle.std.proofs.lemmas.Bool.{cases_lt, false≢true}
use Rattle.std.proofs.lemmas.Option.{slice_get-get_or, slice_get_past}
use Rattle.std.specs.List.{slice_get}
use Rattle.px_base.specs.RefName.{IsBadAt, IsRefName, is_bad_byte, is_bad_end, is_bad_place}
use Rattle.px_base.proofs.ref_name.first_bad.Goals as goal

-- what is said of the place of a byte is what is said of that byte
of_byte : (text : List ℕ) (at d : ℕ) → at < length text
    → is_bad_place text at (slice_get text at) ≡ is_bad_byte (take at text) (get_or text at d)
of_byte text at d inside = ap (is_bad_place text at) (slice_get-get_or text at d inside)

-- what is said of the end is what is said of all bytes
of_end : (text : List ℕ) (at : ℕ) → length text ≤ at
    → is_bad_place text at (slice_get text at) ≡ is_bad_end text
of_end text at past = ap (is_bad_place text at) (slice_get_past text at past)

-- one more place is not bad
one_more : (text : List ℕ) (at d : ℕ) → at < length text → ((k : ℕ) → k < at → ¬ (IsBadAt text k))
    → is_bad_byte (take at text) (get_or text at d) ≡ false → (k : ℕ) → k < at + 1 → ¬ (IsBadAt text k)
one_more text at d inside before fine k near bad =
    elim (cases_lt k at) [
      | inl lt ↦ before k lt bad
      | inr le ↦
          let here : k ≡ at = omega arith in
          let b : IsBadAt text at = rw here at bad in
          false≢true (sym (of_byte text at d inside ∙ fine) ∙ b.1)
    ]

-- no place is bad where none of a byte is and the end is not
none_bad : (text : List ℕ) → ((k : ℕ) → k < length text → ¬ (IsBadAt text k)) → is_bad_end text ≡ false → IsRefName text
none_bad text bytes fine k bad =
    elim (cases_lt k (length text)) [
      | inl lt ↦ bytes k lt bad
      | inr le ↦ false≢true (sym (of_end text k le ∙ fine) ∙ bad.1)
    ]

pub loop-at-preserved : goal.loop-at-preserved
loop-at-preserved c =
    one_more c.args.text.now c.loop-at.at 0 c.loop-at-test.true c.loop-at.invariant (sym c.is_bad_byte.ensures ∙ c.if-is_bad_byte.false)

pub returns-then-is_bad_byte-clause-some : goal.returns-then-is_bad_byte-clause-some
returns-then-is_bad_byte-clause-some c = record {
  bad = (omega arith, of_byte c.args.text.now c.loop-at.at 0 c.loop-at-test.true ∙ sym c.is_bad_byte.ensures ∙ c.if-is_bad_byte.true);
  first = c.loop-at.invariant;
}

pub returns-then-is_bad_end-clause-some : goal.returns-then-is_bad_end-clause-some
returns-then-is_bad_end-clause-some c =
    let size : c.loop-at.at ≡ length c.args.text.now = omega arith in
    record {
      bad = (omega arith, of_end c.args.text.now (length c.args.text.now) (omega arith) ∙ sym c.is_bad_end.ensures ∙ c.if-is_bad_end.true);
      first = λ k near. c.loop-at.invariant k (omega arith);
    }

pub returns-else-is_bad_end-clause-none : goal.returns-else-is_bad_end-clause-none
returns-else-is_bad_end-clause-none c =
    none_bad c.args.text.now (λ k near. c.loop-at.invariant k (omega arith)) (sym c.is_bad_end.ensures ∙ c.if-is_bad_end.false)
