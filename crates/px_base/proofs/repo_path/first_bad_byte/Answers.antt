use Rattle.std.proofs.Common.{◌≡◌, ℕ, ◌<◌, ◌≤◌, ◌||◌, not, nat_le, Bool, List, length, get_or, Some, true, false, arith, ap, sym, ◌∙◌, inl, inr}
use Rattle.std.proofs.lemmas.Bool.{cases_lt, false≢true}
use Rattle.std.proofs.lemmas.Grind.{common_steps}
use Rattle.std.proofs.lemmas.Option.{slice_get-get_or, slice_get_past}
use Rattle.std.specs.List.{slice_get}
use Rattle.px_base.specs.RepoPath.{IsBadByteAt, is_bad_byte, is_path_byte}
use Rattle.px_base.proofs.repo_path.first_bad_byte.Goals as goal
use Rattle.px_base.proofs.repo_path.first_bad_byte.Goals.{then-at-ge-MAX_BYTES-via-then-at-ge-MAX_BYTES, then-at-ge-MAX_BYTES-via-else-at-ge-MAX_BYTES+then-not-is_path_byte}

-- what is said of a place is what is said of its byte
of_byte : (text : List ℕ) (at : ℕ) → at < length text → is_bad_byte at (slice_get text at) ≡ is_bad_byte at (Some (get_or text at 0))
of_byte text at inside = ap (is_bad_byte at) (slice_get-get_or text at 0 inside)

far : (at : ℕ) (allowed : Bool) → 255 ≤ at → (nat_le 255 at || not allowed) ≡ true
far at allowed over = grind (arith, common_steps)

odd : (at : ℕ) (allowed : Bool) → allowed ≡ false → (nat_le 255 at || not allowed) ≡ true
odd at allowed none = grind (arith, common_steps)

fine : (at : ℕ) (allowed : Bool) → at < 255 → allowed ≡ true → (nat_le 255 at || not allowed) ≡ false
fine at allowed near path = grind (arith, common_steps)

none_past : (text : List ℕ) (k : ℕ) → length text ≤ k → ¬ (IsBadByteAt text k)
none_past text k past bad = false≢true (sym (ap (is_bad_byte k) (slice_get_past text k past)) ∙ bad)

pub loop-at-preserved : goal.loop-at-preserved
loop-at-preserved c = λ k near bad.
    elim (cases_lt k c.loop-at.at) [
      | inl lt ↦ c.loop-at.invariant k lt bad
      | inr le ↦
          let text = c.args.text.now in
          let at = c.loop-at.at in
          let here : k ≡ at = omega arith in
          let b : IsBadByteAt text at = rw here at bad in
          let path : is_path_byte (get_or text at 0) ≡ true = sym c.is_path_byte.ensures ∙ c.if-not-is_path_byte.false in
          false≢true (sym (of_byte text at c.loop-at-test.true ∙ fine at (is_path_byte (get_or text at 0)) c.if-at-ge-MAX_BYTES.false path) ∙ b)
    ]

pub returns-then-at-ge-MAX_BYTES-clause-some : goal.returns-then-at-ge-MAX_BYTES-clause-some
returns-then-at-ge-MAX_BYTES-clause-some c =
    let text = c.args.text.now in
    let at = c.loop-at.at in
    let allowed = is_path_byte (get_or text at 0) in
    record {
      bad = of_byte text at c.loop-at-test.true ∙ elim c.then-at-ge-MAX_BYTES.branch [
        | then-at-ge-MAX_BYTES-via-then-at-ge-MAX_BYTES w ↦ far at allowed w.if-at-ge-MAX_BYTES.true
        | then-at-ge-MAX_BYTES-via-else-at-ge-MAX_BYTES+then-not-is_path_byte w ↦ odd at allowed (sym w.is_path_byte.ensures ∙ w.if-not-is_path_byte.true)
      ];
      first = c.loop-at.invariant;
    }

pub returns-clause-none : goal.returns-clause-none
returns-clause-none c = λ k bad.
    elim (cases_lt k c.loop-at.at) [
      | inl lt ↦ c.loop-at.invariant k lt bad
      | inr le ↦ none_past c.args.text.now k (omega arith) bad
    ]
