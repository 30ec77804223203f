use Rattle.std.proofs.Common.{◌≡◌, ap, sym, ◌∙◌, subst, Some, slice_get, length, arith, ◌<◌, ◌+◌, take, get_or, List, ℕ}
use Rattle.std.proofs.lemmas.Option.{get_or_from_slice_get, slice_get-get_or, slice_get_within}
use Rattle.std.proofs.lemmas.List.{take_more}
use Rattle.std.specs.Option.{is_some}
use Rattle.px_base.specs.RefList.{ref_at}
use Rattle.refstore.proofs.Conflicts.{none_from_test, none_more}
use Rattle.refstore.proofs.conflict.least_above.Goals as goal
use Rattle.refstore.proofs.conflict.least_above.Goals.{else-byte-eq47-via-then-byte-eq47+else-contains, else-byte-eq47-via-else-byte-eq47}

pub returns : goal.returns
returns c = λ k slash.
    c.loop-byte.invariant.none k
    (let within : k < length c.args.name.now = slice_get_within c.args.name.now k 47 slash in
    omega (arith, ap length c.as_bytes-bytes.ensures.value))
    slash

-- the place is that of a byte
within : (c : goal.In_ok-push) → c.loop-byte.byte-index < length c.args.name.now
within c = omega (arith, ap length c.as_bytes-bytes.ensures.value)

-- one byte more
longer : (c : goal.In_ok-push)
    → c.push.new.self ≡ take (c.loop-byte.byte-index + 1) c.args.name.now
longer c =
    let e = take_more c.args.name.now c.loop-byte.byte-index 0 (within c) in
    let same = ap (λ (s : List ℕ). get_or s c.loop-byte.byte-index 0) c.as_bytes-bytes.ensures.value in
    let ok = c.in_ok-push.ensures.ok in
    cc

pub loop-byte-preserved : goal.loop-byte-preserved
loop-byte-preserved c = record {
  front = longer c;
  none = none_more c.args.map.now c.args.name.now c.loop-byte.byte-index c.loop-byte.invariant.none
      (λ slash. elim c.else-byte-eq47.branch [
        | else-byte-eq47-via-then-byte-eq47+else-contains w ↦ none_from_test _
            (ap (λ (s : List ℕ). is_some (ref_at c.args.map.now s)) (sym c.loop-byte.invariant.front)
            ∙ sym w.contains.ensures.value ∙ w.if-contains.false)
        | else-byte-eq47-via-else-byte-eq47 w ↦ absurd (w.if-byte-eq47.false
            (ap (λ (s : List ℕ). get_or s c.loop-byte.byte-index 0) c.as_bytes-bytes.ensures.value
            ∙ get_or_from_slice_get c.args.name.now c.loop-byte.byte-index 47 0 slash))
      ]);
}

pub returns-then-contains : goal.returns-then-contains
returns-then-contains c = record {
  place = c.loop-byte.byte-index;
  slash = subst (λ (s : List ℕ). slice_get s c.loop-byte.byte-index ≡ Some 47)
      c.as_bytes-bytes.ensures.value
      (slice_get-get_or c.as_bytes-bytes.result.now c.loop-byte.byte-index 0 c.loop-byte-test.true
      ∙ ap Some c.if-byte-eq47.true);
  is = c.of.ensures ∙ c.loop-byte.invariant.front;
  there = ap (λ (s : List ℕ). is_some (ref_at c.args.map.now s)) c.of.ensures
      ∙ sym c.contains.ensures.value ∙ c.if-contains.true;
  shortest = c.loop-byte.invariant.none;
}

pub of-requires : goal.of-requires
of-requires c = c.contains.ensures.name c.if-contains.true
