use Rattle.std.proofs.Common.{◌≤◌, ◌+◌, length, take, arith, ap, refl, sym, subst, ◌∙◌}
use Rattle.std.proofs.lemmas.List.{length-take-le}
use Rattle.std.specs.Io.KnownBytes.{Consumes}
use Rattle.px_base.proofs.Streams.{first_lf_within, has_some, held_front, no_lf_before, through_lf, was_pushed}
use Rattle.px_base.proofs.standard.StdSourceSource.take_held.Goals as goal

pub returns-then-count-room-clause-bytes : goal.returns-then-count-room-clause-bytes
returns-then-count-room-clause-bytes g c =
    let held = c.buffer-held.result.now in
    let count = c.len_before_feed-count in
    let n = c.args.room + 1 in
    let within : n ≤ length held = omega (arith, first_lf_within held, count.ensures, c.if-count-room.true) in
    let gone = held_front _ _ _ _ _ _ held n c.consume.ensures.buffer (ap g.R.Read.remaining c.consume.ensures.inner) c.consume.ensures.capacity c.buffer-held.ensures in
    (refl, (take n held, no_lf_before held n (omega (arith, count.ensures, c.if-count-room.true)) within, length-take-le n held within, gone))

pub returns-then-count-held-clause-bytes : goal.returns-then-count-held-clause-bytes
returns-then-count-held-clause-bytes g c =
    let held = c.buffer-held.result.now in
    let count = c.len_before_feed-count in
    let n = count.result in
    let within : n ≤ length held = omega (arith, first_lf_within held, count.ensures) in
    let gone = held_front _ _ _ _ _ _ held n c.consume-then-count-held.ensures.buffer (ap g.R.Read.remaining c.consume-then-count-held.ensures.inner) c.consume-then-count-held.ensures.capacity c.buffer-held.ensures in
    let size = length-take-le n held within in
    let grown = was_pushed c.extend_from_slice.result _ c.extend_from_slice.ensures.ok (sym c.is_err.ensures.value ∙ c.if-is_err.false) in
    (take n held, (grown, (no_lf_before held n (omega (arith, count.ensures)) within, omega (arith, size, c.if-count-room.false))), (λ none. has_some c.is_empty.result held c.is_empty.ensures c.if-is_empty.false (omega (arith, ap length none, size, c.if-count-held.true))), gone)

pub returns-clause-bytes : goal.returns-clause-bytes
returns-clause-bytes g c =
    let held = c.buffer-held.result.now in
    let count = c.len_before_feed-count in
    let n = count.result in
    let within : n ≤ length held = omega (arith, first_lf_within held, count.ensures) in
    let gone = held_front _ _ _ _ _ _ held (n + 1) c.consume-2.ensures.buffer (ap g.R.Read.remaining c.consume-2.ensures.inner) c.consume-2.ensures.capacity c.buffer-held.ensures in
    let size = length-take-le n held within in
    let grown = was_pushed c.extend_from_slice.result _ c.extend_from_slice.ensures.ok (sym c.is_err.ensures.value ∙ c.if-is_err.false) in
    (take n held, (grown, (no_lf_before held n (omega (arith, count.ensures)) within, omega (arith, size, c.if-count-room.false))), subst (Consumes _ _) (through_lf held n count.ensures (omega (arith, within, c.if-count-held.false))) gone)
