use Rattle.std.proofs.Common.{◌∷◌, ◌++◌, ◌≤◌, [], ◌∙◌, length, ap, arith, refl}
use Rattle.std.proofs.lemmas.List.{length-append}
use Rattle.script_run.specs.Stream.{Stream, stream}
use Rattle.script_run.proofs.Progress.{one_more_line, started}
use Rattle.script_run.proofs.Stops.{ends_done, ends_last, stops_acting, stops_at_bad, stops_at_overlong, stops_in_line, stops_reading, stops_too_long, stops_unread}
use Rattle.script_run.proofs.run.run_script.Goals as goal

pub loop-last-init : goal.loop-last-init
loop-last-init g c = record {
  progress = started _ _ (g.M.StateMachine.state c.args.machine.now) _;
  counted = omega arith;
  reads = refl;
  writes = refl;
}

pub loop-last-preserved : goal.loop-last-preserved
loop-last-preserved g c =
    let i = c.loop-last.invariant in
    let r = rw c.if-last.false at c.in-Line.ensures.bytes in
    let p = rw c.as_slice.ensures at c.in-Done.ensures in
    let fits : length (c.next_line.new.line ++ 10 ∷ []) ≤ c.loop-last.room = r.fits in
    record {
      progress = rw c.len.ensures (one_more_line _ _ _ _ _ _ _ _ _ _ c.next_line.new.line i.progress r p.0);
      counted = omega (arith, i.counted, fits, length-append c.next_line.new.line (10 ∷ []), c.len.ensures);
      reads = c.in-Line.ensures.cause ∙ i.reads;
      writes = p.1 ∙ i.writes;
    }

pub returns-then-last-clause-run : goal.returns-then-last-clause-run
returns-then-last-clause-run g c =
    let r = rw c.if-last.true at c.in-Line.ensures.bytes in
    let p = rw c.as_slice.ensures at c.in-Done.ensures in
    ends_last _ _ _ _ _ _ _ _ c.loop-last.invariant.progress _ _ c.next_line.new.line r p.0

pub returns-in-Bad-clause-run : goal.returns-in-Bad-clause-run
returns-in-Bad-clause-run g c =
    let p = rw c.as_slice.ensures at c.in-Bad.ensures in
    stops_at_bad _ _ _ _ _ _ _ _ c.loop-last.invariant.progress _ _ c.next_line.new.line c.in-Line.last c.in-Line.ensures.bytes p.0 p.1 p.2

pub returns-in-WriteFault-clause-run : goal.returns-in-WriteFault-clause-run
returns-in-WriteFault-clause-run g c =
    let p = rw c.as_slice.ensures at c.in-WriteFault.ensures in
    stops_in_line _ _ _ _ _ _ _ _ c.loop-last.invariant.progress _ _ c.next_line.new.line c.in-Line.last c.in-Line.ensures.bytes p.0

pub returns-in-Memory-play_line-clause-run : goal.returns-in-Memory-play_line-clause-run
returns-in-Memory-play_line-clause-run g c =
    let p = rw c.as_slice.ensures at c.in-Memory-play_line.ensures in
    stops_acting _ _ _ _ _ _ _ _ c.loop-last.invariant.progress _ _ c.next_line.new.line c.in-Line.last c.in-Line.ensures.bytes p.0 p.1

pub returns-in-End-clause-run : goal.returns-in-End-clause-run
returns-in-End-clause-run g c =
    ends_done _ _ _ _ _ _ _ _ c.loop-last.invariant.progress
    (stream (g.S.Source.left c.next_line.new.input) (g.S.Source.read_faults c.next_line.new.input)) c.in-End.ensures.bytes.0 c.in-End.ensures.bytes.1

pub returns-in-Overlong-clause-run : goal.returns-in-Overlong-clause-run
returns-in-Overlong-clause-run g c =
    let r = c.in-Overlong.ensures.bytes in
    stops_at_overlong _ _ _ _ _ _ _ _ c.loop-last.invariant.progress
    (stream (g.S.Source.left c.next_line.new.input) (g.S.Source.read_faults c.next_line.new.input)) r.0 r.1

pub returns-in-TooLong-clause-run : goal.returns-in-TooLong-clause-run
returns-in-TooLong-clause-run g c =
    stops_too_long _ _ _ _ _ _ _ _ c.loop-last.invariant.progress
    (stream (g.S.Source.left c.next_line.new.input) (g.S.Source.read_faults c.next_line.new.input)) c.in-TooLong.ensures.bytes

pub returns-in-ReadFault-clause-run : goal.returns-in-ReadFault-clause-run
returns-in-ReadFault-clause-run g c =
    stops_unread _ _ _ _ _ _ _ _ c.loop-last.invariant.progress
    (stream (g.S.Source.left c.next_line.new.input) (g.S.Source.read_faults c.next_line.new.input)) c.in-ReadFault.ensures.bytes

pub returns-in-Memory-clause-run : goal.returns-in-Memory-clause-run
returns-in-Memory-clause-run g c =
    stops_reading _ _ _ _ _ _ _ _ c.loop-last.invariant.progress
    (stream (g.S.Source.left c.next_line.new.input) (g.S.Source.read_faults c.next_line.new.input)) c.in-Memory.ensures.bytes

pub returns-in-End-clause-cause : goal.returns-in-End-clause-cause
returns-in-End-clause-cause g c =
    let i = c.loop-last.invariant in
    (c.in-End.ensures.cause ∙ i.reads, i.writes)

pub returns-in-Overlong-clause-cause : goal.returns-in-Overlong-clause-cause
returns-in-Overlong-clause-cause g c =
    let i = c.loop-last.invariant in
    (c.in-Overlong.ensures.cause ∙ i.reads, i.writes)

pub returns-in-TooLong-clause-cause : goal.returns-in-TooLong-clause-cause
returns-in-TooLong-clause-cause g c =
    let i = c.loop-last.invariant in
    (c.in-TooLong.ensures.cause ∙ i.reads, i.writes)

pub returns-in-Memory-clause-cause : goal.returns-in-Memory-clause-cause
returns-in-Memory-clause-cause g c =
    let i = c.loop-last.invariant in
    (c.in-Memory.ensures.cause ∙ i.reads, i.writes)

pub returns-in-ReadFault-clause-cause : goal.returns-in-ReadFault-clause-cause
returns-in-ReadFault-clause-cause g c =
    let i = c.loop-last.invariant in
    let r = rw i.reads at c.in-ReadFault.ensures.cause in (r, i.writes)

pub returns-in-Bad-clause-cause : goal.returns-in-Bad-clause-cause
returns-in-Bad-clause-cause g c =
    let i = c.loop-last.invariant in
    (c.in-Line.ensures.cause ∙ i.reads, ap (λ (out : Stream). out.faults) c.in-Bad.ensures.2 ∙ i.writes)

pub returns-in-Memory-play_line-clause-cause : goal.returns-in-Memory-play_line-clause-cause
returns-in-Memory-play_line-clause-cause g c =
    let i = c.loop-last.invariant in
    (c.in-Line.ensures.cause ∙ i.reads, ap (λ (out : Stream). out.faults) c.in-Memory-play_line.ensures.1 ∙ i.writes)

pub returns-in-WriteFault-clause-cause : goal.returns-in-WriteFault-clause-cause
returns-in-WriteFault-clause-cause g c =
    let i = c.loop-last.invariant in
    let w = rw i.writes at c.in-WriteFault.ensures in (c.in-Line.ensures.cause ∙ i.reads, w.1)

pub returns-then-last-clause-cause : goal.returns-then-last-clause-cause
returns-then-last-clause-cause g c =
    let i = c.loop-last.invariant in
    (c.in-Line.ensures.cause ∙ i.reads, c.in-Done.ensures.1 ∙ i.writes)
