use Rattle.std.proofs.Common.{◌≡◌, refl, Some}
use Rattle.script_run.specs.declared.run.RehearseEnd.TheVariants as end
use Rattle.script_run.specs.Stream.{stream}
use Rattle.px_run.specs.Run.{command}
use Rattle.px_run.proofs.Said.{says_nothing}
use Rattle.px_run.proofs.top.run.Goals as goal

pub returns-in-Done-clause-run : goal.returns-in-Done-clause-run
returns-in-Done-clause-run g c =
    let words : c.args.words.now ≡ command = c.is_only.ensures.0 c.if-not-is_only.false in
    record {
      end = Some end.Done;
      ended = (words, c.in-Done.ensures.run);
      answers = refl;
      says = says_nothing (stream (g.E.Sink.taken c.args.err.now) (g.E.Sink.write_faults c.args.err.now));
    }

pub returns-in-BadLine-clause-run : goal.returns-in-BadLine-clause-run
returns-in-BadLine-clause-run g c =
    let words : c.args.words.now ≡ command = c.is_only.ensures.0 c.if-not-is_only.false in
    record { end = Some (end.BadLine c.in-BadLine.number); ended = (words, c.in-BadLine.ensures.run); answers = refl; says = c.tell_bad_line.ensures }

pub returns-in-TooLong-clause-run : goal.returns-in-TooLong-clause-run
returns-in-TooLong-clause-run g c =
    let words : c.args.words.now ≡ command = c.is_only.ensures.0 c.if-not-is_only.false in
    record { end = Some end.TooLong; ended = (words, c.in-TooLong.ensures.run); answers = refl; says = c.say-in-TooLong.ensures }

pub returns-in-ReadFault-clause-run : goal.returns-in-ReadFault-clause-run
returns-in-ReadFault-clause-run g c =
    let words : c.args.words.now ≡ command = c.is_only.ensures.0 c.if-not-is_only.false in
    record { end = Some end.ReadFault; ended = (words, c.in-ReadFault.ensures.run); answers = refl; says = c.say-in-ReadFault.ensures }

pub returns-in-WriteFault-clause-run : goal.returns-in-WriteFault-clause-run
returns-in-WriteFault-clause-run g c =
    let words : c.args.words.now ≡ command = c.is_only.ensures.0 c.if-not-is_only.false in
    record { end = Some end.WriteFault; ended = (words, c.in-WriteFault.ensures.run); answers = refl; says = c.say-in-WriteFault.ensures }

pub returns-in-Memory-clause-run : goal.returns-in-Memory-clause-run
returns-in-Memory-clause-run g c =
    let words : c.args.words.now ≡ command = c.is_only.ensures.0 c.if-not-is_only.false in
    record { end = Some end.Memory; ended = (words, c.in-Memory.ensures.run); answers = c.tell_memory.ensures.status; says = c.tell_memory.ensures.says }
