use Rattle.std.proofs.Common.{◌≡◌, ◌++◌, ◌∙◌, codes}
use Rattle.std.specs.Prelude.{decimal}
use Rattle.script_run.specs.Stream.{Stream, stream}
use Rattle.px_run.proofs.Said.{says_front, says_more}
use Rattle.px_run.proofs.message.tell_bad_line.Goals as goal

pub returns-in-Failed : goal.returns-in-Failed
returns-in-Failed g c =
    let w = c.in-Failed.ensures in
    let start : Stream = stream (g.E.Sink.taken c.args.err.now) (g.E.Sink.write_faults c.args.err.now) in
    let first : Stream = stream (g.E.Sink.taken c.write_all.new.sink) (g.E.Sink.write_faults c.write_all.new.sink) in
    says_front start first (codes "praefect: line ") (decimal c.args.number ++ codes ": bad line\n") w.0 (w.1, w.2)

pub returns-in-Failed-write_all : goal.returns-in-Failed-write_all
returns-in-Failed-write_all g c =
    let digits : c.as_bytes.result.now ≡ decimal c.args.number = c.as_bytes.ensures.value ∙ c.format.ensures.text in
    let w = rw digits at c.in-Failed-write_all.ensures in
    let start : Stream = stream (g.E.Sink.taken c.args.err.now) (g.E.Sink.write_faults c.args.err.now) in
    let first : Stream = stream (g.E.Sink.taken c.write_all.new.sink) (g.E.Sink.write_faults c.write_all.new.sink) in
    let second : Stream = stream (g.E.Sink.taken c.write_all-2.new.sink) (g.E.Sink.write_faults c.write_all-2.new.sink) in
    says_more start first second (codes "praefect: line ") (decimal c.args.number ++ codes ": bad line\n") c.in-All.ensures.0 c.in-All.ensures.1
    (says_front first second (decimal c.args.number) (codes ": bad line\n") w.0 (w.1, w.2))

pub returns : goal.returns
returns g c =
    let digits : c.as_bytes.result.now ≡ decimal c.args.number = c.as_bytes.ensures.value ∙ c.format.ensures.text in
    let w = rw digits at c.in-All-write_all.ensures in
    let start : Stream = stream (g.E.Sink.taken c.args.err.now) (g.E.Sink.write_faults c.args.err.now) in
    let first : Stream = stream (g.E.Sink.taken c.write_all.new.sink) (g.E.Sink.write_faults c.write_all.new.sink) in
    let second : Stream = stream (g.E.Sink.taken c.write_all-2.new.sink) (g.E.Sink.write_faults c.write_all-2.new.sink) in
    let last : Stream = stream (g.E.Sink.taken c.say.new.err) (g.E.Sink.write_faults c.say.new.err) in
    says_more start first last (codes "praefect: line ") (decimal c.args.number ++ codes ": bad line\n") c.in-All.ensures.0 c.in-All.ensures.1
    (says_more first second last (decimal c.args.number) (codes ": bad line\n") w.0 w.1 c.say.ensures)
