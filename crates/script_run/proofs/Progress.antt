-- How far the run of a script has come between two lines, and one line more.
use Rattle.std.proofs.Common.{◌≡◌, ◌+◌, ◌-◌, ◌≤◌, ℕ, List, [], ◌∷◌, ◌++◌, length, Some, None, false, arith, refl, ap, ◌∙◌, ◌⊎◌, inl, inr}
use Rattle.std.specs.Io.KnownBytes.{Appends, Consumes}
use Rattle.std.proofs.KnownBytes.{Appends-trans, Appends-nil, Consumes-trans, Consumes-nil}
use Rattle.std.proofs.lemmas.List.{append-nil, length-append}
use Rattle.px_base.specs.Line.{HasNoLf}
use Rattle.script_run.specs.Machine.{Machine, events, output}
use Rattle.script_run.specs.Next.{IsLine}
use Rattle.script_run.specs.Play.{PrintsLine, StaysSilent}
use Rattle.script_run.specs.Script.{ended, IsLawful, line_limit, Played}
use Rattle.script_run.specs.Stream.{Stream, Streams}
use Rattle.script_run.proofs.Runs.{all_ask_more, are_lines_more, ended-more, events-append, output-more, runs_more}

-- these lines were read and done, and so many bytes may still come
pub record Progress {S E R : Type 0} (m : Machine S E R) (limit : ℕ) (s s' : S) (old new : Streams) (number room : ℕ) : Type 0 where
  pub lines : List (List ℕ)
  pub played : Played m s s' old.out new.out lines
  pub consumed : Consumes old.input.bytes new.input.bytes (ended lines)
  pub room_is : length (ended lines) + room ≡ limit
  pub number_is : number ≡ length lines

pub started : {S E R : Type 0} (m : Machine S E R) (limit : ℕ) (s : S) (old : Streams) → Progress m limit s s old old 0 limit
started m limit s old = record {
  lines = [];
  played = record { parts = tt; asked = []; lawful = tt; replies = []; run = refl; written = Appends-nil old.out.bytes };
  consumed = Consumes-nil old.input.bytes;
  room_is = omega arith;
  number_is = refl;
}

-- a line that asks nothing is done
plays_silent : {S E R : Type 0} (m : Machine S E R) (s at s' : S) (old out new : Stream) (lines : List (List ℕ)) (line : List ℕ)
    → Played m s at old out lines → HasNoLf line → IsLawful m None line → s' ≡ at → new.bytes ≡ out.bytes → Played m s s' old new (lines ++ line ∷ [])
plays_silent m s at s' old out new lines line p part lawful led same =
    let es : events (p.asked ++ None ∷ []) ≡ events p.asked = events-append p.asked (None ∷ []) ∙ append-nil (events p.asked) in
    record {
      parts = are_lines_more lines line p.parts part;
      asked = p.asked ++ None ∷ [];
      lawful = all_ask_more m p.asked lines None line p.lawful lawful;
      replies = p.replies;
      run = rw (es, led) p.run;
      written = rw same p.written;
    }

-- a line that asks an event is done
plays_event : {S E R : Type 0} (m : Machine S E R) (s at s' : S) (old out new : Stream) (lines : List (List ℕ)) (line : List ℕ) (event : E) (reply : R)
    → Played m s at old out lines → HasNoLf line → IsLawful m (Some event) line → m.does at event reply s'
    → Appends out.bytes new.bytes (m.text reply) → Played m s s' old new (lines ++ line ∷ [])
plays_event m s at s' old out new lines line event reply p part lawful does_ printed =
    let es : events (p.asked ++ Some event ∷ []) ≡ events p.asked ++ event ∷ [] = events-append p.asked (Some event ∷ []) in
    record {
      parts = are_lines_more lines line p.parts part;
      asked = p.asked ++ Some event ∷ [];
      lawful = all_ask_more m p.asked lines (Some event) line p.lawful lawful;
      replies = p.replies ++ reply ∷ [];
      run = rw es (runs_more m s at s' (events p.asked) p.replies event reply p.run does_);
      written = rw (output-more m p.replies reply) (Appends-trans old.bytes out.bytes new.bytes (output m p.replies) (m.text reply) p.written printed);
    }

-- a line was done
pub plays_line : {S E R : Type 0} (m : Machine S E R) (s at s' : S) (old out new : Stream) (lines : List (List ℕ)) (line : List ℕ)
    → Played m s at old out lines → HasNoLf line → length line ≤ line_limit → StaysSilent m at s' out new line ⊎ PrintsLine m at s' out new line
    → Played m s s' old new (lines ++ line ∷ [])
plays_line m s at s' old out new lines line p part short (inl silent) =
    plays_silent m s at s' old out new lines line p part (record { short = short; asks = silent.asks }) silent.led silent.written
plays_line m s at s' old out new lines line p part short (inr prints) =
    plays_event m s at s' old out new lines line prints.event prints.reply p part (record { short = short; asks = prints.asks }) prints.does_ prints.written

-- a line was read with its line feed, and done
pub one_more_line : {S E R : Type 0} (m : Machine S E R) (limit : ℕ) (s at s' : S) (old now new : Streams) (number room : ℕ) (line : List ℕ)
    → Progress m limit s at old now number room → IsLine room now.input new.input [] line false
    → StaysSilent m at s' now.out new.out line ⊎ PrintsLine m at s' now.out new.out line
    → Progress m limit s s' old new (number + 1) (room - (length line + 1))
one_more_line m limit s at s' old now new number room line g r done =
    let fits : length (line ++ 10 ∷ []) ≤ room = r.fits in
    record {
      lines = g.lines ++ line ∷ [];
      played = plays_line m s at s' old.out now.out new.out g.lines line g.played r.part r.short done;
      consumed = rw (ended-more g.lines line)
          (Consumes-trans old.input.bytes now.input.bytes new.input.bytes (ended g.lines) (line ++ 10 ∷ []) g.consumed r.consumed);
      room_is = omega (arith, g.room_is, fits, ap length (ended-more g.lines line), length-append (ended g.lines) (line ++ 10 ∷ []), length-append line (10 ∷ []));
      number_is = omega (arith, g.number_is, length-append g.lines (line ∷ []));
    }
