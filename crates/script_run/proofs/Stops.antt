-- What each end of a run says, from how far it had come.
use Rattle.std.proofs.Common.{◌≡◌, ◌+◌, ◌≤◌, ℕ, Bool, true, List, [], ◌∷◌, ◌++◌, length, arith, refl, ap, inl, inr, ◌⊎◌}
use Rattle.std.specs.Io.KnownBytes.{Consumes, Keeps, IsAtEnd}
use Rattle.std.proofs.KnownBytes.{Consumes-trans, Consumes-kept}
use Rattle.std.proofs.lemmas.List.{length-append}
use Rattle.script_run.specs.Acts.{Does}
use Rattle.script_run.specs.Ends.{PlaysAll, StopsAtBad, StopsTooLong, StopsUnread, StopsInLine, StopsForMemory}
use Rattle.script_run.specs.Machine.{Machine}
use Rattle.script_run.specs.Next.{bytes_of, IsLine, IsOverlong, IsPart, IsTooLong}
use Rattle.script_run.specs.Play.{PrintsLine, PrintsPart, StaysSilent}
use Rattle.script_run.specs.Script.{ended, IsBad}
use Rattle.script_run.specs.Stream.{Stream, Streams}
use Rattle.script_run.proofs.Progress.{plays_line, Progress}

module _ {S E R : Type 0} (m : Machine S E R) (limit : ℕ) (s at : S) (old now : Streams) (number room : ℕ)
    (g : Progress m limit s at old now number room) where
  -- what was read behind the lines that were done
  behind : (new : Stream) (bytes : List ℕ) → Consumes now.input.bytes new.bytes bytes → Consumes old.input.bytes new.bytes (ended g.lines ++ bytes)
  behind new bytes came = Consumes-trans old.input.bytes now.input.bytes new.bytes (ended g.lines) bytes g.consumed came

  -- and is within the room
  within : (bytes : List ℕ) → length bytes ≤ room → length (ended g.lines ++ bytes) ≤ limit
  within bytes fits = omega (arith, g.room_is, fits, length-append (ended g.lines) bytes)

  -- a line was read
  line_behind : (new : Stream) (line : List ℕ) (last : Bool) → IsLine room now.input new [] line last → IsLine limit old.input new (ended g.lines) line last
  line_behind new line last r = record {
    part = r.part;
    short = r.short;
    fits = within (bytes_of last line) r.fits;
    consumed = behind new (bytes_of last line) r.consumed;
    at_end = r.at_end;
  }

  -- a part of a line was read
  part_behind : (new : Stream) → IsPart room now.input new [] → IsPart limit old.input new (ended g.lines)
  part_behind new r = record {
    rest = r.rest;
    part = r.part;
    short = r.short;
    fits = within r.rest r.fits;
    consumed = behind new r.rest r.consumed;
  }

  -- nothing was left
  pub ends_done : (new : Stream) → Keeps now.input.bytes new.bytes → IsAtEnd new.bytes
      → PlaysAll m limit s at old (record { input = new; out = now.out })
  ends_done new keeps at_end = record {
    lines = g.lines;
    played = g.played;
    text = ended g.lines;
    whole = (g.played.parts, inl refl);
    fits = omega (arith, g.room_is);
    consumed = Consumes-kept old.input.bytes now.input.bytes new.bytes (ended g.lines) g.consumed keeps;
    at_end = at_end;
  }

  -- the last line was done
  pub ends_last : (s' : S) (new : Streams) (line : List ℕ) → IsLine room now.input new.input [] line true
      → StaysSilent m at s' now.out new.out line ⊎ PrintsLine m at s' now.out new.out line → PlaysAll m limit s s' old new
  ends_last s' new line r done =
      let p = plays_line m s at s' old.out now.out new.out g.lines line g.played r.part r.short done in
      let last = r.at_end refl in
      record {
        lines = g.lines ++ line ∷ [];
        played = p;
        text = ended g.lines ++ line;
        whole = (p.parts, inr (record { front = g.lines; last = line; whole = refl; some = last.0; is = refl }));
        fits = within line r.fits;
        consumed = behind new.input line r.consumed;
        at_end = last.1;
      }

  -- a line that was read is bad
  pub stops_at_bad : (s' : S) (new : Streams) (line : List ℕ) (last : Bool) → IsLine room now.input new.input [] line last → IsBad m line → s' ≡ at
      → new.out ≡ now.out → StopsAtBad m limit s s' old new (number + 1)
  stops_at_bad s' new line last r bad led same = record {
    lines = g.lines;
    played = rw (led, same) g.played;
    counted = ap (λ n. n + 1) g.number_is;
    line = line;
    bad = inl ((last, line_behind new.input line last r), bad);
  }

  pub stops_at_overlong : (new : Stream) (line : List ℕ) → IsOverlong room now.input new [] line
      → StopsAtBad m limit s at old (record { input = new; out = now.out }) (number + 1)
  stops_at_overlong new line r = record {
    lines = g.lines;
    played = g.played;
    counted = ap (λ n. n + 1) g.number_is;
    line = line;
    bad = inr (record {
      part = r.part;
      size = r.size;
      within = omega (arith, g.room_is, r.within);
      consumed = behind new line r.consumed;
    });
  }

  pub stops_too_long : (new : Stream) → IsTooLong room now.input new [] → StopsTooLong m limit s at old (record { input = new; out = now.out })
  stops_too_long new r = record {
    lines = g.lines;
    played = g.played;
    over = record {
      cut = r.cut;
      over = r.over;
      part = r.part;
      reaches = omega (arith, g.room_is, r.reaches, length-append (ended g.lines) r.cut);
      short = r.short;
      consumed = behind new (r.cut ++ r.over ∷ []) r.consumed;
    };
  }

  pub stops_unread : (new : Stream) → IsPart room now.input new [] → StopsUnread m limit s at old (record { input = new; out = now.out })
  stops_unread new r = record { lines = g.lines; played = g.played; reads = part_behind new r }

  pub stops_in_line : (s' : S) (new : Streams) (line : List ℕ) (last : Bool) → IsLine room now.input new.input [] line last
      → PrintsPart m at s' now.out new.out line → StopsInLine m limit s s' old new
  stops_in_line s' new line last r p = record {
    lines = g.lines;
    state = at;
    out = now.out;
    played = g.played;
    line = line;
    reads = (last, line_behind new.input line last r);
    event = p.event;
    lawful = record { short = r.short; asks = p.asks };
    reply = p.reply;
    does_ = p.does_;
    printed = p.printed;
  }

  -- memory wanted before the machine did anything
  pub stops_reading : (new : Stream) → IsPart room now.input new [] → StopsForMemory m limit s at old (record { input = new; out = now.out })
  stops_reading new r = record {
    lines = g.lines;
    state = at;
    played = g.played;
    wants = inl (record { reads = part_behind new r; led = refl });
  }

  -- memory wanted as the machine did what a line asks
  pub stops_acting : (s' : S) (new : Streams) (line : List ℕ) (last : Bool) → IsLine room now.input new.input [] line last
      → (s' ≡ at) ⊎ Does m at s' line → new.out ≡ now.out → StopsForMemory m limit s s' old new
  stops_acting s' new line last r led same = record {
    lines = g.lines;
    state = at;
    played = rw same g.played;
    wants = inr (record { line = line; reads = (last, line_behind new.input line last r); led = led });
  }
