-- The last byte of those that were read.
use Rattle.std.proofs.Common.{◌≡◌, ◌+◌, ◌<◌, ℕ, List, [], ◌∷◌, ◌++◌, length, arith, refl, ap, inl, subst}
use Rattle.std.specs.Io.KnownBytes.{Consumes}
use Rattle.px_base.specs.Line.{HasNoLf}
use Rattle.script_run.specs.Next.{IsTooLong}
use Rattle.script_run.specs.Script.{line_limit}
use Rattle.script_run.specs.Stream.{Stream}

-- bytes without a line feed, cut before the last one
record CutLast (read : List ℕ) : Type 0 where
  cut : List ℕ
  over : ℕ
  whole : read ≡ cut ++ over ∷ []
  part : HasNoLf cut
  size : length read ≡ length cut + 1

cut_last : (b : ℕ) (read : List ℕ) → HasNoLf (b ∷ read) → CutLast (b ∷ read)
cut_last b [] part = record { cut = []; over = b; whole = refl; part = tt; size = refl }
cut_last b (c ∷ read) part =
    let rest = cut_last c read part.1 in
    record {
      cut = b ∷ rest.cut;
      over = rest.over;
      whole = ap (λ (t : List ℕ). b ∷ t) rest.whole;
      part = (part.0, rest.part);
      size = omega (arith, rest.size);
    }

some_cut : (read : List ℕ) → 0 < length read → HasNoLf read → CutLast read
some_cut [] some part = absurd (omega arith)
some_cut (b ∷ read) some part = cut_last b read part

-- one byte more than the room came, and a line may have more
pub past_room : (room : ℕ) (old new : Stream) (read : List ℕ) → room < line_limit → HasNoLf read → length read ≡ room + 1
    → Consumes old.bytes new.bytes read → IsTooLong room old new []
past_room room old new read small part size came =
    let c = some_cut read (omega arith) part in
    record {
      cut = c.cut;
      over = c.over;
      part = c.part;
      reaches = omega (arith, c.size);
      short = inl (omega (arith, c.size));
      consumed = subst (λ (bytes : List ℕ). Consumes old.bytes new.bytes bytes) c.whole came;
    }
