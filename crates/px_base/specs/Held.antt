-- What a source gives of a line out of what it holds.
use Rattle.std.specs.Prelude.{◌≡◌, ◌≢◌, ℕ, List, [], ◌∷◌, ◌++◌, Option}
use Rattle.std.specs.Io.KnownBytes.{Consumes, Keeps}
use Rattle.px_base.specs.Line.{IsShort, SpendsPart, SpendsTooMany}
use Rattle.px_base.specs.declared.source.HeldEnd.{HeldEnd}
use Rattle.px_base.specs.declared.source.HeldEnd.TheVariants.{Nothing, Part, Line, TooLong, Memory}

-- the line has grown by a part that has no LF and fits the room
abbrev pub GrowsBy : ℕ → List ℕ → List ℕ → List ℕ → Type 0
GrowsBy room line more part = (more ≡ line ++ part) × IsShort room part

-- what a source had and has left, by the line before and after
abbrev pub HeldGives : ℕ → Option (List ℕ) → Option (List ℕ) → List ℕ → List ℕ → HeldEnd → Type 0
HeldGives room old new line more Nothing = (more ≡ line) × Keeps old new
HeldGives room old new line more Part =
    (part : List ℕ) × GrowsBy room line more part × (part ≢ []) × Consumes old new part
HeldGives room old new line more Line =
    (part : List ℕ) × GrowsBy room line more part × Consumes old new (part ++ 10 ∷ [])
HeldGives room old new line more TooLong = (more ≡ line) × SpendsTooMany room old new
HeldGives room old new line more Memory = (more ≡ line) × SpendsPart room old new
