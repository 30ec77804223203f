-- Values as bytes, as rows and frames have them. A number has its highest byte first.
use Rattle.std.specs.Prelude.{◌<◌, ◌-◌, ◌^◌, ◌++◌, ◌∷◌, ℕ, Bool, true, false, List, length, Option, None, Some}
use Rattle.std.specs.Int.{to_be_bytes, w16, w32, w64}
use Rattle.px_base.specs.declared.kind.Kind.{Kind}
use Rattle.px_base.specs.declared.kind.Kind.TheVariants.{Commit, Tree, Blob, Tag}

-- ---- numbers

-- of four bytes
abbrev pub u32_bytes : ℕ → List ℕ
u32_bytes n = to_be_bytes w32 n

-- of eight bytes
abbrev pub u64_bytes : ℕ → List ℕ
u64_bytes n = to_be_bytes w64 n

-- the number is that of a lease
abbrev pub IsLease : ℕ → Type 0
IsLease n = n < 2 ^ 64 - 1

-- ---- flags, and numbers that may not be there

-- the byte of a flag
abbrev pub flag : Bool → ℕ
flag true = 1
flag false = 0

-- a flag, and a number, which is 0 where the flag is
abbrev pub optional_u32 : Option ℕ → List ℕ
optional_u32 None = 0 ∷ u32_bytes 0
optional_u32 (Some n) = 1 ∷ u32_bytes n

abbrev pub optional_u64 : Option ℕ → List ℕ
optional_u64 None = 0 ∷ u64_bytes 0
optional_u64 (Some n) = 1 ∷ u64_bytes n

-- ---- kinds

-- the byte of a kind
abbrev pub kind_code : Kind → ℕ
kind_code Commit = 1
kind_code Tree = 2
kind_code Blob = 3
kind_code Tag = 4

-- ---- texts

-- a text has its length before it, in two bytes; so it has less than 65,536
abbrev pub text_bytes : List ℕ → List ℕ
text_bytes text = to_be_bytes w16 (length text) ++ text
