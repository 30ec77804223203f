-- The relative paths of repositories, as lists of bytes.
use Rattle.std.specs.Prelude.{◌≡◌, ℕ, ◌-◌, ◌≤◌, ◌⊎◌, Bool, true, false, not, ◌&&◌, ◌||◌, ◌==◌, nat_le, if◌then◌else◌, List, [], ◌∷◌, length, drop, Option, None, Some, slice_get}
use Rattle.px_base.specs.FirstPlace.{IsFirst}
use Rattle.px_base.specs.StorageName.{is_name_byte}

-- a byte of a storage's name, or one of @ + /
abbrev pub is_path_byte : ℕ → Bool
is_path_byte b = is_name_byte b || (b == 64) || (b == 43) || (b == 47)

-- a byte at that place that no path has, or one too many
abbrev pub is_bad_byte : ℕ → Option ℕ → Bool
is_bad_byte at None = false
is_bad_byte at (Some b) = nat_le 255 at || not (is_path_byte b)

-- the byte at the place is bad
abbrev pub IsBadByteAt : List ℕ → ℕ → Type 0
IsBadByteAt text at = is_bad_byte at (slice_get text at) ≡ true

-- a component ends here: at a slash, or at the end of the path
abbrev pub is_over : List ℕ → Bool
is_over [] = true
is_over (b ∷ bytes) = b == 47

-- the component that begins here is '.', or one dot and more
abbrev pub is_dots : List ℕ → Bool
is_dots [] = false
is_dots (b ∷ bytes) = (b == 46) && is_over bytes

-- the component that begins here is empty, '.' or '..'
abbrev pub is_bad_component : List ℕ → Bool
is_bad_component [] = true
is_bad_component (b ∷ bytes) = (b == 47) || ((b == 46) && (is_over bytes || is_dots bytes))

-- there is a byte, and it is a slash
abbrev pub is_slash : Option ℕ → Bool
is_slash None = false
is_slash (Some b) = b == 47

-- a component begins at the place: it is the first, or a slash stands in front of it
abbrev pub begins : List ℕ → ℕ → Bool
begins text at = if at == 0 then true else is_slash (slice_get text (at - 1))

-- a bad component begins at the place
abbrev pub IsBadComponentAt : List ℕ → ℕ → Type 0
IsBadComponentAt text at =
    (at ≤ length text) × (begins text at ≡ true) × (is_bad_component (drop at text) ≡ true)

-- 1 to 255 bytes that paths have, and no bad component
pub record IsRepoPath (text : List ℕ) : Type 0 where
  pub bytes : (at : ℕ) → ¬ (IsBadByteAt text at)
  pub components : (at : ℕ) → ¬ (IsBadComponentAt text at)

-- the first bad byte, or else the first byte of the first bad component
abbrev pub IsFirstBad : List ℕ → ℕ → Type 0
IsFirstBad text at =
    IsFirst (IsBadByteAt text) at
    ⊎ (((k : ℕ) → ¬ (IsBadByteAt text k)) × IsFirst (IsBadComponentAt text) at)
