-- Hashes: their text, and when two are one.
use Rattle.std.specs.Prelude.{◌≡◌, ◌&&◌, ◌||◌, nat_le, Bool, List, ℕ, length, replicate, if◌then◌else◌, Option, Some, None, Result, Ok, Err}
use Rattle.std.specs.Bool.{Decides}
use Rattle.std.specs.List.{AllPass, list_all}
use Rattle.std.specs.Str.{bytes_eq}
use Rattle.std.specs.Ordering.{nat_cmp}
use Rattle.std.specs.Cmp.Lexicographic.{slice_cmp}
use Rattle.std.specs.declared.cmp.Ordering.{Ordering}
use Rattle.std.proofs.Common.{ap}
use Rattle.std.proofs.lemmas.Slice.Eq.{bytes_eq-Decides}
use Rattle.hex.specs.Hex.{encode_lower, decode_sized, IsBytes}
use Rattle.hex.specs.declared.error.FromHexError.{FromHexError}
use Rattle.px_base.specs.declared.hash.Hash.{Hash}

-- the hexadecimal digits of a hash, in lower case
abbrev pub hash_text : Hash → List ℕ
hash_text hash = encode_lower hash.0

-- one of 0 to 9 or of a to f
abbrev pub is_hex_digit : ℕ → Bool
is_hex_digit c = (nat_le 48 c && nat_le c 57) || (nat_le 97 c && nat_le c 102)

-- 40 hexadecimal digits in lower case
pub record IsHashText (text : List ℕ) : Type 0 where
  pub size : length text ≡ 40
  pub digits : AllPass is_hex_digit text

-- 20 bytes
pub record IsHash (hash : Hash) : Type 0 where
  pub size : length hash.0 ≡ 20
  pub bytes : IsBytes hash.0

-- the hash of bytes that were read, where they were
abbrev pub hash_from : Result (List ℕ) FromHexError → Option Hash
hash_from (Ok bytes) = Some (record { 0 = bytes })
hash_from (Err e) = None

-- the hash that these digits stand for, where each is a digit and there are 40
abbrev pub hash_of : List ℕ → Option Hash
hash_of text = if list_all is_hex_digit text then hash_from (decode_sized text 20) else None

-- the order of hashes: the first byte that differs decides
abbrev pub hash_cmp : Hash → Hash → Ordering
hash_cmp g h = slice_cmp nat_cmp g.0 h.0

-- the two are one hash
abbrev pub same_hash : Hash → Hash → Bool
same_hash g h = bytes_eq g.0 h.0

-- it tells whether they are
pub same_hash-Decides : (g h : Hash) → Decides (same_hash g h) (g ≡ h)
same_hash-Decides g h =
    let bytes : Decides (same_hash g h) (g.0 ≡ h.0) = bytes_eq-Decides g.0 h.0 in (
      λ t. ap (λ (b : List ℕ). let x : Hash = record { 0 = b } in x) (bytes.0 t),
      λ e. bytes.1 (ap (λ (x : Hash). x.0) e),
    )

-- the zero name, 40 zeros: no object has it
abbrev pub zero_hash : Hash
zero_hash = record { 0 = replicate 20 0 }

abbrev pub is_zero : Hash → Bool
is_zero hash = same_hash hash zero_hash
