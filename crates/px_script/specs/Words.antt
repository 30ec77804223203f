-- What the reader computes of single words. The rule of the lines stands in Spelling.
use Rattle.std.specs.Prelude.{◌≡◌, ℕ, ◌+◌, ◌-◌, ◌*◌, ◌^◌, ◌<◌, List, [], ◌∷◌, length, Bool, true, false, ◌&&◌, ◌==◌, nat_le, nat_lt, if◌then◌else◌, fold, Option, Some, None, option_and_then, codes}
use Rattle.std.specs.List.{after_first, before_first, list_all, position_or_len, slice_split}
use Rattle.std.specs.Str.{bytes_eq}
use Rattle.px_base.specs.StorageName.{is_name_byte}
use Rattle.px_base.specs.declared.phase.Phase.{Phase}
use Rattle.px_base.specs.declared.phase.Phase.TheVariants.{Prepared, Committed}
use Rattle.px_base.specs.declared.voter.Voter.{Voter}

-- what stands before the first byte that is the mark, and what stands after it
pub record IsCutAt (mark : ℕ) (bytes front back : List ℕ) : Type 0 where
  pub within : position_or_len (λ b. b == mark) bytes < length bytes
  pub before : front ≡ before_first (λ b. b == mark) bytes
  pub after : back ≡ after_first (λ b. b == mark) bytes

-- no byte is the mark
abbrev pub HasNo : ℕ → List ℕ → Type 0
HasNo mark bytes = position_or_len (λ b. b == mark) bytes ≡ length bytes

-- the words of a line, cut at each space
abbrev pub line_words : List ℕ → List (List ℕ)
line_words line = slice_split (λ b. b == 32) line

-- the words that are left: none where the line is over
abbrev pub words_left : Bool → List ℕ → List (List ℕ)
words_left is_over bytes = if is_over then [] else line_words bytes

-- a number and one digit more, where that is a digit and the number stays below 2^64
abbrev pub with_digit : Option ℕ → ℕ → Option ℕ
with_digit None b = None
with_digit (Some n) b =
    if nat_le 48 b && nat_le b 57 && nat_lt (n * 10 + (b - 48)) (2 ^ 64)
    then Some (n * 10 + (b - 48)) else None

-- a number below 2^64 in decimal digits, at least one, with no zero before others
abbrev pub number_of : List ℕ → Option ℕ
number_of [] = None
number_of (d ∷ []) = with_digit (Some 0) d
number_of (d ∷ e ∷ ds) = if d == 48 then None else fold with_digit (Some 0) (d ∷ e ∷ ds)

-- the same number, where it has 32 bits
abbrev pub narrow : ℕ → Option ℕ
narrow n = if nat_lt n (2 ^ 32) then Some n else None

-- a number below 2^32
abbrev pub small_of : List ℕ → Option ℕ
small_of word = option_and_then narrow (number_of word)

-- the name of a storage
abbrev pub name_of : List ℕ → Option (List ℕ)
name_of word =
    if nat_le 1 (length word) && nat_le (length word) 64 && list_all is_name_byte word
    then Some word else None

-- one of the two phases
abbrev pub phase_of : List ℕ → Option Phase
phase_of word =
    if bytes_eq word (codes "prepared") then Some Prepared
    else if bytes_eq word (codes "committed") then Some Committed
    else None

-- the same number, where it is not 2^64 - 1
abbrev pub fitting : ℕ → Option ℕ
fitting n = if nat_lt n (2 ^ 64 - 1) then Some n else None

-- a lease: a number below 2^64 - 1
abbrev pub lease_of : List ℕ → Option ℕ
lease_of word = option_and_then fitting (number_of word)

-- whether a storage can be reached
abbrev pub health_of : List ℕ → Option Bool
health_of word =
    if bytes_eq word (codes "up") then Some true
    else if bytes_eq word (codes "down") then Some false
    else None

-- what is read of what stands before the first colon and of what stands after it
abbrev pub cut_of : {A : Type 0} → (List ℕ → List ℕ → Option A) → List ℕ → Option A
cut_of read word =
    if nat_lt (position_or_len (λ b. b == 58) word) (length word)
    then read (before_first (λ b. b == 58) word) (after_first (λ b. b == 58) word)
    else None

-- one before others
abbrev pub before_others : {A : Type 0} → Option A → Option (List A) → Option (List A)
before_others None others = None
before_others (Some a) None = None
before_others (Some a) (Some others) = Some (a ∷ others)

-- one a word
abbrev pub each_of : {A : Type 0} → (List ℕ → Option A) → List (List ℕ) → Option (List A)
each_of read [] = Some []
each_of read (word ∷ words) = before_others (read word) (each_of read words)

-- a voter of this name and this weight
abbrev pub voter_from : Option (List ℕ) → Option ℕ → Option Voter
voter_from None weight = None
voter_from (Some name) None = None
voter_from (Some name) (Some weight) = Some (record { name = name; weight = weight })

-- a name, a colon and a weight
abbrev pub voter_of : List ℕ → Option Voter
voter_of word = cut_of (λ name weight. voter_from (name_of name) (small_of weight)) word

-- what is read of the first word
abbrev pub first_of : {A : Type 0} → (List ℕ → Option A) → List (List ℕ) → Option A
first_of read [] = None
first_of read (word ∷ words) = read word

-- that no word is left
abbrev pub end_of : List (List ℕ) → Option (Unit {0})
end_of [] = Some tt
end_of (word ∷ words) = None
