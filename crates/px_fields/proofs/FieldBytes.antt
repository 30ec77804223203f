-- What bytes are that are read from the front.
use Rattle.std.proofs.Common.{◌≡◌, ◌≢◌, ◌<◌, ◌≤◌, ◌++◌, ◌∷◌, [], ℕ, zero, suc, List, length, take, drop, get_or, Bool, true, false, Option, None, Some, arith, sym, ap, ◌∙◌}
use Rattle.std.specs.Int.{Width, from_be_bytes, to_be_bytes}
use Rattle.std.proofs.lemmas.List.{length-take-le, take-append-drop}
use Rattle.px_fields.specs.Fields.{flag, optional_u32, optional_u64, u32_bytes, u64_bytes}

-- the numbers are bytes
abbrev pub AreBytes : List ℕ → Type 0
AreBytes bytes = (i : ℕ) → get_or bytes i 0 < 256

-- and so are the first of them
AreBytes-take : (n : ℕ) (bytes : List ℕ) → AreBytes bytes → AreBytes (take n bytes)
AreBytes-take zero bytes are i = omega arith
AreBytes-take (suc n) [] are i = are i
AreBytes-take (suc n) (b ∷ bytes) are zero = are 0
AreBytes-take (suc n) (b ∷ bytes) are (suc i) =
    AreBytes-take n bytes (λ k. are (suc k)) i

-- as many bytes in front as a number of that width has are those of the number that they make
pub number_in_front : (size : ℕ) (width : Width)
    → ((bytes : List ℕ) (n : ℕ) → length bytes ≡ size → AreBytes bytes
    → n ≡ from_be_bytes width bytes → to_be_bytes width n ≡ bytes)
    → (bytes front rest : List ℕ) (n : ℕ) → size ≤ length bytes → AreBytes bytes
    → front ≡ take size bytes → rest ≡ drop size bytes → n ≡ from_be_bytes width front
    → bytes ≡ to_be_bytes width n ++ rest
number_in_front size width back bytes front rest n long are front_is rest_is is =
    let long_front : length front ≡ size = ap length front_is ∙ length-take-le size bytes long in
    let each : AreBytes front = rw front_is (AreBytes-take size bytes are) in
    sym (take-append-drop size bytes)
    ∙ ap (λ (b : List ℕ). b ++ drop size bytes)
    (sym front_is ∙ sym (back front n long_front each is))
    ∙ ap (λ (b : List ℕ). to_be_bytes width n ++ b) (sym rest_is)

-- bytes that no flag begins are not begun by a number that may not be there
pub no_optional_u32 : (bytes : List ℕ)
    → ((set : Bool) (rest : List ℕ) → bytes ≢ flag set ∷ rest)
    → (number : Option ℕ) (rest : List ℕ) → bytes ≢ optional_u32 number ++ rest
no_optional_u32 bytes none None rest same = none false (u32_bytes 0 ++ rest) same
no_optional_u32 bytes none (Some n) rest same = none true (u32_bytes n ++ rest) same

pub no_optional_u64 : (bytes : List ℕ)
    → ((set : Bool) (rest : List ℕ) → bytes ≢ flag set ∷ rest)
    → (number : Option ℕ) (rest : List ℕ) → bytes ≢ optional_u64 number ++ rest
no_optional_u64 bytes none None rest same = none false (u64_bytes 0 ++ rest) same
no_optional_u64 bytes none (Some n) rest same = none true (u64_bytes n ++ rest) same
