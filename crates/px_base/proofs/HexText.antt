-- Lower-case hexadecimal digits are the text of the bytes that they read as.
use Rattle.std.proofs.Common.{◌≡◌, ◌≤◌, ◌+◌, ◌-◌, ◌*◌, ◌/◌, ◌%◌, ◌<◌, ℕ, zero, suc, true, List, [], ◌∷◌, length, slice_index, nat_lt, if◌then◌else◌, arith, refl, ap, sym, ◌∙◌, inl, inr}
use Rattle.std.proofs.lemmas.Bool.{cases_lt}
use Rattle.std.proofs.lemmas.Grind.{common_steps}
use Rattle.std.proofs.lemmas.List.Elements.{All-cons, All-head, All-nil, All-tail}
use Rattle.std.proofs.lemmas.List.Sums.{AllPass-from_list_all, list_all-from_AllPass}
use Rattle.std.specs.List.{AllPass, list_all}
use Rattle.std.specs.Prelude.{MatchResult, Result, Ok, Err}
use Rattle.std.proofs.Common.{subst, None, Some, Bool, false}
use Rattle.hex.specs.Hex.{encode_lower, encode_with, decode_sized, lower_digits, IsBytes}
use Rattle.hex.specs.declared.error.FromHexError.{FromHexError}
use Rattle.hex.proofs.HexLemmas.{decode_of-ok, decode_sized-encode_lower, decode_sized-ok, decode_sized-twice, length-encode_with}
use Rattle.px_base.specs.Hash.{hash_from, hash_of, hash_text, is_hex_digit, IsHash, IsHashText}
use Rattle.px_base.specs.declared.hash.Hash.{Hash}

some_same : {A : Type 0} {x y : A} → Some x ≡ Some y → x ≡ y
some_same e = cc

-- the digit of a value
digit_at : (v : ℕ) → v < 16 → slice_index lower_digits v ≡ (if nat_lt v 10 then v + 48 else v + 87)
digit_at zero small = refl
digit_at (suc zero) small = refl
digit_at (suc (suc zero)) small = refl
digit_at (suc (suc (suc zero))) small = refl
digit_at (suc (suc (suc (suc zero)))) small = refl
digit_at (suc (suc (suc (suc (suc zero))))) small = refl
digit_at (suc (suc (suc (suc (suc (suc zero)))))) small = refl
digit_at (suc (suc (suc (suc (suc (suc (suc zero))))))) small = refl
digit_at (suc (suc (suc (suc (suc (suc (suc (suc zero)))))))) small = refl
digit_at (suc (suc (suc (suc (suc (suc (suc (suc (suc zero))))))))) small = refl
digit_at (suc (suc (suc (suc (suc (suc (suc (suc (suc (suc zero)))))))))) small = refl
digit_at (suc (suc (suc (suc (suc (suc (suc (suc (suc (suc (suc zero))))))))))) small = refl
digit_at (suc (suc (suc (suc (suc (suc (suc (suc (suc (suc (suc (suc zero)))))))))))) small = refl
digit_at (suc (suc (suc (suc (suc (suc (suc (suc (suc (suc (suc (suc (suc zero))))))))))))) small = refl
digit_at (suc (suc (suc (suc (suc (suc (suc (suc (suc (suc (suc (suc (suc (suc zero)))))))))))))) small = refl
digit_at (suc (suc (suc (suc (suc (suc (suc (suc (suc (suc (suc (suc (suc (suc (suc zero))))))))))))))) small = refl
digit_at (suc (suc (suc (suc (suc (suc (suc (suc (suc (suc (suc (suc (suc (suc (suc (suc v)))))))))))))))) small = absurd (omega arith)

low : (c : ℕ) → is_hex_digit c ≡ true → c < 58 → (c - 48 < 10) × ((c - 48) + 48 ≡ c)
low c digit small = grind (arith, common_steps)

high : (c : ℕ) → is_hex_digit c ≡ true → 58 ≤ c → (10 ≤ c - 87) × (c - 87 < 16) × ((c - 87) + 87 ≡ c)
high c digit large = grind (arith, common_steps)

small_digit : (v : ℕ) → v < 10 → slice_index lower_digits v ≡ v + 48
small_digit v small = digit_at v (omega arith) ∙ grind (arith, common_steps)

large_digit : (v : ℕ) → 10 ≤ v → v < 16 → slice_index lower_digits v ≡ v + 87
large_digit v large small = digit_at v small ∙ grind (arith, common_steps)

-- each digit is that of a value below 16
value_of : (c : ℕ) → is_hex_digit c ≡ true → (v : ℕ) × (v < 16) × (slice_index lower_digits v ≡ c)
value_of c digit = elim (cases_lt c 58) [
  | inl small ↦ let l = low c digit small in (c - 48, omega (arith, l.0), small_digit (c - 48) l.0 ∙ l.1)
  | inr large ↦ let h = high c digit large in (c - 87, h.1, large_digit (c - 87) h.0 h.1 ∙ h.2)
]

abbrev byte_of : ℕ → ℕ → ℕ
byte_of h l = h * 16 + l

IsBytes-cons : (b : ℕ) (bytes : List ℕ) → b < 256 → IsBytes bytes → IsBytes (b ∷ bytes)
IsBytes-cons b bytes small rest zero = small
IsBytes-cons b bytes small rest (suc i) = rest i

-- an even number of digits is the text of some bytes
pub bytes_of : (s : List ℕ) → length s % 2 ≡ 0 → AllPass is_hex_digit s
    → (bytes : List ℕ) × (encode_lower bytes ≡ s) × IsBytes bytes × (length s ≡ 2 * length bytes)
unfolding encode_with
bytes_of [] even digits = ([], refl, (λ i. omega arith), refl)
bytes_of (a ∷ []) even digits = absurd (omega arith)
bytes_of (a ∷ b ∷ rest) even digits =
    let P = λ (c : ℕ). is_hex_digit c ≡ true in
    let more = All-tail P a (b ∷ rest) digits in
    let h = value_of a (All-head P a (b ∷ rest) digits) in
    let l = value_of b (All-head P b rest more) in
    let r = bytes_of rest (omega arith) (All-tail P b rest more) in
    let first : (h.0 * 16 + l.0) / 16 ≡ h.0 = omega (arith, h.1, l.1) in
    let second : (h.0 * 16 + l.0) % 16 ≡ l.0 = omega (arith, h.1, l.1) in (
      (h.0 * 16 + l.0) ∷ r.0,
      ap (λ (v : ℕ). slice_index lower_digits v ∷ slice_index lower_digits ((h.0 * 16 + l.0) % 16) ∷ encode_lower r.0) first
          ∙ ap (λ (v : ℕ). slice_index lower_digits h.0 ∷ slice_index lower_digits v ∷ encode_lower r.0) second
          ∙ ap (λ (c : ℕ). c ∷ slice_index lower_digits l.0 ∷ encode_lower r.0) h.2
          ∙ ap (λ (c : ℕ). a ∷ c ∷ encode_lower r.0) l.2
          ∙ ap (λ (t : List ℕ). a ∷ b ∷ t) r.1,
      IsBytes-cons (h.0 * 16 + l.0) r.0 (omega (arith, h.1, l.1)) r.2,
      omega (arith, r.3),
    )

-- what a reader of 20 bytes answers
abbrev pub Answers : Result (List ℕ) FromHexError → Result (Unit {0}) FromHexError → List ℕ → Type 0
Answers read answer out = MatchResult read (λ bytes. (answer ≡ Ok tt) × (out ≡ bytes)) (λ e. answer ≡ Err e)

-- the reader takes the text of a hash, and writes the bytes that it is the text of
pub reads_hash : (text out : List ℕ) (answer : Result (Unit {0}) FromHexError) → IsHashText text
    → Answers (decode_sized text 20) answer out → (answer ≡ Ok tt) × (encode_lower out ≡ text) × (Some (record { 0 = out }) ≡ hash_of text)
reads_hash text out answer lawful known =
    let b = bytes_of text (omega (arith, lawful.size)) lawful.digits in
    let read : decode_sized text 20 ≡ Ok b.0 =
    ap (λ (t : List ℕ). decode_sized t 20) (sym b.1) ∙ decode_sized-encode_lower b.0 20 (omega (arith, b.3, lawful.size)) b.2 in
    let told : (answer ≡ Ok tt) × (out ≡ b.0) = subst (λ (r : Result (List ℕ) FromHexError). Answers r answer out) read known in
    let all : list_all is_hex_digit text ≡ true = list_all-from_AllPass is_hex_digit text lawful.digits in
    let of : hash_of text ≡ Some (record { 0 = b.0 }) = rw (all, read) refl in
    (told.0, ap encode_lower told.1 ∙ b.1, ap (λ (x : List ℕ). Some (let h : Hash = record { 0 = x } in h)) told.1 ∙ sym of)

size_when_read : (read : Result (List ℕ) FromHexError) (text out : List ℕ) (answer : Result (Unit {0}) FromHexError)
    → decode_sized text 20 ≡ read → Answers read answer out → answer ≡ Ok tt → length text ≡ 40
size_when_read (Ok bytes) text out answer is known took = decode_sized-ok text 20 bytes is
size_when_read (Err e) text out answer is known took = cc

-- digits alone that it takes are the text of a hash
pub lawful_when_read : (text out : List ℕ) (answer : Result (Unit {0}) FromHexError) → list_all is_hex_digit text ≡ true
    → Answers (decode_sized text 20) answer out → answer ≡ Ok tt → IsHashText text
lawful_when_read text out answer all known took = record {
  size = size_when_read (decode_sized text 20) text out answer refl known took;
  digits = AllPass-from_list_all is_hex_digit text all;
}

none_when_refused : (read : Result (List ℕ) FromHexError) (out : List ℕ) (answer : Result (Unit {0}) FromHexError) (e : FromHexError)
    → Answers read answer out → answer ≡ Err e → hash_from read ≡ None
none_when_refused (Ok bytes) out answer e known refused = cc
none_when_refused (Err f) out answer e known refused = refl

-- what it refuses is no hash
pub no_hash_when_refused : (text out : List ℕ) (answer : Result (Unit {0}) FromHexError) (e : FromHexError) → list_all is_hex_digit text ≡ true
    → Answers (decode_sized text 20) answer out → answer ≡ Err e → hash_of text ≡ None
no_hash_when_refused text out answer e all known refused = rw all (none_when_refused (decode_sized text 20) out answer e known refused)

-- so it does not refuse one
pub never_refused : (answer : Result (Unit {0}) FromHexError) (e : FromHexError) → answer ≡ Ok tt → answer ≡ Err e → ⊥
never_refused answer e took refused = cc

digit_passes : (v : ℕ) → v < 16 → is_hex_digit (slice_index lower_digits v) ≡ true
digit_passes v small = elim (cases_lt v 10) [
  | inl low ↦ rw (small_digit v low) (grind (arith, common_steps))
  | inr high ↦ rw (large_digit v high small) (grind (arith, common_steps))
]

-- each of the digits of bytes is one in lower case
pub digits_pass : (bytes : List ℕ) → IsBytes bytes → AllPass is_hex_digit (encode_lower bytes)
unfolding encode_with
digits_pass [] each = All-nil (λ (c : ℕ). is_hex_digit c ≡ true)
digits_pass (b ∷ bytes) each =
    let P = λ (c : ℕ). is_hex_digit c ≡ true in
    let fits : b < 256 = each 0 in
    All-cons P (slice_index lower_digits (b / 16)) (slice_index lower_digits (b % 16) ∷ encode_lower bytes) (digit_passes (b / 16) (omega arith))
    (All-cons P (slice_index lower_digits (b % 16)) (encode_lower bytes) (digit_passes (b % 16) (omega arith)) (digits_pass bytes (λ i. each (suc i))))

-- the text of a hash is one
pub text_is_lawful : (hash : Hash) → IsHash hash → IsHashText (hash_text hash)
text_is_lawful hash h = record {
  size = omega (arith, length-encode_with lower_digits hash.0, h.size);
  digits = digits_pass hash.0 h.bytes;
}

-- a hash is read back from its text
pub hash_of-hash_text : (hash : Hash) → IsHash hash → hash_of (hash_text hash) ≡ Some hash
hash_of-hash_text hash h =
    let all : list_all is_hex_digit (hash_text hash) ≡ true = list_all-from_AllPass is_hex_digit (hash_text hash) (digits_pass hash.0 h.bytes) in
    let read : decode_sized (encode_lower hash.0) 20 ≡ Ok hash.0 = decode_sized-encode_lower hash.0 20 h.size h.bytes in
    rw (all, read) refl

hash_of-by : (all : Bool) (read : Result (List ℕ) FromHexError) (text : List ℕ) (hash : Hash) → all ≡ list_all is_hex_digit text → read ≡ decode_sized text 20
    → (if all then hash_from read else None) ≡ Some hash → (all ≡ true) × (decode_sized text 20 ≡ Ok hash.0)
hash_of-by false read text hash a r is = cc
hash_of-by true (Err e) text hash a r is = cc
hash_of-by true (Ok bytes) text hash a r is = (refl, sym r ∙ ap (λ (h : Hash). let x : Result (List ℕ) FromHexError = Ok h.0 in x) (some_same is))

-- what is read is a hash, and this is its text
pub hash_of-some : (text : List ℕ) (hash : Hash) → hash_of text ≡ Some hash → IsHash hash × (hash_text hash ≡ text)
hash_of-some text hash is =
    let d = hash_of-by (list_all is_hex_digit text) (decode_sized text 20) text hash refl refl is in
    let digits = AllPass-from_list_all is_hex_digit text d.0 in
    let size = decode_sized-ok text 20 hash.0 d.1 in
    let read = decode_of-ok text hash.0 (sym (decode_sized-twice text 20 size) ∙ d.1) in
    let known : Answers (decode_sized text 20) (Ok tt) hash.0 = subst (λ (r : Result (List ℕ) FromHexError). Answers r (Ok tt) hash.0) (sym d.1) (refl, refl) in (
      record { size = omega (arith, size, read.2); bytes = read.3 },
      (reads_hash text hash.0 (Ok tt) (record { size = omega (arith, size); digits = digits }) known).1,
    )
