-- The turns of loops that read: what was read before, and what is still read.
use Rattle.std.proofs.Common.{◌≡◌, ◌++◌, ◌+◌, ◌-◌, ◌<◌, ◌≤◌, ◌==◌, ◌&&◌, ℕ, suc, List, [], ◌∷◌, length, take, drop, get_or, Bool, true, false, cond, Result, Ok, Err, arith, refl, ap, sym, ◌∙◌, nat_lt, append_assoc, add-one, drop-cons}
use Rattle.std.proofs.lemmas.Bool.{eq-eqb}
use Rattle.std.proofs.lemmas.List.{append-nil, drop_all, length-drop, take_more, take_rest}
use Rattle.px_base.specs.Hash.{is_hex_digit}
use Rattle.object_format.specs.Reading.{and_then, byte_at, digits_at, text_at}
use Rattle.object_format.specs.TreeReading.{until_at}

-- bytes before a value that is read
abbrev pub with_front : List ℕ → Result (List ℕ × List ℕ) ℕ → Result (List ℕ × List ℕ) ℕ
with_front front read = and_then read (λ r. Ok (front ++ r.0, r.1))

-- the byte at a place stands before those behind it
at_place : (bytes : List ℕ) (i : ℕ) → i < length bytes → drop i bytes ≡ get_or bytes i 0 ∷ drop (i + 1) bytes
at_place bytes i lt = rw (add-one, drop-cons bytes i 0) refl

-- a byte that is read moves behind the front
regroup : (front : List ℕ) (b : ℕ) (read : Result (List ℕ × List ℕ) ℕ)
    → with_front (front ++ b ∷ []) read ≡ with_front front (with_front (b ∷ []) read)
regroup front b (Ok r) = ap (λ (t : List ℕ). let x : Result (List ℕ × List ℕ) ℕ = Ok (t, r.1) in x) (append_assoc front (b ∷ []) r.0)
regroup front b (Err left) = refl

-- a byte that passes is read
byte_here : (test : ℕ → Bool) (bytes : List ℕ) (i : ℕ) → i < length bytes → test (get_or bytes i 0) ≡ true
    → byte_at test (drop i bytes) ≡ Ok (get_or bytes i 0, drop (i + 1) bytes)
byte_here test bytes i lt passes =
    ap (byte_at test) (at_place bytes i lt)
    ∙ ap (λ (t : Bool). let x : Result (ℕ × List ℕ) ℕ = cond t (Ok (get_or bytes i 0, drop (i + 1) bytes)) (Err (length (get_or bytes i 0 ∷ drop (i + 1) bytes))) in x) passes

-- a byte that does not is refused there
pub byte_wrong : (test : ℕ → Bool) (bytes : List ℕ) (i : ℕ) → i < length bytes → test (get_or bytes i 0) ≡ false
    → byte_at test (drop i bytes) ≡ Err (length bytes - i)
byte_wrong test bytes i lt fails =
    ap (byte_at test) (at_place bytes i lt)
    ∙ ap (λ (t : Bool). let x : Result (ℕ × List ℕ) ℕ = cond t (Ok (get_or bytes i 0, drop (i + 1) bytes)) (Err (length (get_or bytes i 0 ∷ drop (i + 1) bytes))) in x) fails
    ∙ ap (λ (n : ℕ). let x : Result (ℕ × List ℕ) ℕ = Err n in x) (sym (ap length (at_place bytes i lt)) ∙ length-drop i bytes)

-- and so is the end
pub byte_none : (test : ℕ → Bool) (bytes : List ℕ) (i : ℕ) → length bytes ≤ i → byte_at test (drop i bytes) ≡ Err (length bytes - i)
byte_none test bytes i end =
    let none : 0 ≡ length bytes - i = omega arith in
    ap (byte_at test) (drop_all i bytes end) ∙ ap (λ (n : ℕ). let x : Result (ℕ × List ℕ) ℕ = Err n in x) none

-- ---- a written-out text

-- a text from a place on
text_turn : (text bytes : List ℕ) (i : ℕ) → i < length text
    → text_at (drop i text) (drop i bytes) ≡ and_then (byte_at (λ b. b == get_or text i 0) (drop i bytes)) (λ b. text_at (drop (i + 1) text) b.1)
unfolding text_at
text_turn text bytes i lt = ap (λ (t : List ℕ). text_at t (drop i bytes)) (at_place text i lt)

pub text_more : (text bytes : List ℕ) (i : ℕ) → i < length text → i < length bytes → get_or bytes i 0 ≡ get_or text i 0
    → text_at (drop i text) (drop i bytes) ≡ text_at (drop (i + 1) text) (drop (i + 1) bytes)
text_more text bytes i lt within same =
    text_turn text bytes i lt
    ∙ ap (λ (r : Result (ℕ × List ℕ) ℕ). and_then r (λ b. text_at (drop (i + 1) text) b.1)) (byte_here (λ b. b == get_or text i 0) bytes i within (eq-eqb (get_or bytes i 0) (get_or text i 0) same))

pub text_stops : (text bytes : List ℕ) (i : ℕ) → i < length text → byte_at (λ b. b == get_or text i 0) (drop i bytes) ≡ Err (length bytes - i)
    → text_at (drop i text) (drop i bytes) ≡ Err (length bytes - i)
text_stops text bytes i lt stops = text_turn text bytes i lt ∙ ap (λ (r : Result (ℕ × List ℕ) ℕ). and_then r (λ b. text_at (drop (i + 1) text) b.1)) stops

pub text_ends : (text bytes : List ℕ) (i : ℕ) → i ≡ length text
    → text_at (drop i text) (drop i bytes) ≡ Ok (tt, take (length bytes - length text) (drop (length text) bytes))
unfolding text_at
text_ends text bytes i end =
    ap (λ (t : List ℕ). text_at t (drop i bytes)) (drop_all i text (omega arith))
    ∙ ap (λ (t : List ℕ). let x : Result (Unit {0} × List ℕ) ℕ = Ok (tt, t) in x) (ap (λ (k : ℕ). drop k bytes) end ∙ sym (take_rest bytes (length text)))

-- ---- digits

digits_turn : (n : ℕ) (bytes : List ℕ) (i : ℕ) → i < n
    → digits_at (n - i) (drop i bytes) ≡ and_then (byte_at is_hex_digit (drop i bytes)) (λ b. with_front (b.0 ∷ []) (digits_at (n - (i + 1)) b.1))
unfolding digits_at
digits_turn n bytes i lt =
    let more : n - i ≡ suc (n - (i + 1)) = omega arith in
    ap (λ (k : ℕ). digits_at k (drop i bytes)) more

pub digits_more : (n : ℕ) (bytes : List ℕ) (i : ℕ) → i < n → i < length bytes → is_hex_digit (get_or bytes i 0) ≡ true
    → with_front (take i bytes) (digits_at (n - i) (drop i bytes)) ≡ with_front (take (i + 1) bytes) (digits_at (n - (i + 1)) (drop (i + 1) bytes))
digits_more n bytes i lt within passes =
    let rest = digits_at (n - (i + 1)) (drop (i + 1) bytes) in
    ap (with_front (take i bytes)) (digits_turn n bytes i lt ∙ ap (λ (r : Result (ℕ × List ℕ) ℕ). and_then r (λ b. with_front (b.0 ∷ []) (digits_at (n - (i + 1)) b.1))) (byte_here is_hex_digit bytes i within passes))
    ∙ sym (regroup (take i bytes) (get_or bytes i 0) rest) ∙ ap (λ (t : List ℕ). with_front t rest) (sym (take_more bytes i 0 within))

pub digits_stop : (n : ℕ) (bytes : List ℕ) (i : ℕ) → i < n → byte_at is_hex_digit (drop i bytes) ≡ Err (length bytes - i)
    → with_front (take i bytes) (digits_at (n - i) (drop i bytes)) ≡ Err (length bytes - i)
digits_stop n bytes i lt stops =
    ap (with_front (take i bytes)) (digits_turn n bytes i lt ∙ ap (λ (r : Result (ℕ × List ℕ) ℕ). and_then r (λ b. with_front (b.0 ∷ []) (digits_at (n - (i + 1)) b.1))) stops)

pub digits_end : (n : ℕ) (bytes : List ℕ) (i : ℕ) → n ≡ i
    → with_front (take i bytes) (digits_at (n - i) (drop i bytes)) ≡ Ok (take n bytes, drop n bytes)
unfolding digits_at
digits_end n bytes i same =
    let none : n - i ≡ 0 = omega arith in
    ap (λ (k : ℕ). with_front (take i bytes) (digits_at k (drop i bytes))) none
    ∙ ap (λ (t : List ℕ). let x : Result (List ℕ × List ℕ) ℕ = Ok (t, drop i bytes) in x) (append-nil (take i bytes))
    ∙ ap (λ (k : ℕ). let x : Result (List ℕ × List ℕ) ℕ = Ok (take k bytes, drop k bytes) in x) (sym same)

-- ---- bytes up to one that ends them

module _ (may : ℕ → ℕ → Bool) (stop : ℕ) (bytes : List ℕ) (i : ℕ) where
  -- what is read so far, and what is still read
  abbrev pub so_far : Result (List ℕ × List ℕ) ℕ
  so_far = with_front (take i bytes) (until_at may stop i (drop i bytes))

  -- what the reader does with the byte at the place
  abbrev turn : Bool → Bool → ℕ → List ℕ → Result (List ℕ × List ℕ) ℕ
  turn goes_on ends b rest =
      cond goes_on (with_front (b ∷ []) (until_at may stop (i + 1) rest)) (cond ends (Ok ([], rest)) (Err (length (b ∷ rest))))

  until_turn : i < length bytes
      → until_at may stop i (drop i bytes) ≡ turn (may i (get_or bytes i 0)) ((get_or bytes i 0 == stop) && nat_lt 0 i) (get_or bytes i 0) (drop (i + 1) bytes)
  unfolding until_at
  until_turn lt = ap (until_at may stop i) (at_place bytes i lt)

  pub until_more : i < length bytes → may i (get_or bytes i 0) ≡ true
      → so_far ≡ with_front (take (i + 1) bytes) (until_at may stop (i + 1) (drop (i + 1) bytes))
  until_more lt goes =
      let rest = until_at may stop (i + 1) (drop (i + 1) bytes) in
      ap (with_front (take i bytes)) (until_turn lt ∙ ap (λ (t : Bool). turn t ((get_or bytes i 0 == stop) && nat_lt 0 i) (get_or bytes i 0) (drop (i + 1) bytes)) goes)
      ∙ sym (regroup (take i bytes) (get_or bytes i 0) rest) ∙ ap (λ (t : List ℕ). with_front t rest) (sym (take_more bytes i 0 lt))

  pub until_ends : i < length bytes → may i (get_or bytes i 0) ≡ false → ((get_or bytes i 0 == stop) && nat_lt 0 i) ≡ true
      → so_far ≡ Ok (take i bytes, take (length bytes - (i + 1)) (drop (i + 1) bytes))
  until_ends lt fails ends =
      ap (with_front (take i bytes)) (until_turn lt ∙ ap (λ (t : Bool). turn t ((get_or bytes i 0 == stop) && nat_lt 0 i) (get_or bytes i 0) (drop (i + 1) bytes)) fails
      ∙ ap (λ (t : Bool). turn false t (get_or bytes i 0) (drop (i + 1) bytes)) ends)
      ∙ ap (λ (t : List ℕ). let x : Result (List ℕ × List ℕ) ℕ = Ok (t, drop (i + 1) bytes) in x) (append-nil (take i bytes))
      ∙ ap (λ (t : List ℕ). let x : Result (List ℕ × List ℕ) ℕ = Ok (take i bytes, t) in x) (sym (take_rest bytes (i + 1)))

  pub until_stops : i < length bytes → may i (get_or bytes i 0) ≡ false → ((get_or bytes i 0 == stop) && nat_lt 0 i) ≡ false
      → so_far ≡ Err (length bytes - i)
  until_stops lt fails goes =
      ap (with_front (take i bytes)) (until_turn lt ∙ ap (λ (t : Bool). turn t ((get_or bytes i 0 == stop) && nat_lt 0 i) (get_or bytes i 0) (drop (i + 1) bytes)) fails
      ∙ ap (λ (t : Bool). turn false t (get_or bytes i 0) (drop (i + 1) bytes)) goes)
      ∙ ap (λ (n : ℕ). let x : Result (List ℕ × List ℕ) ℕ = Err n in x) (sym (ap length (at_place bytes i lt)) ∙ length-drop i bytes)

  pub until_none : length bytes ≤ i → so_far ≡ Err 0
  unfolding until_at
  until_none end = ap (λ (t : List ℕ). with_front (take i bytes) (until_at may stop i t)) (drop_all i bytes end)
