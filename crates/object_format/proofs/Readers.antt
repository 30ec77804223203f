-- Readers that take what has a form and no more, and whose fault stands at the first bad byte; and how
-- they are put together.
use Rattle.std.proofs.Common.{◌≡◌, ◌++◌, ◌≤◌, ◌⊎◌, ℕ, List, [], ◌∷◌, length, Bool, true, false, cond, nat_lt, Result, Ok, Err, min, arith, refl, ap, sym, ◌∙◌, subst, inl, inr}
use Rattle.std.proofs.lemmas.List.{append_assoc, length-append}
use Rattle.std.proofs.lemmas.Bool.{and_from, and_parts, cases_lt}
use Rattle.object_format.specs.Grammar.{are_bytes}
use Rattle.object_format.specs.Reading.{and_then, byte_at, or_else}

-- the reader refuses these bytes
pub record Refuses {B : Type 0} (read : List ℕ → Result B ℕ) (bytes : List ℕ) : Type 0 where
  pub left : ℕ
  pub is : read bytes ≡ Err left

-- the bytes break a form, and so many are left from the first bad one on: what stands before it goes on
-- in the form, and what goes on with it is refused
pub record Breaks {B : Type 0} (has_form : List ℕ → Type 0) (read : List ℕ → Result B ℕ) (bytes : List ℕ) (left : ℕ) : Type 0 where
  pub front : List ℕ
  pub back : List ℕ
  pub parts : bytes ≡ front ++ back
  pub size : length back ≡ left
  pub more : List ℕ
  pub fits : are_bytes more ≡ true
  pub goes : has_form (front ++ more)
  pub stops : (b : ℕ) (after other : List ℕ) → back ≡ b ∷ after → Refuses read (front ++ b ∷ other)

-- something has this form
abbrev pub Some_of : {A : Type 0} → (A → List ℕ → Type 0) → List ℕ → Type 0
Some_of {A} form text = (a : A) × form a text

-- the bytes begin with a text of that form
pub record Begins {A : Type 0} (form : A → List ℕ → Type 0) (bytes : List ℕ) (a : A) (rest : List ℕ) : Type 0 where
  pub front : List ℕ
  pub has : form a front
  pub parts : bytes ≡ front ++ rest

-- a reader of texts of a form, of which there is one
pub record IsReader {A : Type 0} (form : A → List ℕ → Type 0) (read : List ℕ → Result (A × List ℕ) ℕ) : Type 0 where
  pub sound : (bytes : List ℕ) (a : A) (rest : List ℕ) → read bytes ≡ Ok (a, rest) → Begins form bytes a rest
  pub whole : (a : A) (front rest : List ℕ) → form a front → read (front ++ rest) ≡ Ok (a, rest)
  pub fault : (bytes : List ℕ) (left : ℕ) → read bytes ≡ Err left → Breaks (Some_of form) read bytes left
  pub value : A
  pub text : List ℕ
  pub fits : are_bytes text ≡ true
  pub has : form value text

-- ---- results

-- what a fault leaves
abbrev pub left_of : {A : Type 0} → Result A ℕ → ℕ
left_of (Ok r) = 0
left_of (Err left) = left

-- two readings that give something are one where the values and the rests are
pub same_read : {A : Type 0} (a b : A) (x y : List ℕ) → (let r : Result (A × List ℕ) ℕ = Ok (a, x) in r) ≡ Ok (b, y) → (a ≡ b) × (x ≡ y)
same_read {A} a b x y e =
    let same : (let r : A × List ℕ = (a, x) in r) ≡ (b, y) = cc in
    (ap (λ (r : A × List ℕ). r.0) same, ap (λ (r : A × List ℕ). r.1) same)

-- ---- bytes

-- a byte alone
pub one_fits : (b : ℕ) → nat_lt b 256 ≡ true → are_bytes (b ∷ []) ≡ true
one_fits b small = and_from (nat_lt b 256) true small refl

-- bytes behind bytes
pub both_fit : (text more : List ℕ) → are_bytes text ≡ true → are_bytes more ≡ true → are_bytes (text ++ more) ≡ true
both_fit [] more fits also = also
both_fit (b ∷ text) more fits also =
    let parts = and_parts (nat_lt b 256) (are_bytes text) fits in and_from (nat_lt b 256) (are_bytes (text ++ more)) parts.0 (both_fit text more parts.1 also)

-- ---- one form for another

pub as_form : {A : Type 0} (form other : A → List ℕ → Type 0) (read : List ℕ → Result (A × List ℕ) ℕ)
    → ((a : A) (text : List ℕ) → form a text → other a text)
    → ((a : A) (text : List ℕ) → other a text → form a text)
    → IsReader form read → IsReader other read
as_form form other read to back reader = record {
  sound = λ bytes a rest is. let b = reader.sound bytes a rest is in record { front = b.front; has = to a b.front b.has; parts = b.parts };
  whole = λ a front rest has. reader.whole a front rest (back a front has);
  fault = λ bytes left is. let b = reader.fault bytes left is in
      record { front = b.front; back = b.back; parts = b.parts; size = b.size; more = b.more; fits = b.fits; goes = (b.goes.0, to b.goes.0 (b.front ++ b.more) b.goes.1); stops = b.stops };
  value = reader.value;
  text = reader.text;
  fits = reader.fits;
  has = to reader.value reader.text reader.has;
}

-- ---- nothing

-- nothing, read as this value
pub record IsNothing {A : Type 0} (value : A) (a : A) (text : List ℕ) : Type 0 where
  pub same : a ≡ value
  pub empty : text ≡ []

pub nothing_reader : {A : Type 0} (value : A) → IsReader (IsNothing value) (λ bytes. Ok (value, bytes))
nothing_reader {A} value = record {
  sound = λ bytes a rest is.
      let same = same_read value a bytes rest is in
      record { front = []; has = record { same = sym same.0; empty = refl }; parts = same.1 };
  whole = λ a front rest has. ap (λ (f : List ℕ). let r : Result (A × List ℕ) ℕ = Ok (value, f ++ rest) in r) has.empty ∙ ap (λ (v : A). let r : Result (A × List ℕ) ℕ = Ok (v, rest) in r) (sym has.same);
  fault = λ bytes left is. absurd cc;
  value = value;
  text = [];
  fits = refl;
  has = record { same = refl; empty = refl };
}

-- ---- one byte

-- one byte that passes a test
pub record IsByte (test : ℕ → Bool) (b : ℕ) (text : List ℕ) : Type 0 where
  pub passes : test b ≡ true
  pub alone : text ≡ b ∷ []

byte_sound : (test : ℕ → Bool) (bytes : List ℕ) (b : ℕ) (rest : List ℕ) → byte_at test bytes ≡ Ok (b, rest) → Begins (IsByte test) bytes b rest
byte_sound test [] b rest is = absurd cc
byte_sound test (c ∷ bytes) b rest is = by (test c) refl is
  where
    by : (t : Bool) → test c ≡ t → (let r : Result (ℕ × List ℕ) ℕ = cond t (Ok (c, bytes)) (Err (length (c ∷ bytes))) in r) ≡ Ok (b, rest)
        → Begins (IsByte test) (c ∷ bytes) b rest
    by false fails is = absurd cc
    by true passes is =
        let same = same_read c b bytes rest is in
        record {
          front = b ∷ [];
          has = record { passes = ap test (sym same.0) ∙ passes; alone = refl };
          parts = ap (λ (d : ℕ). d ∷ bytes) same.0 ∙ ap (λ (t : List ℕ). b ∷ t) same.1;
        }

byte_refuses : (test : ℕ → Bool) (b : ℕ) (rest : List ℕ) → test b ≡ false → Refuses (byte_at test) (b ∷ rest)
byte_refuses test b rest fails = record { left = length (b ∷ rest); is = rw fails refl }

byte_fault : (test : ℕ → Bool) (good : ℕ) → test good ≡ true → nat_lt good 256 ≡ true → (bytes : List ℕ) (left : ℕ) → byte_at test bytes ≡ Err left
    → Breaks (Some_of (IsByte test)) (byte_at test) bytes left
byte_fault test good passes small [] left is = record {
  front = [];
  back = [];
  parts = refl;
  size = ap left_of is;
  more = good ∷ [];
  fits = one_fits good small;
  goes = (good, record { passes = passes; alone = refl });
  stops = λ b after other e. absurd cc;
}
byte_fault test good passes small (c ∷ bytes) left is = by (test c) refl is
  where
    by : (t : Bool) → test c ≡ t → (let r : Result (ℕ × List ℕ) ℕ = cond t (Ok (c, bytes)) (Err (length (c ∷ bytes))) in r) ≡ Err left
        → Breaks (Some_of (IsByte test)) (byte_at test) (c ∷ bytes) left
    by true holds is = absurd cc
    by false fails is = record {
      front = [];
      back = c ∷ bytes;
      parts = refl;
      size = ap left_of is;
      more = good ∷ [];
      fits = one_fits good small;
      goes = (good, record { passes = passes; alone = refl });
      stops = λ b after other e. let head : b ≡ c = cc in byte_refuses test b other (ap test head ∙ fails);
    }

pub byte_reader : (test : ℕ → Bool) (good : ℕ) → test good ≡ true → nat_lt good 256 ≡ true → IsReader (IsByte test) (byte_at test)
byte_reader test good passes small = record {
  sound = byte_sound test;
  whole = λ b front rest has. ap (λ (f : List ℕ). byte_at test (f ++ rest)) has.alone ∙ rw has.passes refl;
  fault = byte_fault test good passes small;
  value = good;
  text = good ∷ [];
  fits = one_fits good small;
  has = record { passes = passes; alone = refl };
}

-- ---- one after the other

-- a text of one form, and behind it one of a form that may know what the first one was
pub record IsJoined {A B : Type 0} (form : A → List ℕ → Type 0) (next : A → B → List ℕ → Type 0) (b : B) (text : List ℕ) : Type 0 where
  pub a : A
  pub first : List ℕ
  pub second : List ℕ
  pub one : form a first
  pub two : next a b second
  pub parts : text ≡ first ++ second

module _ {A B : Type 0} (form : A → List ℕ → Type 0) (next : A → B → List ℕ → Type 0)
    (read : List ℕ → Result (A × List ℕ) ℕ) (more : A → List ℕ → Result (B × List ℕ) ℕ)
    (reader : IsReader form read)
    (readers : (a : A) (text : List ℕ) → form a text → IsReader (next a) (more a)) where
  abbrev joined : List ℕ → Result (B × List ℕ) ℕ
  joined bytes = and_then (read bytes) (λ r. more r.0 r.1)

  joined_sound : (bytes : List ℕ) (b : B) (rest : List ℕ) → joined bytes ≡ Ok (b, rest) → Begins (IsJoined form next) bytes b rest
  joined_sound bytes b rest is = by (read bytes) refl is
    where
      by : (r : Result (A × List ℕ) ℕ) → read bytes ≡ r → and_then r (λ r. more r.0 r.1) ≡ Ok (b, rest) → Begins (IsJoined form next) bytes b rest
      by (Err left) e is = absurd cc
      by (Ok r) e is =
          let one = reader.sound bytes r.0 r.1 e in
          let two = (readers r.0 one.front one.has).sound r.1 b rest is in
          record {
            front = one.front ++ two.front;
            has = record { a = r.0; first = one.front; second = two.front; one = one.has; two = two.has; parts = refl };
            parts = one.parts ∙ ap (λ (t : List ℕ). one.front ++ t) two.parts ∙ sym (append_assoc one.front two.front rest);
          }

  joined_at : (a : A) (first rest : List ℕ) → form a first → joined (first ++ rest) ≡ more a rest
  joined_at a first rest has = ap (λ (r : Result (A × List ℕ) ℕ). and_then r (λ r. more r.0 r.1)) (reader.whole a first rest has)

  joined_whole : (b : B) (front rest : List ℕ) → IsJoined form next b front → joined (front ++ rest) ≡ Ok (b, rest)
  joined_whole b front rest has =
      ap (λ (t : List ℕ). joined (t ++ rest)) has.parts ∙ ap joined (append_assoc has.first has.second rest)
      ∙ joined_at has.a has.first (has.second ++ rest) has.one
      ∙ (readers has.a has.first has.one).whole b has.second rest has.two

  joined_fault : (bytes : List ℕ) (left : ℕ) → joined bytes ≡ Err left → Breaks (Some_of (IsJoined form next)) joined bytes left
  joined_fault bytes left is = by (read bytes) refl is
    where
      by : (r : Result (A × List ℕ) ℕ) → read bytes ≡ r → and_then r (λ r. more r.0 r.1) ≡ Err left
          → Breaks (Some_of (IsJoined form next)) joined bytes left
      by (Err early) e is =
          let one = reader.fault bytes left (e ∙ ap (λ (l : ℕ). let x : Result (A × List ℕ) ℕ = Err l in x) (ap left_of is)) in
          let two = readers one.goes.0 (one.front ++ one.more) one.goes.1 in
          record {
            front = one.front;
            back = one.back;
            parts = one.parts;
            size = one.size;
            more = one.more ++ two.text;
            fits = both_fit one.more two.text one.fits two.fits;
            goes = (
              two.value,
              record {
                a = one.goes.0;
                first = one.front ++ one.more;
                second = two.text;
                one = one.goes.1;
                two = two.has;
                parts = sym (append_assoc one.front one.more two.text);
              },
            );
            stops = λ b after other e. let none = one.stops b after other e in
                record { left = none.left; is = ap (λ (r : Result (A × List ℕ) ℕ). and_then r (λ r. more r.0 r.1)) none.is };
          }
      by (Ok r) e is =
          let one = reader.sound bytes r.0 r.1 e in
          let two = (readers r.0 one.front one.has).fault r.1 left is in
          record {
            front = one.front ++ two.front;
            back = two.back;
            parts = one.parts ∙ ap (λ (t : List ℕ). one.front ++ t) two.parts ∙ sym (append_assoc one.front two.front two.back);
            size = two.size;
            more = two.more;
            fits = two.fits;
            goes = (
              two.goes.0,
              record {
                a = r.0;
                first = one.front;
                second = two.front ++ two.more;
                one = one.has;
                two = two.goes.1;
                parts = append_assoc one.front two.front two.more;
              },
            );
            stops = λ b after other e. let none = two.stops b after other e in
                record {
                  left = none.left;
                  is = ap joined (append_assoc one.front two.front (b ∷ other)) ∙ joined_at r.0 one.front (two.front ++ b ∷ other) one.has ∙ none.is;
                };
          }

  pub joined_reader : IsReader (IsJoined form next) joined
  joined_reader =
      let two = readers reader.value reader.text reader.has in
      record {
        sound = joined_sound;
        whole = joined_whole;
        fault = joined_fault;
        value = two.value;
        text = reader.text ++ two.text;
        fits = both_fit reader.text two.text reader.fits two.fits;
        has = record { a = reader.value; first = reader.text; second = two.text; one = reader.has; two = two.has; parts = refl };
      }

-- ---- one or the other

-- where one cut is not behind another, what goes on from the first goes on from the second
cut_behind : (f g : List ℕ) (b c : ℕ) (x y other : List ℕ) → f ++ b ∷ x ≡ g ++ c ∷ y → length (b ∷ x) ≤ length (c ∷ y)
    → (z : List ℕ) × (f ++ b ∷ other ≡ g ++ c ∷ z)
cut_behind [] [] b c x y other e short = let head : b ≡ c = cc in (other, ap (λ (d : ℕ). d ∷ other) head)
cut_behind (d ∷ f) [] b c x y other e short = let head : d ≡ c = cc in (f ++ b ∷ other, ap (λ (h : ℕ). h ∷ (f ++ b ∷ other)) head)
cut_behind [] (d ∷ g) b c x y other e short = absurd (omega (arith, ap length e, length-append g (c ∷ y)))
cut_behind (d ∷ f) (h ∷ g) b c x y other e short =
    let head : d ≡ h = cc in
    let tail : f ++ b ∷ x ≡ g ++ c ∷ y = cc in
    let more = cut_behind f g b c x y other tail short in
    (more.0, ap (λ (k : ℕ). k ∷ (f ++ b ∷ other)) head ∙ ap (λ (t : List ℕ). h ∷ t) more.1)

-- what breaks one form later breaks another that it broke before
breaks_both : {A : Type 0} (form other : List ℕ → Type 0) (one two : List ℕ → Result A ℕ) (bytes : List ℕ) (left also : ℕ) → left ≤ also
    → (x : Breaks form one bytes left) (y : Breaks other two bytes also) (b : ℕ) (after next : List ℕ) → x.back ≡ b ∷ after
    → Refuses one (x.front ++ b ∷ next) × Refuses two (x.front ++ b ∷ next)
breaks_both form other one two bytes left also le x y b after next is = (x.stops b after next is, by y.back refl)
  where
    by : (back : List ℕ) → y.back ≡ back → Refuses two (x.front ++ b ∷ next)
    by [] e = absurd (omega (arith, x.size, y.size, ap length is, ap length e))
    by (c ∷ behind) e =
        let same : x.front ++ b ∷ after ≡ y.front ++ c ∷ behind =
        sym (ap (λ (t : List ℕ). x.front ++ t) is) ∙ sym x.parts ∙ y.parts ∙ ap (λ (t : List ℕ). y.front ++ t) e in
        let cut = cut_behind x.front y.front b c after behind next same (omega (arith, x.size, y.size, ap length is, ap length e)) in
        subst (Refuses two) (sym cut.1) (y.stops c behind cut.0 e)

module _ {A : Type 0} (form other : A → List ℕ → Type 0) (one two : List ℕ → Result (A × List ℕ) ℕ)
    (first : IsReader form one) (second : IsReader other two)
    (apart : (a : A) (front rest : List ℕ) → other a front → Refuses one (front ++ rest)) where
  -- a text of one of two forms
  abbrev pub IsEither : A → List ℕ → Type 0
  IsEither a text = form a text ⊎ other a text

  abbrev either : List ℕ → Result (A × List ℕ) ℕ
  either bytes = or_else (one bytes) (two bytes)

  either_sound : (bytes : List ℕ) (a : A) (rest : List ℕ) → either bytes ≡ Ok (a, rest) → Begins IsEither bytes a rest
  either_sound bytes a rest is = by (one bytes) (two bytes) refl refl is
    where
      by : (r s : Result (A × List ℕ) ℕ) → one bytes ≡ r → two bytes ≡ s → or_else r s ≡ Ok (a, rest) → Begins IsEither bytes a rest
      by (Ok r) s e d is = let b = first.sound bytes a rest (e ∙ is) in record { front = b.front; has = inl b.has; parts = b.parts }
      by (Err left) (Ok s) e d is = let b = second.sound bytes a rest (d ∙ is) in record { front = b.front; has = inr b.has; parts = b.parts }
      by (Err left) (Err also) e d is = absurd cc

  either_whole : (a : A) (front rest : List ℕ) → IsEither a front → either (front ++ rest) ≡ Ok (a, rest)
  either_whole a front rest (inl has) = ap (λ (r : Result (A × List ℕ) ℕ). or_else r (two (front ++ rest))) (first.whole a front rest has)
  either_whole a front rest (inr has) =
      let none = apart a front rest has in
      ap (λ (r : Result (A × List ℕ) ℕ). or_else r (two (front ++ rest))) none.is
      ∙ ap (λ (r : Result (A × List ℕ) ℕ). or_else (Err none.left) r) (second.whole a front rest has)

  -- what both refuse is refused
  neither : (bytes : List ℕ) → Refuses one bytes × Refuses two bytes → Refuses either bytes
  neither bytes none = record {
    left = min none.0.left none.1.left;
    is = ap (λ (r : Result (A × List ℕ) ℕ). or_else r (two bytes)) none.0.is ∙ ap (λ (r : Result (A × List ℕ) ℕ). or_else (Err none.0.left) r) none.1.is;
  }

  either_fault : (bytes : List ℕ) (left : ℕ) → either bytes ≡ Err left → Breaks (Some_of IsEither) either bytes left
  either_fault bytes left is = by (one bytes) (two bytes) refl refl is
    where
      by : (r s : Result (A × List ℕ) ℕ) → one bytes ≡ r → two bytes ≡ s → or_else r s ≡ Err left → Breaks (Some_of IsEither) either bytes left
      by (Ok r) s e d is = absurd cc
      by (Err here) (Ok s) e d is = absurd cc
      by (Err here) (Err also) e d is =
          let least : min here also ≡ left = ap left_of is in
          let x = first.fault bytes here e in
          let y = second.fault bytes also d in
          elim (cases_lt also here) [
            | inr le ↦ record {
              front = x.front;
              back = x.back;
              parts = x.parts;
              size = omega (arith, x.size);
              more = x.more;
              fits = x.fits;
              goes = (x.goes.0, inl x.goes.1);
              stops = λ b after next e. neither (x.front ++ b ∷ next) (breaks_both (Some_of form) (Some_of other) one two bytes here also le x y b after next e);
            }
            | inl lt ↦ record {
              front = y.front;
              back = y.back;
              parts = y.parts;
              size = omega (arith, y.size);
              more = y.more;
              fits = y.fits;
              goes = (y.goes.0, inr y.goes.1);
              stops = λ b after next e. let none = breaks_both (Some_of other) (Some_of form) two one bytes also here (omega arith) y x b after next e in neither (y.front ++ b ∷ next) (none.1, none.0);
            }
          ]

  pub either_reader : IsReader IsEither either
  either_reader = record {
    sound = either_sound;
    whole = either_whole;
    fault = either_fault;
    value = first.value;
    text = first.text;
    fits = first.fits;
    has = inl first.has;
  }
