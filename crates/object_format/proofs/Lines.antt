-- The lines of commits and tags are read as they are written.
use Rattle.std.proofs.Common.{◌≡◌, ◌++◌, ◌==◌, ◌⊎◌, ℕ, zero, suc, List, [], ◌∷◌, length, true, Option, Some, Result, Ok, arith, refl, ap, sym, ◌∙◌, subst, inl, inr, nat_lt}
use Rattle.std.specs.Prelude.{codes}
use Rattle.std.specs.List.{AllByRecursion}
use Rattle.std.proofs.lemmas.Bool.{and_parts, eq-eqb, eqb-true}
use Rattle.std.proofs.lemmas.List.{append-nil, append_assoc}
use Rattle.std.proofs.lemmas.List.Elements.{recursion_from_All, All-from_recursion}
use Rattle.px_base.specs.Hash.{hash_of, hash_text, is_hex_digit, IsHash}
use Rattle.px_base.specs.declared.hash.Hash.{Hash}
use Rattle.px_base.specs.declared.kind.Kind.{Kind}
use Rattle.px_base.specs.declared.kind.Kind.TheVariants.{Commit, Tree, Blob, Tag}
use Rattle.px_base.proofs.HexText.{bytes_of, hash_of-hash_text, hash_of-some, text_is_lawful}
use Rattle.object_format.specs.Name.{kind_word}
use Rattle.object_format.specs.Grammar.{are_bytes, header_line, kind_line}
use Rattle.object_format.specs.Reading.{and_then, any_word_at, digits_at, line_at, name_at, named, or_else, tag_at, text_at, word_at}
use Rattle.object_format.proofs.Readers.{as_form, byte_reader, either_reader, IsByte, IsJoined, IsNothing, IsReader, joined_reader, nothing_reader, Refuses}

-- ---- a written-out text

-- the text, whatever it is read as
abbrev pub IsText : List ℕ → Unit {0} → List ℕ → Type 0
IsText text u bytes = bytes ≡ text

pub text_reader : (text : List ℕ) → are_bytes text ≡ true → IsReader (IsText text) (text_at text)
unfolding text_at
text_reader [] fits = as_form (IsNothing tt) (IsText []) (text_at []) (λ u bytes has. has.empty) (λ u bytes has. record { same = refl; empty = has }) (nothing_reader tt)
text_reader (c ∷ text) fits =
    let parts = and_parts (nat_lt c 256) (are_bytes text) fits in
    let test = λ (b : ℕ). b == c in
    as_form (IsJoined (IsByte test) (λ (b : ℕ). IsText text)) (IsText (c ∷ text)) (text_at (c ∷ text))
    (λ u bytes has. let head : has.a ≡ c = eqb-true has.a c has.one.passes in
    has.parts ∙ ap (λ (t : List ℕ). t ++ has.second) has.one.alone ∙ ap (λ (b : ℕ). b ∷ has.second) head ∙ ap (λ (t : List ℕ). c ∷ t) has.two)
    (λ u bytes has. record { a = c; first = c ∷ []; second = text; one = record { passes = eq-eqb c c refl; alone = refl }; two = refl; parts = has })
    (joined_reader (IsByte test) (λ b. IsText text) _ (λ b. text_at text) (byte_reader test c (eq-eqb c c refl) parts.0) (λ b front has. text_reader text parts.1))

-- ---- digits and names

-- so many hexadecimal digits
pub record AreDigits (n : ℕ) (digits text : List ℕ) : Type 0 where
  pub size : length digits ≡ n
  pub each : AllByRecursion (λ c. is_hex_digit c ≡ true) digits
  pub written : text ≡ digits

pub digits_reader : (n : ℕ) → IsReader (AreDigits n) (digits_at n)
unfolding digits_at
digits_reader zero =
    as_form (IsNothing []) (AreDigits 0) (digits_at 0)
    (λ digits text has. record { size = ap length has.same; each = subst (AllByRecursion (λ c. is_hex_digit c ≡ true)) (sym has.same) tt; written = has.empty ∙ sym has.same })
    (λ digits text has. let none : digits ≡ [] = nil digits has.size in record { same = none; empty = has.written ∙ none })
    (nothing_reader [])
  where
    nil : (xs : List ℕ) → length xs ≡ 0 → xs ≡ []
    nil [] e = refl
    nil (x ∷ xs) e = absurd (omega arith)
digits_reader (suc n) =
    let P = λ (c : ℕ). is_hex_digit c ≡ true in
    let Next = λ (b : ℕ). IsJoined (AreDigits n) (λ (rest : List ℕ). IsNothing (b ∷ rest)) in
    as_form (IsJoined (IsByte is_hex_digit) Next) (AreDigits (suc n)) (digits_at (suc n))
    (λ digits text has.
    let digit = has.one in
    let rest = has.two in
    record {
      size = ap length rest.two.same ∙ ap suc rest.one.size;
      each = subst (AllByRecursion P) (sym rest.two.same) (digit.passes, rest.one.each);
      written =
          has.parts ∙ ap (λ (t : List ℕ). t ++ has.second) digit.alone
          ∙ ap (λ (t : List ℕ). has.a ∷ t) (rest.parts ∙ ap (λ (t : List ℕ). rest.first ++ t) rest.two.empty ∙ append-nil rest.first ∙ rest.one.written)
          ∙ sym rest.two.same;
    })
    (back n)
    (joined_reader (IsByte is_hex_digit) Next _ (λ b rest. and_then (digits_at n rest) (λ digits. Ok (b ∷ digits.0, digits.1))) (byte_reader is_hex_digit 48 refl refl)
    (λ b front has. joined_reader (AreDigits n) (λ rest. IsNothing (b ∷ rest)) (digits_at n) (λ rest bytes. Ok (b ∷ rest, bytes)) (digits_reader n) (λ rest text has. nothing_reader (b ∷ rest))))
  where
    back : (n : ℕ) (digits text : List ℕ) → AreDigits (suc n) digits text
        → IsJoined (IsByte is_hex_digit) (λ (b : ℕ). IsJoined (AreDigits n) (λ (rest : List ℕ). IsNothing (b ∷ rest))) digits text
    back n [] text has = absurd (omega (arith, has.size))
    back n (b ∷ digits) text has = record {
      a = b;
      first = b ∷ [];
      second = digits;
      one = record { passes = has.each.0; alone = refl };
      two = record {
        a = digits;
        first = digits;
        second = [];
        one = record { size = omega (arith, has.size); each = has.each.1; written = refl };
        two = record { same = refl; empty = refl };
        parts = sym (append-nil digits);
      };
      parts = has.written;
    }

-- the name of an object, in hexadecimal digits
pub record IsName (id : Hash) (text : List ℕ) : Type 0 where
  pub lawful : IsHash id
  pub written : text ≡ hash_text id

-- 40 digits are those of a name
digits_name : (digits : List ℕ) → length digits ≡ 40 → AllByRecursion (λ c. is_hex_digit c ≡ true) digits → (id : Hash) × (hash_of digits ≡ Some id)
digits_name digits size each =
    let known = bytes_of digits (omega arith) (All-from_recursion (λ c. is_hex_digit c ≡ true) digits each) in
    let id : Hash = record { 0 = known.0 } in
    let lawful : IsHash id = record { size = omega (arith, known.3); bytes = known.2 } in
    (id, ap hash_of (sym known.1) ∙ hash_of-hash_text id lawful)

-- the name that digits were read as
abbrev IsNamed : List ℕ → Hash → List ℕ → Type 0
IsNamed digits id text = (hash_of digits ≡ Some id) × (text ≡ [])

some_same : {A : Type 0} {x y : A} → Some x ≡ Some y → x ≡ y
some_same e = cc

named_reader : (digits : List ℕ) (id : Hash) → hash_of digits ≡ Some id → IsReader (IsNamed digits) (named (hash_of digits))
named_reader digits id is =
    let P : Option Hash → Type 0 = λ o. IsReader (λ (h : Hash) (text : List ℕ). (o ≡ Some h) × (text ≡ [])) (named o) in
    subst P (sym is)
    (as_form (IsNothing id) (λ (h : Hash) (text : List ℕ). (Some id ≡ Some h) × (text ≡ [])) (named (Some id))
    (λ h text has. (ap (λ (x : Hash). Some x) (sym has.same), has.empty))
    (λ h text has. record { same = sym (some_same has.0); empty = has.1 })
    (nothing_reader id))

pub name_reader : IsReader IsName name_at
unfolding name_at
name_reader =
    as_form (IsJoined (AreDigits 40) IsNamed) IsName name_at
    (λ id text has.
    let known = hash_of-some has.a id has.two.0 in
    record {
      lawful = known.0;
      written = has.parts ∙ ap (λ (t : List ℕ). has.first ++ t) has.two.1 ∙ append-nil has.first ∙ has.one.written ∙ sym known.1;
    })
    (λ id text has.
    let lawful = text_is_lawful id has.lawful in
    record {
      a = hash_text id;
      first = hash_text id;
      second = [];
      one = record { size = lawful.size; each = recursion_from_All (λ c. is_hex_digit c ≡ true) (hash_text id) lawful.digits; written = refl };
      two = (hash_of-hash_text id has.lawful, refl);
      parts = has.written ∙ sym (append-nil (hash_text id));
    })
    (joined_reader (AreDigits 40) IsNamed (digits_at 40) (λ digits. named (hash_of digits)) (digits_reader 40)
    (λ digits text has. let known = digits_name digits has.size has.each in named_reader digits known.0 known.1))

-- ---- lines

-- a word and a name on a line
pub record IsLine (word : List ℕ) (id : Hash) (text : List ℕ) : Type 0 where
  pub lawful : IsHash id
  pub written : text ≡ header_line word id

pub line_reader : (word : List ℕ) → are_bytes word ≡ true → IsReader (IsLine word) (line_at word)
unfolding line_at
line_reader word fits =
    let End = λ (id : Hash). IsJoined (IsText (10 ∷ [])) (λ (u : Unit {0}). IsNothing id) in
    let Rest = IsJoined IsName End in
    as_form (IsJoined (IsText word) (λ (u : Unit {0}). Rest)) (IsLine word) (line_at word)
    (λ id text has.
    let name = has.two in
    let end = name.two in
    let same : name.a ≡ id = sym end.two.same in
    record {
      lawful = subst IsHash same name.one.lawful;
      written =
          has.parts ∙ ap (λ (t : List ℕ). t ++ has.second) has.one
          ∙ ap (λ (t : List ℕ). word ++ t) (name.parts ∙ ap (λ (t : List ℕ). t ++ name.second) name.one.written
          ∙ ap (λ (t : List ℕ). hash_text name.a ++ t) (end.parts ∙ ap (λ (t : List ℕ). t ++ end.second) end.one ∙ ap (λ (t : List ℕ). 10 ∷ t) end.two.empty))
          ∙ sym (append_assoc word (hash_text name.a) (10 ∷ [])) ∙ ap (header_line word) same;
    })
    (λ id text has. record {
      a = tt;
      first = word;
      second = hash_text id ++ 10 ∷ [];
      one = refl;
      two = record {
        a = id;
        first = hash_text id;
        second = 10 ∷ [];
        one = record { lawful = has.lawful; written = refl };
        two = record { a = tt; first = 10 ∷ []; second = []; one = refl; two = record { same = refl; empty = refl }; parts = refl };
        parts = refl;
      };
      parts = has.written ∙ append_assoc word (hash_text id) (10 ∷ []);
    })
    (joined_reader (IsText word) (λ u. Rest) (text_at word) (λ u bytes. and_then (name_at bytes) (λ id. and_then (text_at (10 ∷ []) id.1) (λ end. Ok (id.0, end.1)))) (text_reader word fits)
    (λ u text has. joined_reader IsName End name_at (λ id bytes. and_then (text_at (10 ∷ []) bytes) (λ end. Ok (id, end.1))) name_reader
    (λ id text has. joined_reader (IsText (10 ∷ [])) (λ u. IsNothing id) (text_at (10 ∷ [])) (λ u bytes. Ok (id, bytes)) (text_reader (10 ∷ []) refl) (λ u text has. nothing_reader id))))

-- ---- kinds and tags

-- the word of some kind, and a line feed
abbrev pub IsAnyWord : Unit {0} → List ℕ → Type 0
IsAnyWord u text = (kind : Kind) × (text ≡ kind_word kind ++ 10 ∷ [])

abbrev IsWord : Kind → Unit {0} → List ℕ → Type 0
IsWord kind = IsText (kind_word kind ++ 10 ∷ [])

word_reader : (kind : Kind) → IsReader (IsWord kind) (word_at kind)
word_reader kind = text_reader (kind_word kind ++ 10 ∷ []) (fits kind)
  where
    fits : (kind : Kind) → are_bytes (kind_word kind ++ 10 ∷ []) ≡ true
    fits Commit = refl
    fits Tree = refl
    fits Blob = refl
    fits Tag = refl

tree_is_no_commit : (u : Unit {0}) (front rest : List ℕ) → IsWord Tree u front → Refuses (word_at Commit) (front ++ rest)
unfolding text_at
tree_is_no_commit u front rest has = subst (λ (f : List ℕ). Refuses (word_at Commit) (f ++ rest)) (sym has) (record { left = _; is = refl })

tag_is_no_blob : (u : Unit {0}) (front rest : List ℕ) → IsWord Tag u front → Refuses (word_at Blob) (front ++ rest)
unfolding text_at
tag_is_no_blob u front rest has = subst (λ (f : List ℕ). Refuses (word_at Blob) (f ++ rest)) (sym has) (record { left = _; is = refl })

abbrev IsCommitOrTree : Unit {0} → List ℕ → Type 0
IsCommitOrTree u text = IsWord Commit u text ⊎ IsWord Tree u text

abbrev IsBlobOrTag : Unit {0} → List ℕ → Type 0
IsBlobOrTag u text = IsWord Blob u text ⊎ IsWord Tag u text

-- a word that some kind has is read, and a word of a kind is one that some kind has
four_words : (u : Unit {0}) (text : List ℕ) → IsCommitOrTree u text ⊎ IsBlobOrTag u text → IsAnyWord u text
four_words u text (inl (inl has)) = (Commit, has)
four_words u text (inl (inr has)) = (Tree, has)
four_words u text (inr (inl has)) = (Blob, has)
four_words u text (inr (inr has)) = (Tag, has)

some_word : (kind : Kind) (u : Unit {0}) (text : List ℕ) → text ≡ kind_word kind ++ 10 ∷ [] → IsCommitOrTree u text ⊎ IsBlobOrTag u text
some_word Commit u text has = inl (inl has)
some_word Tree u text has = inl (inr has)
some_word Blob u text has = inr (inl has)
some_word Tag u text has = inr (inr has)

-- the two words that are tried first
abbrev first_two : List ℕ → Result (Unit {0} × List ℕ) ℕ
first_two bytes = or_else (word_at Commit bytes) (word_at Tree bytes)

abbrev last_two : List ℕ → Result (Unit {0} × List ℕ) ℕ
last_two bytes = or_else (word_at Blob bytes) (word_at Tag bytes)

last_are_not_first : (u : Unit {0}) (front rest : List ℕ) → IsBlobOrTag u front → Refuses first_two (front ++ rest)
unfolding text_at
last_are_not_first u front rest (inl has) = subst (λ (f : List ℕ). Refuses first_two (f ++ rest)) (sym has) (record { left = _; is = refl })
last_are_not_first u front rest (inr has) = subst (λ (f : List ℕ). Refuses first_two (f ++ rest)) (sym has) (record { left = _; is = refl })

any_word_reader : IsReader IsAnyWord any_word_at
unfolding any_word_at
any_word_reader =
    as_form (λ (u : Unit {0}) (text : List ℕ). IsCommitOrTree u text ⊎ IsBlobOrTag u text) IsAnyWord any_word_at four_words
    (λ u text has. some_word has.0 u text has.1)
    (either_reader IsCommitOrTree IsBlobOrTag first_two last_two
    (either_reader (IsWord Commit) (IsWord Tree) (word_at Commit) (word_at Tree) (word_reader Commit) (word_reader Tree) tree_is_no_commit)
    (either_reader (IsWord Blob) (IsWord Tag) (word_at Blob) (word_at Tag) (word_reader Blob) (word_reader Tag) tag_is_no_blob)
    last_are_not_first)

-- the lines of a tag that are checked
pub record IsTagHead (id : Hash) (text : List ℕ) : Type 0 where
  pub kind : Kind
  pub lawful : IsHash id
  pub written : text ≡ header_line (codes "object ") id ++ kind_line kind

pub tag_reader : IsReader IsTagHead tag_at
unfolding tag_at
tag_reader =
    let End = λ (id : Hash). IsJoined IsAnyWord (λ (u : Unit {0}). IsNothing id) in
    let Rest = λ (id : Hash). IsJoined (IsText (codes "type ")) (λ (u : Unit {0}). End id) in
    as_form (IsJoined (IsLine (codes "object ")) Rest) IsTagHead tag_at
    (λ id text has.
    let kind = has.two.two in
    let same : has.a ≡ id = sym kind.two.same in
    record {
      kind = kind.one.0;
      lawful = subst IsHash same has.one.lawful;
      written =
          has.parts ∙ ap (λ (t : List ℕ). t ++ has.second) has.one.written
          ∙ ap (λ (t : List ℕ). header_line (codes "object ") has.a ++ t) (has.two.parts ∙ ap (λ (t : List ℕ). t ++ has.two.second) has.two.one
          ∙ ap (λ (t : List ℕ). codes "type " ++ t) (kind.parts ∙ ap (λ (t : List ℕ). kind.first ++ t) kind.two.empty ∙ append-nil kind.first ∙ kind.one.1))
          ∙ ap (λ (h : Hash). header_line (codes "object ") h ++ kind_line kind.one.0) same;
    })
    (λ id text has. record {
      a = id;
      first = header_line (codes "object ") id;
      second = kind_line has.kind;
      one = record { lawful = has.lawful; written = refl };
      two = record {
        a = tt;
        first = codes "type ";
        second = kind_word has.kind ++ 10 ∷ [];
        one = refl;
        two = record {
          a = tt;
          first = kind_word has.kind ++ 10 ∷ [];
          second = [];
          one = (has.kind, refl);
          two = record { same = refl; empty = refl };
          parts = sym (append-nil (kind_word has.kind ++ 10 ∷ []));
        };
        parts = refl;
      };
      parts = has.written;
    })
    (joined_reader (IsLine (codes "object ")) Rest (line_at (codes "object "))
    (λ id bytes. and_then (text_at (codes "type ") bytes) (λ start. and_then (any_word_at start.1) (λ end. Ok (id, end.1))))
    (line_reader (codes "object ") refl)
    (λ id text has. joined_reader (IsText (codes "type ")) (λ u. End id) (text_at (codes "type "))
    (λ u bytes. and_then (any_word_at bytes) (λ end. Ok (id, end.1))) (text_reader (codes "type ") refl)
    (λ u text has. joined_reader IsAnyWord (λ u. IsNothing id) any_word_at (λ u bytes. Ok (id, bytes)) any_word_reader (λ u text has. nothing_reader id))))
