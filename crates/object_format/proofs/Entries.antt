-- The entries of trees are read as they are written.
use Rattle.std.proofs.Common.{◌≡◌, ◌≢◌, ◌++◌, ◌+◌, ◌-◌, ◌<◌, ◌≤◌, ◌==◌, ◌&&◌, ℕ, zero, suc, List, [], ◌∷◌, length, take, drop, Bool, true, false, not, cond, Result, Ok, Err, arith, refl, ap, sym, ◌∙◌, subst, nat_lt, replicate}
use Rattle.std.specs.List.{AllByRecursion}
use Rattle.std.proofs.lemmas.Bool.{and_from, and_parts, eq-eqb, eqb-true, false_from_ne_true, le-ltb, lt-ltb, ltb-false, ltb-true}
use Rattle.std.proofs.lemmas.List.{append-nil, append_assoc, drop_at, length-append, length-replicate, length-take, take-append-drop, take_at}
use Rattle.px_base.specs.declared.hash.Hash.{Hash}
use Rattle.object_format.specs.Grammar.{are_bytes, Entry, entry_text, is_octal_digit, IsEntry}
use Rattle.object_format.specs.Reading.{and_then}
use Rattle.object_format.specs.TreeReading.{entry_at, file_name_at, id_at, in_file_name, in_mode, mode_at, until_at}
use Rattle.object_format.proofs.Readers.{as_form, Begins, Breaks, IsJoined, IsNothing, IsReader, joined_reader, left_of, nothing_reader, same_read, Some_of}

-- a byte before a value
abbrev before : ℕ → Result (List ℕ × List ℕ) ℕ → Result (List ℕ × List ℕ) ℕ
before b read = and_then read (λ r. Ok (b ∷ r.0, r.1))

-- ---- bytes that may stand in their places, up to one that ends them

module _ (may : ℕ → ℕ → Bool) (stop : ℕ) where
  -- each may stand in its place, from place k on
  abbrev pub Stands : ℕ → List ℕ → Type 0
  Stands k [] = Unit {0}
  Stands k (b ∷ bytes) = (may k b ≡ true) × Stands (k + 1) bytes

  -- a value that ends behind the first place, and the byte that ends it
  pub record IsUntil (k : ℕ) (value text : List ℕ) : Type 0 where
    pub stands : Stands k value
    pub some : 0 < k + length value
    pub written : text ≡ value ++ stop ∷ []

  -- what the reader does with the byte at place k
  abbrev at_byte : Bool → Bool → ℕ → ℕ → List ℕ → Result (List ℕ × List ℕ) ℕ
  at_byte goes_on ends k b bytes =
      cond goes_on (before b (until_at may stop (k + 1) bytes)) (cond ends (Ok ([], bytes)) (Err (length (b ∷ bytes))))

  abbrev ends_at : ℕ → ℕ → Bool
  ends_at k b = (b == stop) && nat_lt 0 k

  -- what is read of these bytes has the form
  abbrev Sound : ℕ → List ℕ → Type 0
  Sound k bytes = (value rest : List ℕ) → until_at may stop k bytes ≡ Ok (value, rest) → Begins (IsUntil k) bytes value rest

  -- what is refused of these bytes breaks the form
  abbrev Faulty : ℕ → List ℕ → Type 0
  Faulty k bytes = (left : ℕ) → until_at may stop k bytes ≡ Err left → Breaks (Some_of (IsUntil k)) (until_at may stop k) bytes left

  until_sound : (k : ℕ) (bytes : List ℕ) → Sound k bytes
  unfolding until_at
  until_sound k [] value rest is = absurd cc
  until_sound k (b ∷ bytes) value rest is = by (may k b) (ends_at k b) refl refl (until_sound (k + 1) bytes) is
    where
      more : (r : Result (List ℕ × List ℕ) ℕ) → until_at may stop (k + 1) bytes ≡ r → may k b ≡ true → Sound (k + 1) bytes
          → before b r ≡ Ok (value, rest) → Begins (IsUntil k) (b ∷ bytes) value rest
      more (Err left) e passes known is = absurd cc
      more (Ok r) e passes known is =
          let same = same_read (b ∷ r.0) value r.1 rest is in
          let behind = known r.0 r.1 e in
          record {
            front = b ∷ behind.front;
            has = subst (λ (v : List ℕ). IsUntil k v (b ∷ behind.front)) same.0 (record {
              stands = (passes, behind.has.stands);
              some = omega arith;
              written = ap (λ (t : List ℕ). b ∷ t) behind.has.written;
            });
            parts = ap (λ (t : List ℕ). b ∷ t) (behind.parts ∙ ap (λ (t : List ℕ). behind.front ++ t) same.1);
          }

      by : (t e : Bool) → may k b ≡ t → ends_at k b ≡ e → Sound (k + 1) bytes → at_byte t e k b bytes ≡ Ok (value, rest)
          → Begins (IsUntil k) (b ∷ bytes) value rest
      by true e passes ends known is = more (until_at may stop (k + 1) bytes) refl passes known is
      by false false fails goes known is = absurd cc
      by false true fails ends known is =
          let same = same_read [] value bytes rest is in
          let parts = and_parts (b == stop) (nat_lt 0 k) ends in
          record {
            front = stop ∷ [];
            has = subst (λ (v : List ℕ). IsUntil k v (stop ∷ [])) same.0 (record { stands = tt; some = omega (arith, ltb-true 0 k parts.1); written = refl });
            parts = ap (λ (c : ℕ). c ∷ bytes) (eqb-true b stop parts.0) ∙ ap (λ (t : List ℕ). stop ∷ t) same.1;
          }

  until_whole : ((k : ℕ) → may k stop ≡ false) → (k : ℕ) (value rest : List ℕ) → Stands k value → 0 < k + length value
      → until_at may stop k (value ++ stop ∷ rest) ≡ Ok (value, rest)
  unfolding until_at
  until_whole ends k [] rest stands some =
      let here : ends_at k stop ≡ true = and_from (stop == stop) (nat_lt 0 k) (eq-eqb stop stop refl) (lt-ltb 0 k (omega arith)) in
      rw (ends k, here) refl
  until_whole ends k (b ∷ value) rest stands some =
      ap (λ (t : Bool). at_byte t (ends_at k b) k b (value ++ stop ∷ rest)) stands.0
      ∙ ap (before b) (until_whole ends (k + 1) value rest stands.1 (omega arith))

  -- what ends a value from place k on: nothing, or one byte where it would be empty
  ending : (good : ℕ) → may 0 good ≡ true → are_bytes (good ∷ stop ∷ []) ≡ true → (k : ℕ)
      → (value : List ℕ) × Stands k value × (0 < k + length value) × (are_bytes (value ++ stop ∷ []) ≡ true)
  ending good passes fits zero = (good ∷ [], (passes, tt), omega arith, fits)
  ending good passes fits (suc k) = ([], tt, omega arith, (and_parts (nat_lt good 256) (are_bytes (stop ∷ [])) fits).1)

  until_fault : (good : ℕ) → may 0 good ≡ true → are_bytes (good ∷ stop ∷ []) ≡ true → (k : ℕ) (bytes : List ℕ) → Faulty k bytes
  unfolding until_at
  until_fault good passes fits k [] left is =
      let end = ending good passes fits k in
      record {
        front = [];
        back = [];
        parts = refl;
        size = ap left_of is;
        more = end.0 ++ stop ∷ [];
        fits = end.3;
        goes = (end.0, record { stands = end.1; some = end.2; written = refl });
        stops = λ b after other e. absurd cc;
      }
  until_fault good passes fits k (b ∷ bytes) left is = by (may k b) (ends_at k b) refl refl (until_fault good passes fits (k + 1) bytes) is
    where
      more : (r : Result (List ℕ × List ℕ) ℕ) → until_at may stop (k + 1) bytes ≡ r → may k b ≡ true → Faulty (k + 1) bytes
          → before b r ≡ Err left → Breaks (Some_of (IsUntil k)) (until_at may stop k) (b ∷ bytes) left
      more (Ok r) e holds known is = absurd cc
      more (Err early) e holds known is =
          let behind = known early e in
          record {
            front = b ∷ behind.front;
            back = behind.back;
            parts = ap (λ (t : List ℕ). b ∷ t) behind.parts;
            size = behind.size ∙ ap left_of is;
            more = behind.more;
            fits = behind.fits;
            goes = (
              b ∷ behind.goes.0,
              record {
                stands = (holds, behind.goes.1.stands);
                some = omega arith;
                written = ap (λ (t : List ℕ). b ∷ t) behind.goes.1.written;
              },
            );
            stops = λ c after other e. let none = behind.stops c after other e in
                record {
                  left = none.left;
                  is = ap (λ (t : Bool). at_byte t (ends_at k b) k b (behind.front ++ c ∷ other)) holds
                      ∙ ap (before b) none.is;
                };
          }

      by : (t e : Bool) → may k b ≡ t → ends_at k b ≡ e → Faulty (k + 1) bytes → at_byte t e k b bytes ≡ Err left
          → Breaks (Some_of (IsUntil k)) (until_at may stop k) (b ∷ bytes) left
      by true e holds ends known is = more (until_at may stop (k + 1) bytes) refl holds known is
      by false true fails ends known is = absurd cc
      by false false fails goes known is =
          let end = ending good passes fits k in
          record {
            front = [];
            back = b ∷ bytes;
            parts = refl;
            size = ap left_of is;
            more = end.0 ++ stop ∷ [];
            fits = end.3;
            goes = (end.0, record { stands = end.1; some = end.2; written = refl });
            stops = λ c after other e.
                let same : c ≡ b = cc in
                record {
                  left = length (c ∷ other);
                  is = ap (λ (t : Bool). at_byte t (ends_at k c) k c other) (ap (may k) same ∙ fails)
                      ∙ ap (λ (t : Bool). at_byte false t k c other) (ap (ends_at k) same ∙ goes);
                };
          }

  pub until_reader : ((k : ℕ) → may k stop ≡ false) → (good : ℕ) → may 0 good ≡ true → are_bytes (good ∷ stop ∷ []) ≡ true → IsReader (IsUntil 0) (until_at may stop 0)
  until_reader ends good passes fits = record {
    sound = until_sound 0;
    whole = λ value front rest has. ap (λ (t : List ℕ). until_at may stop 0 (t ++ rest)) has.written
        ∙ ap (until_at may stop 0) (append_assoc value (stop ∷ []) rest) ∙ until_whole ends 0 value rest has.stands has.some;
    fault = until_fault good passes fits 0;
    value = good ∷ [];
    text = good ∷ stop ∷ [];
    fits = fits;
    has = record { stands = (passes, tt); some = omega arith; written = refl };
  }

-- ---- modes, file names and names

-- one to six octal digits and a space
pub record IsMode (mode text : List ℕ) : Type 0 where
  pub some : 1 ≤ length mode
  pub short : length mode ≤ 6
  pub octal : AllByRecursion (λ c. is_octal_digit c ≡ true) mode
  pub written : text ≡ mode ++ 32 ∷ []

-- digits that stand from place k on are octal, and end by place 6
octal_stands : (k : ℕ) (mode : List ℕ) → Stands in_mode 32 k mode → AllByRecursion (λ c. is_octal_digit c ≡ true) mode × (k ≤ 6 → k + length mode ≤ 6)
octal_stands k [] stands = (tt, λ few. omega arith)
octal_stands k (b ∷ mode) stands =
    let parts = and_parts (nat_lt k 6) (is_octal_digit b) stands.0 in
    let here : k < 6 = ltb-true k 6 parts.0 in
    let more = octal_stands (k + 1) mode stands.1 in
    let short : k + 1 + length mode ≤ 6 = more.1 (omega arith) in
    ((parts.1, more.0), λ few. omega arith)

stands_octal : (k : ℕ) (mode : List ℕ) → AllByRecursion (λ c. is_octal_digit c ≡ true) mode → k + length mode ≤ 6 → Stands in_mode 32 k mode
stands_octal k [] octal short = tt
stands_octal k (b ∷ mode) octal short =
    (and_from (nat_lt k 6) (is_octal_digit b) (lt-ltb k 6 (omega arith)) octal.0, stands_octal (k + 1) mode octal.1 (omega arith))

no_space : (k : ℕ) → in_mode k 32 ≡ false
no_space k = false_from_ne_true (in_mode k 32) (λ t. let octal = (and_parts (nat_lt k 6) (is_octal_digit 32) t).1 in absurd (cc))

mode_reader : IsReader IsMode mode_at
mode_reader =
    as_form (IsUntil in_mode 32 0) IsMode mode_at
    (λ mode text has. let known = octal_stands 0 mode has.stands in let short : 0 + length mode ≤ 6 = known.1 (omega arith) in
    record { some = omega (arith, has.some); short = omega arith; octal = known.0; written = has.written })
    (λ mode text has. record { stands = stands_octal 0 mode has.octal (omega (arith, has.short)); some = omega (arith, has.some); written = has.written })
    (until_reader in_mode 32 no_space 48 refl refl)

-- a name of at least one byte and no NUL, and a NUL
pub record IsFileName (name text : List ℕ) : Type 0 where
  pub some : 1 ≤ length name
  pub no_nul : AllByRecursion (λ b. b ≢ 0) name
  pub written : text ≡ name ++ 0 ∷ []

no_nul_stands : (k : ℕ) (name : List ℕ) → Stands in_file_name 0 k name → AllByRecursion (λ b. b ≢ 0) name
no_nul_stands k [] stands = tt
no_nul_stands k (b ∷ name) stands =
    (λ nul. let is : (b == 0) ≡ true = eq-eqb b 0 nul in let goes : not (b == 0) ≡ false = ap not is in let t = stands.0 in absurd (cc), no_nul_stands (k + 1) name stands.1)

stands_no_nul : (k : ℕ) (name : List ℕ) → AllByRecursion (λ b. b ≢ 0) name → Stands in_file_name 0 k name
stands_no_nul k [] no_nul = tt
stands_no_nul k (b ∷ name) no_nul =
    (ap not (false_from_ne_true (b == 0) (λ same. no_nul.0 (eqb-true b 0 same))), stands_no_nul (k + 1) name no_nul.1)

file_name_reader : IsReader IsFileName file_name_at
file_name_reader =
    as_form (IsUntil in_file_name 0 0) IsFileName file_name_at
    (λ name text has. record { some = omega (arith, has.some); no_nul = no_nul_stands 0 name has.stands; written = has.written })
    (λ name text has. record { stands = stands_no_nul 0 name has.no_nul; some = omega (arith, has.some); written = has.written })
    (until_reader in_file_name 0 (λ k. refl) 97 refl refl)

-- the 20 bytes of a name
pub record IsId (id : Hash) (text : List ℕ) : Type 0 where
  pub size : length id.0 ≡ 20
  pub written : text ≡ id.0

-- what the reader of a name does, by whether there are too few bytes
abbrev id_by : Bool → List ℕ → Result (Hash × List ℕ) ℕ
id_by few bytes = cond few (Err 0) (Ok (record { 0 = take 20 bytes }, drop 20 bytes))

id_sound : (bytes : List ℕ) (id : Hash) (rest : List ℕ) → id_at bytes ≡ Ok (id, rest) → Begins IsId bytes id rest
unfolding id_at
id_sound bytes id rest is = by (nat_lt (length bytes) 20) refl is
  where
    by : (few : Bool) → nat_lt (length bytes) 20 ≡ few → id_by few bytes ≡ Ok (id, rest) → Begins IsId bytes id rest
    by true few is = absurd cc
    by false enough is =
        let read : Hash = record { 0 = take 20 bytes } in
        let same = same_read read id (drop 20 bytes) rest is in
        record {
          front = id.0;
          has = record { size = ap (λ (h : Hash). length h.0) (sym same.0) ∙ omega (arith, length-take 20 bytes, ltb-false (length bytes) 20 enough); written = refl };
          parts = sym (take-append-drop 20 bytes) ∙ ap (λ (t : List ℕ). take 20 bytes ++ t) same.1 ∙ ap (λ (h : Hash). h.0 ++ rest) same.0;
        }

id_whole : (id : Hash) (rest : List ℕ) → length id.0 ≡ 20 → id_at (id.0 ++ rest) ≡ Ok (id, rest)
unfolding id_at
id_whole id rest size =
    let enough : nat_lt (length (id.0 ++ rest)) 20 ≡ false = le-ltb _ _ (omega (arith, length-append id.0 rest)) in
    rw (enough, take_at id.0 rest 20 size, drop_at id.0 rest 20 size) refl

-- zeros are bytes
zeros_fit : (n : ℕ) → are_bytes (replicate n 0) ≡ true
zeros_fit zero = refl
zeros_fit (suc n) = and_from (nat_lt 0 256) (are_bytes (replicate n 0)) refl (zeros_fit n)

id_fault : (bytes : List ℕ) (left : ℕ) → id_at bytes ≡ Err left → Breaks (Some_of IsId) id_at bytes left
unfolding id_at
id_fault bytes left is = by (nat_lt (length bytes) 20) refl is
  where
    by : (few : Bool) → nat_lt (length bytes) 20 ≡ few → id_by few bytes ≡ Err left → Breaks (Some_of IsId) id_at bytes left
    by false enough is = absurd cc
    by true few is =
        let short = ltb-true (length bytes) 20 few in
        let more : List ℕ = replicate (20 - length bytes) 0 in
        record {
          front = bytes;
          back = [];
          parts = sym (append-nil bytes);
          size = ap left_of is;
          more = more;
          fits = zeros_fit (20 - length bytes);
          goes = (record { 0 = bytes ++ more }, record { size = omega (arith, length-append bytes more, length-replicate {A = ℕ} (20 - length bytes) 0); written = refl });
          stops = λ b after other e. absurd cc;
        }

id_reader : IsReader IsId id_at
id_reader = record {
  sound = id_sound;
  whole = λ id front rest has. ap (λ (t : List ℕ). id_at (t ++ rest)) has.written ∙ id_whole id rest has.size;
  fault = id_fault;
  value = record { 0 = replicate 20 0 };
  text = replicate 20 0;
  fits = refl;
  has = record { size = refl; written = refl };
}

-- ---- entries

-- an entry, as it is written
pub record IsEntryText (entry : Entry) (text : List ℕ) : Type 0 where
  pub lawful : IsEntry entry
  pub written : text ≡ entry_text entry

-- an entry of these parts
abbrev made : List ℕ → List ℕ → Hash → Entry
made mode name id = record { mode = mode; name = name; id = id }

-- an entry of which the mode and the file name are read
abbrev IdBehind : List ℕ → List ℕ → Entry → List ℕ → Type 0
IdBehind mode name = IsJoined IsId (λ (id : Hash). IsNothing (made mode name id))

-- an entry of which the mode is read
abbrev NameBehind : List ℕ → Entry → List ℕ → Type 0
NameBehind mode = IsJoined IsFileName (IdBehind mode)

-- what reads the rest of it
abbrev read_id : List ℕ → List ℕ → List ℕ → Result (Entry × List ℕ) ℕ
read_id mode name bytes = and_then (id_at bytes) (λ id. Ok (made mode name id.0, id.1))

abbrev read_name : List ℕ → List ℕ → Result (Entry × List ℕ) ℕ
read_name mode bytes = and_then (file_name_at bytes) (λ name. read_id mode name.0 name.1)

entry_reads : (entry : Entry) (text : List ℕ) → IsJoined IsMode NameBehind entry text → IsEntryText entry text
entry_reads entry text has =
    let name = has.two in
    let id = name.two in
    let mode = has.one in
    subst (λ (e : Entry). IsEntryText e text) (sym id.two.same) (record {
      lawful = record { some_mode = mode.some; short_mode = mode.short; octal = mode.octal; some_name = name.one.some; no_nul = name.one.no_nul; size = id.one.size };
      written =
          has.parts ∙ ap (λ (t : List ℕ). t ++ has.second) mode.written ∙ append_assoc has.a (32 ∷ []) has.second
          ∙ ap (λ (t : List ℕ). has.a ++ 32 ∷ t) (name.parts ∙ ap (λ (t : List ℕ). t ++ name.second) name.one.written ∙ append_assoc name.a (0 ∷ []) name.second
          ∙ ap (λ (t : List ℕ). name.a ++ 0 ∷ t) (id.parts ∙ ap (λ (t : List ℕ). id.first ++ t) id.two.empty ∙ append-nil id.first ∙ id.one.written))
          ∙ sym (append_assoc has.a (32 ∷ name.a) (0 ∷ id.a.0));
    })

entry_writes : (entry : Entry) (text : List ℕ) → IsEntryText entry text → IsJoined IsMode NameBehind entry text
entry_writes entry text has =
    let e = has.lawful in
    record {
      a = entry.mode;
      first = entry.mode ++ 32 ∷ [];
      second = entry.name ++ 0 ∷ entry.id.0;
      one = record { some = e.some_mode; short = e.short_mode; octal = e.octal; written = refl };
      two = record {
        a = entry.name;
        first = entry.name ++ 0 ∷ [];
        second = entry.id.0;
        one = record { some = e.some_name; no_nul = e.no_nul; written = refl };
        two = record {
          a = entry.id;
          first = entry.id.0;
          second = [];
          one = record { size = e.size; written = refl };
          two = record { same = refl; empty = refl };
          parts = sym (append-nil entry.id.0);
        };
        parts = sym (append_assoc entry.name (0 ∷ []) entry.id.0);
      };
      parts = has.written ∙ append_assoc entry.mode (32 ∷ entry.name) (0 ∷ entry.id.0) ∙ sym (append_assoc entry.mode (32 ∷ []) (entry.name ++ 0 ∷ entry.id.0));
    }

pub entry_reader : IsReader IsEntryText entry_at
unfolding entry_at
entry_reader =
    as_form (IsJoined IsMode NameBehind) IsEntryText entry_at entry_reads entry_writes
    (joined_reader IsMode NameBehind mode_at read_name mode_reader
    (λ mode text has. joined_reader IsFileName (IdBehind mode) file_name_at (read_id mode) file_name_reader
    (λ name text has. joined_reader IsId (λ (id : Hash). IsNothing (made mode name id)) id_at (λ id bytes. Ok (made mode name id, bytes)) id_reader
    (λ id text has. nothing_reader (made mode name id)))))
