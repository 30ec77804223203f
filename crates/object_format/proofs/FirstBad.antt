-- The two laws of forms: what is read is what is spelled, and a fault is the first bad byte.
use Rattle.std.proofs.Common.{◌≡◌, ◌++◌, ◌+◌, ◌-◌, ◌<◌, ◌≤◌, ℕ, zero, suc, List, [], ◌∷◌, length, take, drop, Some, None, Result, Ok, Err, arith, refl, ap, sym, ◌∙◌, subst, inl, inr}
use Rattle.std.specs.Result.{result_unwrap_or}
use Rattle.std.proofs.lemmas.Bool.{cases_lt}
use Rattle.std.proofs.lemmas.List.{append_assoc, length-append, take-append-drop, take_at}
use Rattle.px_base.specs.declared.hash.Hash.{Hash}
use Rattle.px_base.specs.declared.kind.Kind.{Kind}
use Rattle.object_format.specs.Grammar.{GoesOn, GoesOnInBytes, IsFirstBad, Spells}
use Rattle.object_format.specs.Links.{bad_byte, links_at, links_of, place_of}
use Rattle.object_format.proofs.Contents.{kind_reader}
use Rattle.object_format.proofs.Readers.{Breaks, Some_of}

-- what is spelled is read
pub spelled_is_read : (kind : Kind) (ids : List Hash) (content : List ℕ) → Spells kind ids content
    → (bad_byte kind content ≡ None) × (links_of kind content ≡ ids)
unfolding bad_byte links_of
spelled_is_read kind ids content s =
    let read = (kind_reader kind).whole ids content s in
    (ap (place_of (length content)) read, ap (λ (r : Result (List Hash) ℕ). result_unwrap_or r []) read)

-- and what is read is spelled
pub read_is_spelled : (kind : Kind) (ids : List Hash) (content : List ℕ) → (bad_byte kind content ≡ None) × (links_of kind content ≡ ids)
    → Spells kind ids content
unfolding bad_byte links_of
read_is_spelled kind ids content h = by (links_at kind content) refl h
  where
    by : (r : Result (List Hash) ℕ) → links_at kind content ≡ r → (place_of (length content) r ≡ None) × (result_unwrap_or r [] ≡ ids)
        → Spells kind ids content
    by (Err left) e h = let none = h.0 in absurd cc
    by (Ok read) e h = subst (λ (i : List Hash). Spells kind i content) h.1 ((kind_reader kind).sound content read e)

-- a front of a front goes on where that does
front_goes_on : (kind : Kind) (front more : List ℕ) → GoesOn kind (front ++ more) → GoesOn kind front
front_goes_on kind front more g = (g.0, more ++ g.1, subst (Spells kind g.0) (append_assoc front more g.1) g.2)

-- the first bytes begin with fewer first bytes
fewer_first : (m n : ℕ) (bytes : List ℕ) → m ≤ n → (rest : List ℕ) × (take n bytes ≡ take m bytes ++ rest)
fewer_first zero n bytes le = (take n bytes, refl)
fewer_first (suc m) zero bytes le = absurd (omega arith)
fewer_first (suc m) (suc n) [] le = ([], refl)
fewer_first (suc m) (suc n) (b ∷ bytes) le = let more = fewer_first m n bytes (omega arith) in (more.0, ap (λ (t : List ℕ). b ∷ t) more.1)

-- so there is one first bad byte
first_bad_once : (kind : Kind) (content : List ℕ) (a b : ℕ) → a < b → IsFirstBad kind content a → IsFirstBad kind content b → ⊥
first_bad_once kind content a b lt x y =
    let more = fewer_first (a + 1) b content (omega arith) in
    x.breaks (omega (arith, y.within)) (front_goes_on kind (take (a + 1) content) more.0 (subst (GoesOn kind) more.1 (y.before.ids, y.before.rest, y.before.spelled)))

-- what was refused is bad at the first byte that breaks the form
refused_is_first : (kind : Kind) (content : List ℕ) (left : ℕ) → links_at kind content ≡ Err left → IsFirstBad kind content (length content - left)
refused_is_first kind content left is =
    let b = (kind_reader kind).fault content left is in
    let size = length-append b.front b.back in
    let at : length content - left ≡ length b.front = omega (arith, ap length b.parts, size, b.size) in
    subst (IsFirstBad kind content) (sym at) (first b size)
  where
    no_links : (ids : List Hash) → ¬ (Spells kind ids content)
    no_links ids s = let read = (kind_reader kind).whole ids content s in absurd cc

    goes_no_further : (b : Breaks (Some_of (Spells kind)) (links_at kind) content left) (back : List ℕ) → b.back ≡ back
        → length b.front < length content → ¬ (GoesOn kind (take (length b.front + 1) content))
    goes_no_further b [] e some g = absurd (omega (arith, ap length b.parts, length-append b.front b.back, ap length e))
    goes_no_further b (c ∷ after) e some g =
        let parts : content ≡ (b.front ++ c ∷ []) ++ after = b.parts ∙ ap (λ (t : List ℕ). b.front ++ t) e ∙ sym (append_assoc b.front (c ∷ []) after) in
        let taken : take (length b.front + 1) content ≡ b.front ++ c ∷ [] =
        ap (take (length b.front + 1)) parts ∙ take_at (b.front ++ c ∷ []) after (length b.front + 1) (length-append b.front (c ∷ [])) in
        let spelled : Spells kind g.0 (b.front ++ c ∷ g.1) =
        subst (λ (t : List ℕ). Spells kind g.0 t) (ap (λ (t : List ℕ). t ++ g.1) taken ∙ append_assoc b.front (c ∷ []) g.1) g.2 in
        let read = (kind_reader kind).whole g.0 (b.front ++ c ∷ g.1) spelled in
        let none = b.stops c after g.1 e in
        let refused = none.is in
        absurd cc

    first : (b : Breaks (Some_of (Spells kind)) (links_at kind) content left) → length (b.front ++ b.back) ≡ length b.front + length b.back
        → IsFirstBad kind content (length b.front)
    first b size =
        let taken : take (length b.front) content ≡ b.front = ap (take (length b.front)) b.parts ∙ take_at b.front b.back (length b.front) refl in
        record {
          within = omega (arith, ap length b.parts, size);
          before = subst (GoesOnInBytes kind) (sym taken) (record { ids = b.goes.0; rest = b.more; bytes = b.fits; spelled = b.goes.1 });
          early = λ end. no_links;
          breaks = goes_no_further b b.back refl;
        }

-- what is refused is first bad
pub fault_is_first : (kind : Kind) (content : List ℕ) (at : ℕ) → bad_byte kind content ≡ Some at → IsFirstBad kind content at
unfolding bad_byte
fault_is_first kind content at is = by (links_at kind content) refl is
  where
    by : (r : Result (List Hash) ℕ) → links_at kind content ≡ r → place_of (length content) r ≡ Some at → IsFirstBad kind content at
    by (Ok ids) e is = absurd cc
    by (Err left) e is = let same : length content - left ≡ at = cc in subst (IsFirstBad kind content) same (refused_is_first kind content left e)

-- and what is first bad is refused
pub first_is_fault : (kind : Kind) (content : List ℕ) (at : ℕ) → IsFirstBad kind content at → bad_byte kind content ≡ Some at
unfolding bad_byte
first_is_fault kind content at first = by (links_at kind content) refl
  where
    lawful : (ids : List Hash) → Spells kind ids content → ⊥
    lawful ids s = elim (cases_lt at (length content)) [
      | inl lt ↦ first.breaks lt (ids, drop (at + 1) content, subst (Spells kind ids) (sym (take-append-drop (at + 1) content)) s)
      | inr le ↦ first.early (omega (arith, first.within)) ids s
    ]

    by : (r : Result (List Hash) ℕ) → links_at kind content ≡ r → place_of (length content) r ≡ Some at
    by (Ok ids) e = absurd (lawful ids ((kind_reader kind).sound content ids e))
    by (Err left) e =
        let found = refused_is_first kind content left e in
        let place = length content - left in
        elim (cases_lt place at) [
          | inl lt ↦ absurd (first_bad_once kind content place at lt found first)
          | inr le ↦ elim (cases_lt at place) [
            | inl lt ↦ absurd (first_bad_once kind content at place lt first found)
            | inr ge ↦ let same : place ≡ at = omega arith in ap (λ (n : ℕ). Some n) same
          ]
        ]
