-- What the loops over entries and parents keep, and what their ends say.
use Rattle.std.proofs.Common.{◌≡◌, ◌++◌, ◌<◌, ◌==◌, ℕ, List, [], ◌∷◌, length, Option, Some, None, Result, Ok, Err, true, false, arith, refl, ap, sym, ◌∙◌, append_assoc}
use Rattle.std.specs.List.{cons_option}
use Rattle.std.specs.Result.{IsErrAnd, result_err}
use Rattle.std.proofs.lemmas.Bool.{eqb-true}
use Rattle.std.proofs.lemmas.List.{append-nil}
use Rattle.px_base.specs.declared.hash.Hash.{Hash}
use Rattle.object_format.specs.declared.read_fault.ReadFault.{ReadFault}
use Rattle.object_format.specs.declared.read_fault.ReadFault.TheVariants.{Left, Memory}
use Rattle.object_format.specs.Reading.{and_then, Finds}
use Rattle.object_format.specs.TreeReading.{link_at, tree_of}
use Rattle.object_format.proofs.Contents.{links_more, links_stop, tree_of-nil}

-- a list that is not empty has a byte
pub has_byte : (bytes : List ℕ) → false ≡ (length bytes == 0) → 0 < length bytes
has_byte [] e = absurd cc
has_byte (b ∷ bytes) e = omega arith

-- and one that is has none
pub has_none : (bytes : List ℕ) → true ≡ (length bytes == 0) → bytes ≡ []
has_none [] e = refl
has_none (b ∷ bytes) e = absurd (omega (arith, eqb-true (length (b ∷ bytes)) 0 (sym e)))

-- links before those that are read
abbrev pub with_ids : List Hash → Result (List Hash) ℕ → Result (List Hash) ℕ
with_ids front read = and_then read (λ ids. Ok (front ++ ids))

-- a link before others breaks nothing
same_fault : (link : Option Hash) (read : Result (List Hash) ℕ) → result_err (and_then read (λ ids. Ok (cons_option link ids))) ≡ result_err read
same_fault link (Ok ids) = refl
same_fault link (Err left) = refl

pub fault_more : (bytes : List ℕ) (link : Option Hash) (rest : List ℕ) → link_at bytes ≡ Ok (link, rest)
    → result_err (tree_of bytes) ≡ result_err (tree_of rest)
fault_more bytes link rest is = ap (λ (r : Result (List Hash) ℕ). result_err r) (links_more bytes link rest is).0 ∙ same_fault link (tree_of rest)

pub fault_stops : (bytes : List ℕ) (left : ℕ) → 0 < length bytes → link_at bytes ≡ Err left → result_err (tree_of bytes) ≡ Some left
fault_stops bytes left some is = ap (λ (r : Result (List Hash) ℕ). result_err r) (links_stop bytes left some is)

pub fault_none : (bytes : List ℕ) → bytes ≡ [] → result_err (tree_of bytes) ≡ None
fault_none bytes none = ap (λ (t : List ℕ). result_err (tree_of t)) none ∙ ap (λ (r : Result (List Hash) ℕ). result_err r) tree_of-nil

-- a link moves behind the front
move_link : (front : List Hash) (link : Option Hash) (now : List Hash) (read : Result (List Hash) ℕ) → now ≡ front ++ cons_option link []
    → with_ids front (and_then read (λ ids. Ok (cons_option link ids))) ≡ with_ids now read
move_link front None now (Ok ids) is = ap (λ (f : List Hash). let r : Result (List Hash) ℕ = Ok (f ++ ids) in r) (sym (append-nil front) ∙ sym is)
move_link front (Some id) now (Ok ids) is =
    ap (λ (f : List Hash). let r : Result (List Hash) ℕ = Ok f in r) (sym (append_assoc front (id ∷ []) ids)) ∙ ap (λ (f : List Hash). let r : Result (List Hash) ℕ = Ok (f ++ ids) in r) (sym is)
move_link front link now (Err left) is = refl

pub ids_more : (front now : List Hash) (bytes : List ℕ) (link : Option Hash) (rest : List ℕ) (total : Result (List Hash) ℕ)
    → link_at bytes ≡ Ok (link, rest) → now ≡ front ++ cons_option link []
    → with_ids front (tree_of bytes) ≡ total → with_ids now (tree_of rest) ≡ total
ids_more front now bytes link rest total is more so_far =
    sym (move_link front link now (tree_of rest) more) ∙ sym (ap (with_ids front) (links_more bytes link rest is).0) ∙ so_far

pub ids_stop : (front : List Hash) (bytes : List ℕ) (left : ℕ) (total : Result (List Hash) ℕ) → 0 < length bytes → link_at bytes ≡ Err left
    → with_ids front (tree_of bytes) ≡ total → total ≡ Err left
ids_stop front bytes left total some is so_far = sym so_far ∙ ap (with_ids front) (links_stop bytes left some is)

pub ids_end : (front : List Hash) (bytes : List ℕ) (total : Result (List Hash) ℕ) → bytes ≡ [] → with_ids front (tree_of bytes) ≡ total
    → total ≡ Ok front
ids_end front bytes total none so_far =
    sym so_far ∙ ap (λ (t : List ℕ). with_ids front (tree_of t)) none ∙ ap (with_ids front) tree_of-nil ∙ ap (λ (f : List Hash). let r : Result (List Hash) ℕ = Ok f in r) (append-nil front)

-- a fault that is handed on says where it is
pub finds_left : (found : Result (List Hash) ReadFault) (left : ℕ) (read : Result (List Hash) ℕ) → IsErrAnd found (λ e. e ≡ Left left)
    → read ≡ Err left → Finds found read
finds_left (Ok ids) left read is broken = absurd is
finds_left (Err (Left other)) left read is broken = let same : other ≡ left = cc in broken ∙ ap (λ (n : ℕ). let r : Result (List Hash) ℕ = Err n in r) (sym same)
finds_left (Err Memory) left read is broken = tt

-- a fault that was found is that of the reading
pub left_found : (fault : ReadFault) (left : ℕ) (read : Result (List Hash) ℕ) → fault ≡ Left left
    → (let found : Result (List Hash) ReadFault = Err fault in Finds found read) → read ≡ Err left
left_found (Left other) left read is found = let same : other ≡ left = cc in found ∙ ap (λ (n : ℕ). let r : Result (List Hash) ℕ = Err n in r) same
left_found Memory left read is found = absurd cc
