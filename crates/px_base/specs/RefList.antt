-- References: names with the objects that they name. Which names are in conflict, and which lists are lawful.
use Rattle.std.specs.Prelude.{◌≡◌, ℕ, ◌≤◌, ◌∷◌, ◌++◌, [], ◌||◌, Bool, false, List, length, nat_eq, Option, Some, IsSome}
use Rattle.std.specs.Cmp.Lexicographic.{slice_cmp}
use Rattle.std.specs.List.{starts_with}
use Rattle.std.specs.List.Sorted.{IsStrictlySortedBy}
use Rattle.std.specs.Map.{keys_of, lookup, values_of}
use Rattle.std.specs.Ordering.{eq_by_cmp, nat_cmp}
use Rattle.std.specs.declared.cmp.Ordering.{Ordering}
use Rattle.px_base.specs.Hash.{is_zero}
use Rattle.px_base.specs.RefName.{IsRefName}
use Rattle.px_base.specs.declared.hash.Hash.{Hash}

-- names with their objects, in the order of the names
abbrev pub References : Type 0
References = List (List ℕ × Hash)

-- the order of names: the first byte that differs decides
abbrev pub name_cmp : List ℕ → List ℕ → Ordering
name_cmp = slice_cmp nat_cmp

-- the two are one name
abbrev pub is_name : List ℕ → List ℕ → Bool
is_name = eq_by_cmp name_cmp

-- the object that the references have under a name
abbrev pub ref_at : References → List ℕ → Option Hash
ref_at refs name = lookup (is_name name) refs

-- the ids that references name, in the order of the names: where what they lead to begins
abbrev pub ids_named_by : References → List Hash
ids_named_by refs = values_of refs

-- the name begins with the other one and a slash; as no name ends with a slash, more follows
abbrev pub is_under : List ℕ → List ℕ → Bool
is_under name other = starts_with nat_eq name (other ++ 47 ∷ [])

-- the two are in conflict: one is the other followed by a slash and more
abbrev pub is_in_conflict : List ℕ → List ℕ → Bool
is_in_conflict name other = is_under name other || is_under other name

-- a repository may have this object under this name
pub record IsReference (name : List ℕ) (id : Hash) : Type 0 where
  pub named : IsRefName name
  pub some : is_zero id ≡ false

-- what a repository may have: the names ascend, so that each stands there once, no two of them are
-- in conflict, none names the zero name, and they are not too many
pub record IsRefList (refs : References) : Type 0 where
  pub ordered : IsStrictlySortedBy name_cmp (keys_of refs)
  pub lawful : (name : List ℕ) (id : Hash) → ref_at refs name ≡ Some id → IsReference name id
  pub apart : (name other : List ℕ) → IsSome (ref_at refs name) → IsSome (ref_at refs other)
      → is_in_conflict name other ≡ false
  pub few : length refs ≤ 32768

-- they are as many as a repository may have
abbrev pub HasMost : References → Type 0
HasMost refs = length refs ≡ 32768
