-- Maps of references on the way to those of a repository.
use Rattle.std.specs.Prelude.{◌≡◌, ℕ, Bool, true, false, not, List, Some, IsSome, is_some}
use Rattle.std.specs.List.Sorted.{IsStrictlySortedBy}
use Rattle.std.specs.Map.{keys_of}
use Rattle.std.specs.Ordering.{is_gt}
use Rattle.std.specs.declared.cmp.Ordering.TheVariants.{Less}
use Rattle.px_base.specs.Hash.{is_zero}
use Rattle.px_base.specs.RefList.{References, name_cmp, ref_at}
use Rattle.px_base.specs.RefName.{IsRefName}
use Rattle.px_base.specs.declared.hash.Hash.{Hash}

-- the names ascend, and each is one
pub record IsRefMap (refs : References) : Type 0 where
  pub ordered : IsStrictlySortedBy name_cmp (keys_of refs)
  pub named : (name : List ℕ) → IsSome (ref_at refs name) → IsRefName name

-- every name is below the bytes
abbrev pub AllBelow : References → List ℕ → Type 0
AllBelow refs bytes = (name : List ℕ) → IsSome (ref_at refs name) → name_cmp name bytes ≡ Less

-- the name is the least that is not below the bytes
pub record IsLeastFrom (refs : References) (bytes name : List ℕ) : Type 0 where
  pub there : IsSome (ref_at refs name)
  pub named : IsRefName name
  pub behind : is_gt (name_cmp bytes name) ≡ false
  pub least : (other : List ℕ) → IsSome (ref_at refs other) → is_gt (name_cmp bytes other) ≡ false
      → is_gt (name_cmp name other) ≡ false

-- ---- names that pass a test with their objects

-- each that passes is below the bytes
abbrev pub NonePasses : References → (List ℕ → Hash → Bool) → List ℕ → Type 0
NonePasses refs test bytes = (name : List ℕ) (id : Hash) → ref_at refs name ≡ Some id
    → test name id ≡ true → name_cmp name bytes ≡ Less

-- the name is the least that passes and is not below the bytes
pub record IsLeastPassing (refs : References) (test : List ℕ → Hash → Bool) (bytes name : List ℕ)
    : Type 0 where
  pub id : Hash
  pub has : ref_at refs name ≡ Some id
  pub passes : test name id ≡ true
  pub behind : is_gt (name_cmp bytes name) ≡ false
  pub least : (other : List ℕ) (other_id : Hash) → ref_at refs other ≡ Some other_id
      → test other other_id ≡ true → is_gt (name_cmp bytes other) ≡ false
      → is_gt (name_cmp name other) ≡ false

-- the name is none of the others
abbrev pub is_outside : References → List ℕ → Hash → Bool
is_outside others name id = not (is_some (ref_at others name))

-- the object is not the zero name
abbrev pub is_set : List ℕ → Hash → Bool
is_set name id = not (is_zero id)
