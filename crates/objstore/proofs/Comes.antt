-- Which objects may come to a store: those that have their form, and whose name is free or theirs.
use Rattle.std.proofs.Common.{◌≡◌, ◌≢◌, ◌+◌, Bor, ◌&&◌, ◌⊎◌, ℕ, List, ◌∷◌, Bool, true, false, cond, Option, Some, None, refl, ap, ◌∙◌, inl, inr, ⊎_elim}
use Rattle.std.specs.Option.{is_some, option_copied, option_map, option_or}
use Rattle.std.proofs.lemmas.Bool.{cond-true, false_from_ne_true}
use Rattle.std.proofs.lemmas.Slice.Eq.{bytes_eq-Decides}
use Rattle.std.specs.Str.{bytes_eq}
use Rattle.px_base.specs.Object.{GitObject}
use Rattle.px_base.specs.declared.kind.Kind.{Kind}
use Rattle.px_base.specs.declared.kind.Kind.TheVariants.{Commit, Tree, Blob, Tag}
use Rattle.object_format.specs.Links.{bad_byte}
use Rattle.objstore.specs.Bundle.{bundle_fault, collision, form_fault, object_fault, same_kind, same_object, with_object}
use Rattle.objstore.specs.Entries.{Entries, object_at, own_name}
use Rattle.objstore.specs.declared.bundles.BundleFault.{BundleFault}
use Rattle.objstore.specs.declared.bundles.BundleFault.TheVariants.{BadObject, Collision}

-- ---- when two objects are one

-- kinds that pass the test are one
one_kind : (a b : Kind) → same_kind a b ≡ true → a ≡ b
one_kind Commit Commit e = refl
one_kind Tree Tree e = refl
one_kind Blob Blob e = refl
one_kind Tag Tag e = refl
one_kind _ _ e = absurd (cc)

-- and a kind is the same as itself
its_kind : (a : Kind) → same_kind a a ≡ true
its_kind Commit = refl
its_kind Tree = refl
its_kind Blob = refl
its_kind Tag = refl

-- objects that pass the test are one
one_object : (a b : GitObject) → same_object a b ≡ true → a ≡ b
one_object a b same = at (same_kind a.kind b.kind) refl same
  where
    at : (k : Bool) → same_kind a.kind b.kind ≡ k → (k && bytes_eq a.content b.content) ≡ true
        → a ≡ b
    at true kind content =
        let k : a.kind ≡ b.kind = one_kind a.kind b.kind kind in
        let t : a.content ≡ b.content = (bytes_eq-Decides a.content b.content).0 content in
        λ i. record { kind = k i; content = t i }
    at false kind content = absurd (cc)

-- an object is the same as itself
its_object : (a : GitObject) → same_object a a ≡ true
its_object a =
    rw (its_kind a.kind) ((bytes_eq-Decides a.content a.content).1 refl)

-- ---- whether an object may come

-- its name is free, or the object has it already
abbrev pub Comes : Entries → GitObject → Type 0
Comes store object =
    (object_at store (own_name object) ≡ None) ⊎ (object_at store (own_name object) ≡ Some object)

-- where there is no fault of two, there is no first
none_first : (a b : Option BundleFault) → option_or a b ≡ None → a ≡ None
none_first None b is = refl
none_first (Some e) b is = absurd (cc)

-- nor a second
none_second : (a b : Option BundleFault) → option_or a b ≡ None → b ≡ None
none_second None b is = is
none_second (Some e) b is = absurd (cc)

-- where a list has no fault, the first object has none
pub no_first_fault : (store : Entries) (index : ℕ) (object : GitObject) (objects : List GitObject)
    → bundle_fault store index (object ∷ objects) ≡ None → object_fault store index object ≡ None
no_first_fault store index object objects none =
    none_first (object_fault store index object) _ none

-- nor have the later ones
pub no_later_fault : (store : Entries) (index : ℕ) (object : GitObject) (objects : List GitObject)
    → bundle_fault store index (object ∷ objects) ≡ None
    → bundle_fault (with_object store object) (index + 1) objects ≡ None
no_later_fault store index object objects none =
    none_second (object_fault store index object) _ none

-- where there is no fault, it has its form
pub form_from_no_fault : (store : Entries) (index : ℕ) (object : GitObject)
    → object_fault store index object ≡ None → bad_byte object.kind object.content ≡ None
form_from_no_fault store index object none =
    at (bad_byte object.kind object.content) (none_first (form_fault index object) _ none)
  where
    at : (bad : Option ℕ) → option_map (λ n. BadObject index n) bad ≡ None → bad ≡ None
    at None is = refl
    at (Some n) is = absurd (cc)

-- and it comes
pub Comes-from_no_fault : (store : Entries) (index : ℕ) (object : GitObject)
    → object_fault store index object ≡ None → Comes store object
Comes-from_no_fault store index object none =
    at (object_at store (own_name object)) (none_second (form_fault index object) _ none)
  where
    same : (other : GitObject) (b : Bool) → same_object other object ≡ b
        → cond b None (Some (Collision (own_name object))) ≡ None → Some other ≡ Some object
    same other true is none = ap (λ (o : GitObject). Some o) (one_object other object is)
    same other false is none = absurd (cc)

    at : (found : Option GitObject) → collision found object ≡ None
        → (found ≡ None) ⊎ (found ≡ Some object)
    at None is = inl refl
    at (Some other) is = inr (same other (same_object other object) refl is)

-- where it has its form and comes, there is no fault
pub object_fault-none : (store : Entries) (index : ℕ) (object : GitObject)
    → bad_byte object.kind object.content ≡ None → Comes store object
    → object_fault store index object ≡ None
object_fault-none store index object form comes =
    rw form (⊎_elim
    (λ absent. ap (λ (found : Option GitObject). collision found object) absent)
    (λ present. ap (λ (found : Option GitObject). collision found object) present
    ∙ cond-true (same_object object object) None _ (its_object object))
    comes)

-- where another one has its name, that is the fault
pub object_fault-collision : (store : Entries) (index : ℕ) (object other : GitObject)
    → bad_byte object.kind object.content ≡ None → object_at store (own_name object) ≡ Some other
    → other ≢ object → object_fault store index object ≡ Some (Collision (own_name object))
object_fault-collision store index object other form found differs =
    let apart : same_object other object ≡ false =
    false_from_ne_true _ (λ same. differs (one_object other object same)) in
    rw (form, found, apart) refl

-- where the id of an object that comes has something, it has the object
pub present_where_some : (store : Entries) (object : GitObject) → Comes store object
    → is_some (object_at store (own_name object)) ≡ true
    → object_at store (own_name object) ≡ Some object
present_where_some store object comes some =
    ⊎_elim (λ absent. absurd (let none = ap is_some absent in cc)) (λ present. present) comes

-- what was found is something, or nothing
pub is_some-copied : (found : Option (Bor GitObject))
    → is_some (option_copied found) ≡ is_some found
is_some-copied None = refl
is_some-copied (Some object) = refl

pub none_where_not_some : (found : Option GitObject) → is_some found ≡ false → found ≡ None
none_where_not_some None is = refl
none_where_not_some (Some object) is = absurd (cc)
