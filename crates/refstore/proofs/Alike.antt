-- Two maps that have the same under each name are one.
use Rattle.std.proofs.Common.{◌≡◌, ℕ, List, [], ◌∷◌, true, false, Bool, cond, Option, Some, None, refl, sym, ap, ◌∙◌, ◌⊎◌, ⊎_elim, inl, inr}
use Rattle.std.specs.List.Sorted.{IsStrictlySortedBy}
use Rattle.std.specs.Map.{keys_of}
use Rattle.std.specs.Option.{is_some}
use Rattle.std.specs.Ordering.{ordering_reverse}
use Rattle.std.specs.declared.cmp.Ordering.{Ordering}
use Rattle.std.specs.declared.cmp.Ordering.TheVariants.{Less, Equal, Greater}
use Rattle.std.proofs.lemmas.Bool.{cases_Bool}
use Rattle.px_base.specs.RefList.{References, is_name, name_cmp, ref_at}
use Rattle.px_base.specs.declared.hash.Hash.{Hash}
use Rattle.refstore.proofs.After.{Ascends}
use Rattle.refstore.proofs.Least.{all_among, among_from_there}
use Rattle.refstore.proofs.Names.{names_laws, names_total, one_name}

-- a name below all others is not there
not_there : (o : Option Hash) → (is_some o ≡ true → ⊥) → o ≡ None
not_there None absent = refl
not_there (Some id) absent = absurd (absent refl)

not_less : (o : Ordering) → o ≡ Less → o ≡ ordering_reverse o → ⊥
not_less Less is turned = absurd (cc)
not_less Equal is turned = absurd (cc)
not_less Greater is turned = absurd (cc)

-- the first name is not behind itself
not_behind : (ref : List ℕ × Hash) (refs : References) → Ascends (ref ∷ refs)
    → ref_at refs ref.0 ≡ None
unfolding IsStrictlySortedBy
not_behind ref refs ascends =
    not_there (ref_at refs ref.0) (λ there.
    not_less (name_cmp ref.0 ref.0)
    (all_among (λ (q : List ℕ). name_cmp ref.0 q ≡ Less) (keys_of refs) ref.0 ascends.0
    (among_from_there refs ref.0 there))
    (names_total.antisymm ref.0 ref.0))

-- it has its object
at_first : (ref : List ℕ × Hash) (refs : References) → ref_at (ref ∷ refs) ref.0 ≡ Some ref.1
at_first ref refs = rw (names_laws.refl ref.0) refl

-- a name that another map has is not below that map's first one
reaches : (ref other : List ℕ × Hash) (refs others : References) → Ascends (other ∷ others)
    → ref_at (other ∷ others) ref.0 ≡ Some ref.1
    → (other.0 ≡ ref.0) ⊎ (name_cmp other.0 ref.0 ≡ Less)
unfolding IsStrictlySortedBy
reaches ref other refs others ascends has = ⊎_elim
    (λ same. inl (sym (one_name ref.0 other.0 same)))
    (λ apart. inr (all_among (λ (q : List ℕ). name_cmp other.0 q ≡ Less) (keys_of others) ref.0
    ascends.0 (among_from_there others ref.0
    (ap is_some (sym (ap (λ (b : Bool). cond {A = Option Hash} b (Some other.1)
    (ref_at others ref.0)) apart) ∙ has)))))
    (cases_Bool (is_name ref.0 other.0))

pub one_map : (refs others : References) → Ascends refs → Ascends others
    → ((q : List ℕ) → ref_at refs q ≡ ref_at others q) → refs ≡ others
unfolding IsStrictlySortedBy
one_map [] [] ascends above alike = refl
one_map [] (other ∷ others) ascends above alike =
    absurd (let some = at_first other others in let none = alike other.0 in cc)
one_map (ref ∷ refs) [] ascends above alike =
    absurd (let some = at_first ref refs in let none = alike ref.0 in cc)
one_map (ref ∷ refs) (other ∷ others) ascends above alike =
    let name : other.0 ≡ ref.0 = first in
    let object : ref.1 ≡ other.1 =
    (let one = at_first ref refs in let two = at_first other others in
    let three = ap (ref_at (other ∷ others)) name in let both = alike ref.0 in cc) in
    let rest : refs ≡ others =
    one_map refs others ascends.1 above.1 (λ q. at name q (is_name q ref.0) refl (alike q)) in
    ap (λ (n : List ℕ). (n, ref.1) ∷ refs) (sym name)
    ∙ ap (λ (h : Hash). (other.0, h) ∷ refs) object
    ∙ ap (λ (r : References). other ∷ r) rest
  where
    first : other.0 ≡ ref.0
    first = ⊎_elim
        (λ same. same)
        (λ below. ⊎_elim
        (λ same. sym same)
        (λ above_. absurd (
        let turned : name_cmp ref.0 other.0 ≡ ordering_reverse (name_cmp other.0 ref.0) =
        names_total.antisymm ref.0 other.0 in
        let greater = ap ordering_reverse below in
        cc))
        (reaches other ref others refs ascends (alike other.0 ∙ at_first other others)))
        (reaches ref other refs others above (sym (alike ref.0) ∙ at_first ref refs))

    at : other.0 ≡ ref.0 → (q : List ℕ) (b : Bool) → is_name q ref.0 ≡ b
        → ref_at (ref ∷ refs) q ≡ ref_at (other ∷ others) q → ref_at refs q ≡ ref_at others q
    at name q true same both =
        let here : q ≡ ref.0 = one_name q ref.0 same in
        ap (ref_at refs) here ∙ not_behind ref refs ascends
        ∙ sym (ap (ref_at others) (here ∙ sym name) ∙ not_behind other others above)
    at name q false apart both =
        let apart_ : is_name q other.0 ≡ false = ap (is_name q) name ∙ apart in
        sym (ap (λ (b : Bool). cond {A = Option Hash} b (Some ref.1) (ref_at refs q)) apart)
        ∙ both
        ∙ ap (λ (b : Bool). cond {A = Option Hash} b (Some other.1) (ref_at others q)) apart_
