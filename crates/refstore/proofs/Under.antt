-- Names under others, by their bytes.
use Rattle.std.proofs.Common.{◌≡◌, ℕ, ◌≤◌, suc, zero, List, [], ◌∷◌, ◌++◌, true, false, refl, sym, ap, ◌∙◌, subst, length, take, drop, slice_get, Some, append_assoc, arith}
use Rattle.std.specs.Cmp.{nat_cmp_total, unsigned_Decides}
use Rattle.std.specs.List.{starts_with}
use Rattle.std.specs.Ordering.{is_gt, nat_cmp, ordering_then}
use Rattle.std.specs.Prelude.{nat_eq}
use Rattle.std.specs.declared.cmp.Ordering.{Ordering}
use Rattle.std.specs.declared.cmp.Ordering.TheVariants.{Less, Equal, Greater}
use Rattle.std.proofs.lemmas.Cmp.{tied_itself}
use Rattle.std.proofs.lemmas.Map.Keys.{le_from_not_gt}
use Rattle.std.proofs.lemmas.Slice.Eq.{starts_is}
use Rattle.px_base.specs.RefList.{name_cmp}

-- the bytes begin with these
pub record Begins (bytes front : List ℕ) : Type 0 where
  pub rest : List ℕ
  pub is : bytes ≡ front ++ rest

pub Begins-from_test : (bytes front : List ℕ) → starts_with nat_eq bytes front ≡ true
    → Begins bytes front
Begins-from_test bytes front t = record {
  rest = drop (length front) bytes;
  is = (starts_is unsigned_Decides bytes front _ refl).0 t;
}

pub test_from_Begins : (bytes front : List ℕ) → Begins bytes front
    → starts_with nat_eq bytes front ≡ true
test_from_Begins bytes front b = (starts_is unsigned_Decides bytes front _ refl).1 b.rest b.is

-- what begins with a name is not below it
pub not_below : (front rest : List ℕ) → is_gt (name_cmp front (front ++ rest)) ≡ false
not_below [] [] = refl
not_below [] (x ∷ rest) = refl
not_below (x ∷ front) rest = rw (tied_itself nat_cmp_total x) (not_below front rest)

pub Begins-not_below : (bytes front : List ℕ) → Begins bytes front
    → is_gt (name_cmp front bytes) ≡ false
Begins-not_below bytes front b =
    subst (λ (s : List ℕ). is_gt (name_cmp front s) ≡ false) (sym b.is) (not_below front b.rest)

-- what stands between bytes and others that begin with them begins with them too
head_not_gt : (o p : Ordering) → is_gt (ordering_then o p) ≡ false → is_gt o ≡ false
head_not_gt Less p e = refl
head_not_gt Equal p e = refl
head_not_gt Greater p e = e

one_head : (x y : ℕ) (o p : Ordering) → is_gt (ordering_then (nat_cmp x y) o) ≡ false
    → is_gt (ordering_then (nat_cmp y x) p) ≡ false → x ≡ y
one_head x y o p below above =
    let a : x ≤ y = le_from_not_gt x y (head_not_gt (nat_cmp x y) o below) in
    let b : y ≤ x = le_from_not_gt y x (head_not_gt (nat_cmp y x) p above) in
    omega arith

between : (front middle rest : List ℕ) → is_gt (name_cmp front middle) ≡ false
    → is_gt (name_cmp middle (front ++ rest)) ≡ false → Begins middle front
between [] middle rest below above = record { rest = middle; is = refl }
between (x ∷ front) [] rest below above = absurd (cc)
between (x ∷ front) (y ∷ middle) rest below above =
    let same : x ≡ y = one_head x y (name_cmp front middle) (name_cmp middle (front ++ rest)) below above in
    let tied : nat_cmp x y ≡ Equal = ap (nat_cmp x) (sym same) ∙ tied_itself nat_cmp_total x in
    let tied_back : nat_cmp y x ≡ Equal = ap (nat_cmp y) same ∙ tied_itself nat_cmp_total y in
    let b = between front middle rest
    (ap (λ (o : Ordering). is_gt (ordering_then o (name_cmp front middle))) (sym tied) ∙ below)
    (ap (λ (o : Ordering). is_gt (ordering_then o (name_cmp middle (front ++ rest)))) (sym tied_back)
    ∙ above) in
    record {
      rest = b.rest;
      is = ap (λ (z : ℕ). z ∷ middle) (sym same) ∙ ap (λ (s : List ℕ). x ∷ s) b.is;
    }

pub Begins-between : (front middle other : List ℕ) → is_gt (name_cmp front middle) ≡ false
    → is_gt (name_cmp middle other) ≡ false → Begins other front → Begins middle front
Begins-between front middle other below above b =
    between front middle b.rest below
    (subst (λ (s : List ℕ). is_gt (name_cmp middle s) ≡ false) b.is above)

-- ---- names above, by the slashes

-- bytes up to a place, the one there, and the rest
split_at : (bytes : List ℕ) (k b : ℕ) → slice_get bytes k ≡ Some b
    → bytes ≡ take k bytes ++ b ∷ drop (suc k) bytes
split_at [] k b there = absurd (cc)
split_at (x ∷ bytes) zero b there =
    let same : x ≡ b = cc in
    rw same refl
split_at (x ∷ bytes) (suc k) b there = ap (λ (s : List ℕ). x ∷ s) (split_at bytes k b there)

-- a name begins with what ends before one of its slashes, and that slash
pub Begins-slash : (name : List ℕ) (k : ℕ) → slice_get name k ≡ Some 47
    → Begins name (take k name ++ 47 ∷ [])
Begins-slash name k slash = record {
  rest = drop (suc k) name;
  is = split_at name k 47 slash ∙ sym (append_assoc (take k name) (47 ∷ []) (drop (suc k) name));
}

-- and each that it begins with, with a slash, ends before one of its slashes
take-front : (front rest : List ℕ) → take (length front) (front ++ rest) ≡ front
take-front [] rest = refl
take-front (x ∷ front) rest = ap (λ (s : List ℕ). x ∷ s) (take-front front rest)

get-front : (front rest : List ℕ) (b : ℕ) → slice_get (front ++ b ∷ rest) (length front) ≡ Some b
get-front [] rest b = refl
get-front (x ∷ front) rest b = get-front front rest b

pub record EndsAtSlash (name front : List ℕ) : Type 0 where
  pub slash : slice_get name (length front) ≡ Some 47
  pub is : take (length front) name ≡ front

pub ends_at_slash : (name front : List ℕ) → Begins name (front ++ 47 ∷ []) → EndsAtSlash name front
ends_at_slash name front b =
    let whole : name ≡ front ++ 47 ∷ b.rest = b.is ∙ append_assoc front (47 ∷ []) b.rest in
    record {
      slash = ap (λ (s : List ℕ). slice_get s (length front)) whole ∙ get-front front b.rest 47;
      is = ap (take (length front)) whole ∙ take-front front (47 ∷ b.rest);
    }

-- the longer of two beginnings begins with the shorter one
pub take_take : (name : List ℕ) (k j : ℕ) → k ≤ j → Begins (take j name) (take k name)
take_take name zero j within = record { rest = take j name; is = refl }
take_take [] (suc k) zero within = absurd (omega arith)
take_take [] (suc k) (suc j) within = record { rest = []; is = refl }
take_take (x ∷ name) (suc k) zero within = absurd (omega arith)
take_take (x ∷ name) (suc k) (suc j) within =
    let b = take_take name k j (omega arith) in
    record { rest = b.rest; is = ap (λ (s : List ℕ). x ∷ s) b.is }

-- what begins with what begins with these begins with these
pub Begins-on : (bytes middle front : List ℕ) → Begins bytes middle → Begins middle front
    → Begins bytes front
Begins-on bytes middle front b c = record {
  rest = c.rest ++ b.rest;
  is = b.is ∙ ap (λ (s : List ℕ). s ++ b.rest) c.is ∙ append_assoc front c.rest b.rest;
}

-- the name, without the slash behind it
pub Begins-bare : (bytes front : List ℕ) → Begins bytes (front ++ 47 ∷ []) → Begins bytes front
Begins-bare bytes front b = record {
  rest = 47 ∷ b.rest;
  is = b.is ∙ append_assoc front (47 ∷ []) b.rest;
}
