-- Names of references in their order.
use Rattle.std.proofs.Common.{◌≡◌, ◌≢◌, ℕ, List, true, false, refl, sym, ◌∙◌}
use Rattle.std.specs.Cmp.{IsEquivalence, IsTotalOrder, eq_by_cmp_equiv, nat_cmp_total}
use Rattle.std.specs.Cmp.Lexicographic.{bytes_decides, lists_total, texts_ties}
use Rattle.std.specs.Ordering.{is_gt, ordering_reverse}
use Rattle.std.specs.declared.cmp.Ordering.{Ordering}
use Rattle.std.specs.declared.cmp.Ordering.TheVariants.{Less, Equal, Greater}
use Rattle.std.proofs.lemmas.Bool.{false_from_ne_true}
use Rattle.px_base.specs.RefList.{name_cmp, is_name}

-- the order of names is total
pub names_total : IsTotalOrder name_cmp
names_total = lists_total nat_cmp_total

-- the test of names is an equivalence
pub names_laws : IsEquivalence is_name
names_laws = eq_by_cmp_equiv names_total

-- names that pass it are one
pub one_name : (a b : List ℕ) → is_name a b ≡ true → a ≡ b
one_name a b e = (bytes_decides a b).0 (texts_ties a b ∙ e)

-- names that differ do not
pub other_name : (a b : List ℕ) → b ≢ a → is_name a b ≡ false
other_name a b differ = false_from_ne_true _ (λ passes. differ (sym (one_name a b passes)))

-- what is above is not below
greater : (o : Ordering) → is_gt o ≡ true → ordering_reverse o ≡ Less
greater Less e = absurd (cc)
greater Equal e = absurd (cc)
greater Greater e = refl

pub less_from_gt : (a b : List ℕ) → is_gt (name_cmp a b) ≡ true → name_cmp b a ≡ Less
less_from_gt a b e = names_total.antisymm b a ∙ greater (name_cmp a b) e
