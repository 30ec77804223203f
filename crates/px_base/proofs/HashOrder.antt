-- The order of hashes is total, and tells all hashes apart.
use Rattle.std.proofs.Common.{◌≡◌, true, List, ℕ, ap, ◌∙◌}
use Rattle.std.specs.Cmp.{IsTotalOrder, nat_cmp_total}
use Rattle.std.specs.Cmp.Lexicographic.{lists_total, bytes_decides, texts_ties}
use Rattle.std.specs.Ordering.{eq_by_cmp}
use Rattle.std.proofs.lemmas.Cmp.{on_total}
use Rattle.px_base.specs.Hash.{hash_cmp}
use Rattle.px_base.specs.declared.hash.Hash.{Hash}

-- it is a total order
pub hash_cmp_total : IsTotalOrder hash_cmp
hash_cmp_total = on_total (λ (h : Hash). h.0) (lists_total nat_cmp_total)

-- hashes that it takes for equal are one
pub one_by_order : (g h : Hash) → eq_by_cmp hash_cmp g h ≡ true → g ≡ h
one_by_order g h e =
    ap (λ (b : List ℕ). let x : Hash = record { 0 = b } in x)
    ((bytes_decides g.0 h.0).0 (texts_ties g.0 h.0 ∙ e))
