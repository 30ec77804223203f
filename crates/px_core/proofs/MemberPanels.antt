-- The panel of a push that begins is one: nothing refuses it.
use Rattle.std.proofs.Common.{◌≡◌, ◌≤◌, ◌<◌, ◌*◌, ◌==◌, ◌&&◌, ℕ, suc, List, [], ◌∷◌, true, false, None, refl, ap, length, nat_le, nat_lt, sum_by, arith}
use Rattle.std.specs.List.{AllByRecursion}
use Rattle.std.proofs.lemmas.Bool.Decides.{nat_tests}
use Rattle.std.proofs.lemmas.List.Sums.{sum-map}
use Rattle.px_base.specs.declared.voter.Voter.{Voter}
use Rattle.voters.specs.Marks.{voter_weight}
use Rattle.voters.specs.Panel.{first_repeated, panel_refusal}
use Rattle.px_cluster.specs.Book.{Repository, storages_of}
use Rattle.px_cluster.specs.Core.{Core}
use Rattle.px_cluster.specs.Members.{hosts, members, panel_of, voter_with, voters_of}
use Rattle.cluster_form.specs.Books.{IsDense}
use Rattle.cluster_form.specs.Tables.{AreNamesApart}
use Rattle.cluster_form.specs.Turns.{AreDistinct}
use Rattle.cluster_form.proofs.Panels.{members_distinct, members_known, members_some, panel_is}
use Rattle.px_core.proofs.MemberNames.{distinct_names, map_as_many, members_fewer}

-- as many voters as members
voters_as_many : (core : Core) (ns : List ℕ) → length (voters_of core ns) ≡ length ns
voters_as_many core [] = refl
voters_as_many core (primary ∷ ns) = ap suc (map_as_many (voter_with core 1) ns)

within : (total threshold : ℕ) → threshold ≤ total → total < 2 * threshold
    → (nat_le threshold total && nat_lt total (2 * threshold)) ≡ true
within total threshold reachable most =
    let reaches : nat_le threshold total ≡ true = grind (arith, nat_tests) in
    let above : nat_lt total (2 * threshold) ≡ true = grind (arith, nat_tests) in
    rw reaches above

-- distinct voters, at most 64 and with a lawful poll, are not refused
not_refused : (voters : List Voter) (threshold : ℕ) → (length voters == 0) ≡ false
    → length voters ≤ 64 → first_repeated voters ≡ None → threshold ≤ sum_by voter_weight voters
    → sum_by voter_weight voters < 2 * threshold → panel_refusal voters threshold ≡ None
not_refused voters threshold some few distinct reachable most =
    let fits : nat_lt 64 (length voters) ≡ false = grind (arith, nat_tests) in
    rw some (rw fits (rw distinct
    (rw (within (sum_by voter_weight voters) threshold reachable most) refl)))

pub panel_made : (core : Core) (book : Repository) → IsDense core.storages book
    → AreNamesApart core.storages → length (storages_of core.storages book.virt) ≤ 64
    → (length (hosts core book) == 0) ≡ false
    → panel_refusal (panel_of core (members core book)).voters
    (panel_of core (members core book)).threshold ≡ None
panel_made core book dense apart few some =
    by (members core book) (members_distinct core book dense) (members_known core book dense)
    (members_some core book dense some) (members_fewer core book dense)
  where
    by : (ns : List ℕ) → AreDistinct ns
        → AllByRecursion (λ member. member < length core.storages) ns → (length ns == 0) ≡ false
        → length ns ≤ length (storages_of core.storages book.virt)
        → panel_refusal (panel_of core ns).voters (panel_of core ns).threshold ≡ None
    by [] distinct known some_ fewer = absurd (let z : true ≡ false = some_ in cc)
    by (primary ∷ ns) distinct known some_ fewer =
        let voters = voters_of core (primary ∷ ns) in
        let poll = panel_is core.storages (primary ∷ ns) some_ in
        let many = voters_as_many core (primary ∷ ns) in
        let sum = sum-map voter_weight voters in
        not_refused voters _ (rw many some_) (omega (arith, many, fewer, few))
        (distinct_names core apart (primary ∷ ns) distinct known)
        (omega (arith, poll.reachable, sum)) (omega (arith, poll.most, sum))
