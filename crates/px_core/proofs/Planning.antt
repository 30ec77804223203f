-- What a push that nothing refuses has: its members are known, few, and a panel by the rule, and
-- numbers are left for it.
use Rattle.std.proofs.Common.{◌≡◌, ◌≤◌, ◌<◌, ◌+◌, ◌==◌, ◌&&◌, ℕ, not, List, [], ◌∷◌, Bool, false, Option, None, Some, sym, ap, subst, inl, inr, filter, length, map, arith, ◌∙◌}
use Rattle.std.specs.List.{AllByRecursion}
use Rattle.px_base.specs.declared.ids.StorageId.{StorageId}
use Rattle.px_ops.specs.declared.refusal.Refusal.{Refusal}
use Rattle.px_ops.specs.declared.refusal.Refusal.TheVariants as refusal
use Rattle.voters.specs.Panel.{panel_refusal}
use Rattle.px_cluster.specs.Book.{Replica, Repository, is_of, storages_where}
use Rattle.px_cluster.specs.Core.{Core, repository, turn_of}
use Rattle.px_cluster.specs.Ids.{gen}
use Rattle.px_cluster.specs.Members.{hosts, is_host, members, panel_of, targets}
use Rattle.px_cluster.specs.Pushes.{begin_refusal, count_newest, read_only, turn_taken}
use Rattle.px_cluster.specs.Refusals.{first_cause, generations_spent, leases_spent, transactions_spent}
use Rattle.cluster_form.specs.Books.{IsDense, storages_in}
use Rattle.cluster_form.proofs.Lists.{all_got, all_such, bool}
use Rattle.cluster_form.proofs.Panels.{members_known, members_some, places_within}
use Rattle.cluster_form.proofs.TurnsKept.{first_holds, no_turn, not_caused}
use Rattle.genbook.specs.Changes.{numbers_of}
use Rattle.px_core.specs.Known.{AreKnown}
use Rattle.px_core.specs.Sound.{IsSound}
use Rattle.px_core.proofs.ByNumbers.{known_by_numbers, numbers_as_many}
use Rattle.px_core.proofs.MemberNames.{map_as_many, members_fewer}
use Rattle.px_core.proofs.MemberPanels.{panel_made}

-- what is true of each replica's storage is true of those that pass a test
pub of_where : (P : ℕ → Type 0) (test : Replica → Bool) (replicas : List Replica)
    → AllByRecursion P (map (λ (r : Replica). r.storage) replicas)
    → AllByRecursion P (map (λ (r : Replica). r.storage) (filter test replicas))
of_where P test [] all = tt
of_where P test (r ∷ rs) all = elim (bool (test r)) [
  | inl holds ↦ (rw holds (all.0, of_where P test rs all.1))
  | inr fails ↦ (rw fails (of_where P test rs all.1))
]

-- a repository that is on record has replicas on known storages alone, and at most 64
module _ (core : Core) (sound : IsSound core) (repo : ℕ) (book : Repository)
    (there : repository core repo ≡ Some book) where
  pub dense : IsDense core.storages book
  dense = all_got (IsDense core.storages) core.repositories repo book sound.form.books.dense there

  pub replicas_known : AllByRecursion (λ n. n < length core.storages) (storages_in book)
  replicas_known = subst (AllByRecursion (λ n. n < length core.storages)) (sym dense)
      (all_such (λ n. n < 0 + length core.storages) _ _ (λ n within. omega (arith, within))
      (places_within 0 (is_of book.virt) core.storages))

  pub replicas_few : length book.replicas ≤ 64
  replicas_few =
      let all = map_as_many (λ (r : Replica). r.storage) book.replicas in
      let same = ap (λ (ns : List ℕ). length ns) dense in
      let few = sound.few book.virt in
      omega (arith, all, same, few)

  -- the storages are known of those replicas that pass a test
  pub where_known : (test : Replica → Bool) (storages : List StorageId)
      → numbers_of storages ≡ storages_where test book → AreKnown core.storages storages
  where_known test storages are = known_by_numbers (length core.storages) storages
      (subst (AllByRecursion (λ n. n < length core.storages)) (sym are)
      (of_where (λ n. n < length core.storages) test book.replicas replicas_known))

  -- .. and where nothing refuses a push
  module _ (none : begin_refusal core repo (Some book) ≡ None) where
    abbrev rest : List (Option Refusal)
    rest = leases_spent book.last ∷ generations_spent book.newest
        ∷ transactions_spent core.last_tx ∷ []

    writable : (turn_taken (turn_of core repo) ≡ None)
        × (first_cause (read_only core book ∷ rest) ≡ None)
    writable = first_holds (turn_taken (turn_of core repo)) (read_only core book ∷ rest) none

    pub free : turn_of core repo ≡ None
    free = no_turn (turn_of core repo) writable.0

    left : (read_only core book ≡ None) × (first_cause rest ≡ None)
    left = first_holds (read_only core book) rest writable.1

    pub not_read_only : read_only core book ≡ None
    not_read_only = left.0

    some : (length (hosts core book) == 0) ≡ false
    some = not_caused (length (hosts core book) == 0)
        (refusal.ReadOnly (gen book.newest) (count_newest book)) left.0

    pub leases_left : leases_spent book.last ≡ None
    leases_left = (first_holds (leases_spent book.last) (generations_spent book.newest
        ∷ transactions_spent core.last_tx ∷ []) left.1).0

    pub transactions_left : transactions_spent core.last_tx ≡ None
    transactions_left = (first_holds (transactions_spent core.last_tx) []
        (first_holds (generations_spent book.newest) (transactions_spent core.last_tx ∷ [])
        (first_holds (leases_spent book.last) (generations_spent book.newest
        ∷ transactions_spent core.last_tx ∷ []) left.1).1).1).0

    module _ (storages : List StorageId) (are : numbers_of storages ≡ members core book) where
      pub members_are_known : AreKnown core.storages storages
      members_are_known = known_by_numbers (length core.storages) storages
          (subst (AllByRecursion (λ n. n < length core.storages)) (sym are)
          (members_known core book dense))

      pub members_are_some : (length storages == 0) ≡ false
      members_are_some = subst (λ (n : ℕ). (n == 0) ≡ false)
          (ap (λ (ns : List ℕ). length ns) (sym are) ∙ numbers_as_many storages)
          (members_some core book dense some)

      pub members_are_few : length storages ≤ 64
      members_are_few =
          let fewer = members_fewer core book dense in
          let few = sound.few book.virt in
          let same = ap (λ (ns : List ℕ). length ns) are in
          let many = numbers_as_many storages in
          omega (arith, fewer, few, same, many)

      pub members_are_a_panel : panel_refusal (panel_of core (numbers_of storages)).voters
          (panel_of core (numbers_of storages)).threshold ≡ None
      members_are_a_panel = subst (λ (ns : List ℕ).
          panel_refusal (panel_of core ns).voters (panel_of core ns).threshold ≡ None) (sym are)
          (panel_made core book dense sound.form.tables.names (sound.few book.virt) some)

    pub targets_are_known : (storages : List StorageId)
        → numbers_of storages ≡ targets core book → AreKnown core.storages storages
    targets_are_known storages are = where_known
        (λ (replica : Replica). replica.assigned && not (is_host core book replica)) storages are
