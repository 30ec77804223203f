-- Transactions stand in the order of their numbers, after one was registered, changed or closed.
use Rattle.std.proofs.Common.{◌≡◌, ◌<◌, ◌≤◌, ◌+◌, ◌==◌, ℕ, [], ◌∷◌, ◌++◌, Bool, false, None, Some, refl, sym, ◌∙◌, ap, subst, inl, inr, arith}
use Rattle.std.specs.BTreeMap.{insert_entry, is_at}
use Rattle.std.specs.Cmp.{nat_cmp_is}
use Rattle.std.specs.List.{AllByRecursion}
use Rattle.std.specs.Map.{lookup, remove_entry, set_value}
use Rattle.std.specs.Ordering.{is_eq, nat_cmp}
use Rattle.std.specs.declared.cmp.Ordering.TheVariants.{Equal, Greater}
use Rattle.px_base.specs.declared.ids.TxId.{TxId}
use Rattle.txmanager.proofs.RegistryLemmas.{apart, found_is}
use Rattle.txmanager.specs.Registry.{Registry, transaction_at, with_registered}
use Rattle.txmanager.specs.Voting.{Voting}
use Rattle.cluster_form.specs.Turns.{AreNumbered, AreRising}
use Rattle.cluster_form.proofs.Lists.{all_both, all_such, bool, other_number}

-- ---- transactions and their numbers

-- they are the same where their numbers are
pub same_tx : (one other : TxId) → one.0 ≡ other.0 → one ≡ other
same_tx one other same = ap (λ n. let tx : TxId = record { 0 = n } in tx) same

-- and differ where those do
pub apart_tx : (one other : TxId) → (one.0 == other.0) ≡ false → one ≡ other → ⊥
apart_tx one other fails same = other_number one.0 other.0 fails (ap (λ (t : TxId). t.0) same)

-- ---- numbers, after a change

module _ (P : ℕ → Type 0) (test : ℕ → Bool) where
  abbrev All : Registry → Type 0
  All entries = AllByRecursion (λ (entry : ℕ × Voting). P entry.0) entries

  all_set_value : (entries : Registry) (vote : Voting) → All entries
      → All (set_value test entries vote)
  all_set_value [] vote all = tt
  all_set_value (entry ∷ entries) vote all = elim (bool (test entry.0)) [
    | inl holds ↦ (rw holds (all.0, all.1))
    | inr fails ↦ (rw fails (all.0, all_set_value entries vote all.1))
  ]

  all_removed : (entries : Registry) → All entries → All (remove_entry test entries)
  all_removed [] all = tt
  all_removed (entry ∷ entries) all = elim (bool (test entry.0)) [
    | inl holds ↦ (rw holds all.1)
    | inr fails ↦ (rw fails (all.0, all_removed entries all.1))
  ]

rising_set : (test : ℕ → Bool) (entries : Registry) (vote : Voting) → AreRising entries
    → AreRising (set_value test entries vote)
rising_set test [] vote rise = tt
rising_set test (entry ∷ entries) vote rise = elim (bool (test entry.0)) [
  | inl holds ↦ (rw holds (rise.0, rise.1))
  | inr fails ↦ (rw fails (
    all_set_value (λ n. entry.0 < n) test entries vote rise.0,
    rising_set test entries vote rise.1,
  ))
]

rising_removed : (test : ℕ → Bool) (entries : Registry) → AreRising entries
    → AreRising (remove_entry test entries)
rising_removed test [] rise = tt
rising_removed test (entry ∷ entries) rise = elim (bool (test entry.0)) [
  | inl holds ↦ (rw holds rise.1)
  | inr fails ↦ (rw fails (
    all_removed (λ n. entry.0 < n) test entries rise.0,
    rising_removed test entries rise.1,
  ))
]

pub numbered_set : (last : ℕ) (test : ℕ → Bool) (entries : Registry) (vote : Voting)
    → AreNumbered last entries → AreNumbered last (set_value test entries vote)
numbered_set last test entries vote are = record {
  order = rising_set test entries vote are.order;
  given = all_set_value (λ n. n ≤ last) test entries vote are.given;
}

pub numbered_removed : (last : ℕ) (test : ℕ → Bool) (entries : Registry)
    → AreNumbered last entries → AreNumbered last (remove_entry test entries)
numbered_removed last test entries are = record {
  order = rising_removed test entries are.order;
  given = all_removed (λ n. n ≤ last) test entries are.given;
}

-- ---- a new transaction has a greater number, and comes last

module _ (number : ℕ) (vote : Voting) where
  comes_last : (entries : Registry)
      → AllByRecursion (λ (entry : ℕ × Voting). entry.0 < number) entries
      → insert_entry nat_cmp entries number vote ≡ entries ++ (number, vote) ∷ []
  comes_last [] all = refl
  comes_last (entry ∷ entries) all =
      let below : entry.0 < number = all.0 in
      rw (sym (nat_cmp_is number entry.0 Greater below))
      (ap (λ (es : Registry). entry ∷ es) (comes_last entries all.1))

  rising_more : (entries : Registry) → AreRising entries
      → AllByRecursion (λ (entry : ℕ × Voting). entry.0 < number) entries
      → AreRising (entries ++ (number, vote) ∷ [])
  rising_more [] rise all = (tt, tt)
  rising_more (entry ∷ entries) rise all = (
    all_both _ entries ((number, vote) ∷ []) rise.0 (all.0, tt),
    rising_more entries rise.1 all.1,
  )

  found_last : (entries : Registry)
      → AllByRecursion (λ (entry : ℕ × Voting). entry.0 < number) entries
      → lookup (is_at (nat_cmp number)) (entries ++ (number, vote) ∷ []) ≡ Some vote
  found_last [] all = rw (ap is_eq (sym (nat_cmp_is number number Equal refl))) refl
  found_last (entry ∷ entries) all =
      let below : entry.0 < number = all.0 in
      rw (apart number entry.0 (λ same. omega (arith, below, same))) (found_last entries all.1)

module _ (last : ℕ) (entries : Registry) (are : AreNumbered last entries) (tx : TxId)
    (next : tx.0 ≡ last + 1) (vote : Voting) where
  below : AllByRecursion (λ (entry : ℕ × Voting). entry.0 < tx.0) entries
  below = all_such (λ (entry : ℕ × Voting). entry.0 ≤ last) _ entries
      (λ entry given. omega (arith, given, next)) are.given

  pub numbered_more : AreNumbered (last + 1) (with_registered entries tx vote)
  numbered_more = subst (AreNumbered (last + 1)) (sym (comes_last tx.0 vote entries below)) (record {
    order = rising_more tx.0 vote entries are.order below;
    given = all_both _ entries ((tx.0, vote) ∷ [])
        (all_such (λ (entry : ℕ × Voting). entry.0 ≤ last) _ entries
        (λ entry given. omega (arith, given)) are.given) (omega (arith, next), tt);
  })

  pub found_registered : transaction_at (with_registered entries tx vote) tx ≡ Some vote
  found_registered = ap (lookup (is_at (nat_cmp tx.0))) (comes_last tx.0 vote entries below)
      ∙ found_last tx.0 vote entries below

-- a transaction that is there, with another state
pub found_set : (number : ℕ) (entries : Registry) (old new : Voting)
    → lookup (is_at (nat_cmp number)) entries ≡ Some old
    → lookup (is_at (nat_cmp number)) (set_value (is_at (nat_cmp number)) entries new) ≡ Some new
found_set number [] old new is = absurd (let none : None ≡ Some old = is in cc)
found_set number (entry ∷ entries) old new is = elim (bool (is_at (nat_cmp number) entry.0)) [
  | inl holds ↦ (rw holds (rw holds refl))
  | inr fails ↦ (rw fails (rw fails (found_set number entries old new (rw fails at is))))
]

-- ---- a transaction that is closed is found no more

module _ (number : ℕ) where
  -- it is not among greater ones
  none_above : (entries : Registry)
      → AllByRecursion (λ (entry : ℕ × Voting). number < entry.0) entries
      → lookup (is_at (nat_cmp number)) entries ≡ None
  none_above [] above = refl
  none_above (entry ∷ entries) above =
      let first : number < entry.0 = above.0 in
      rw (apart number entry.0 (λ same. omega (arith, first, same))) (none_above entries above.1)

  -- .. and once at most among those that rise
  pub none_left : (entries : Registry) → AreRising entries
      → lookup (is_at (nat_cmp number)) (remove_entry (is_at (nat_cmp number)) entries) ≡ None
  none_left [] rise = refl
  none_left (entry ∷ entries) rise = elim (bool (is_at (nat_cmp number) entry.0)) [
    | inl holds ↦ (rw holds (none_above entries
        (subst (λ n. AllByRecursion (λ (later : ℕ × Voting). n < later.0) entries)
        (sym (found_is number entry.0 holds)) rise.0)))
    | inr fails ↦ (rw fails (rw fails (none_left entries rise.1)))
  ]
