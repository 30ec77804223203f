-- What is found of a number after a transaction was registered, changed or closed.
use Rattle.std.proofs.Common.{◌≡◌, ℕ, [], ◌∷◌, true, false, Option, None, Some, Result, Ok, Err, OnErr, refl, ap, sym, ◌∙◌, inl, inr}
use Rattle.std.specs.BTreeMap.{insert_entry, is_at}
use Rattle.std.specs.FinMap.{nat_cmp-IsAntisymmetric}
use Rattle.std.specs.Map.{lookup, remove_entry, set_value}
use Rattle.std.specs.Option.{option_map}
use Rattle.std.specs.Ordering.{is_eq, match_ordering, nat_cmp}
use Rattle.std.specs.declared.cmp.Ordering.{Ordering}
use Rattle.std.specs.declared.cmp.Ordering.TheVariants.{Less, Equal, Greater}
use Rattle.std.proofs.lemmas.Bool.{cases_Bool}
use Rattle.std.proofs.lemmas.Map.Steps.{set_value_same}
use Rattle.px_base.specs.declared.ids.TxId.{TxId}
use Rattle.txmanager.specs.Registry.{Registry, answer_at, transaction_at, with_changed, with_transaction}
use Rattle.txmanager.specs.Voting.{Voting, unless_err}
use Rattle.txmanager.specs.declared.refusal.TxRefusal.{TxRefusal}

is_equal : (r : Ordering) → is_eq r ≡ true → r ≡ Equal
is_equal Less e = absurd (cc)
is_equal Equal e = refl
is_equal Greater e = absurd (cc)

-- a number that a query finds is the one that was asked for
pub found_is : (q k : ℕ) → is_at (nat_cmp q) k ≡ true → q ≡ k
found_is q k t = nat_cmp-IsAntisymmetric q k (is_equal (nat_cmp q k) t)

pub apart : (q k : ℕ) → (q ≡ k → ⊥) → is_at (nat_cmp q) k ≡ false
apart q k differ =
    elim (cases_Bool (is_at (nat_cmp q) k)) [
      | inl t ↦ absurd (differ (found_is q k t))
      | inr f ↦ f
    ]

module _ (q k : ℕ) (v : Voting) (differ : q ≡ k → ⊥) where
  insert_by : (r : Ordering) (e : ℕ × Voting) (es inserted : Registry) → nat_cmp k e.0 ≡ r → lookup (is_at (nat_cmp q)) inserted ≡ lookup (is_at (nat_cmp q)) es
      → lookup (is_at (nat_cmp q)) (match_ordering r ((k, v) ∷ e ∷ es) ((e.0, v) ∷ es) (e ∷ inserted)) ≡ lookup (is_at (nat_cmp q)) (e ∷ es)
  insert_by Less e es inserted is rest = rw (apart q k differ) refl
  insert_by Equal e es inserted is rest = rw (apart q e.0 (λ same. differ (same ∙ sym (nat_cmp-IsAntisymmetric k e.0 is)))) refl
  insert_by Greater e es inserted is rest = rw rest refl

  lookup_inserted : (es : Registry) → lookup (is_at (nat_cmp q)) (insert_entry nat_cmp es k v) ≡ lookup (is_at (nat_cmp q)) es
  lookup_inserted [] = rw (apart q k differ) refl
  lookup_inserted (e ∷ es) = insert_by (nat_cmp k e.0) e es (insert_entry nat_cmp es k v) refl (lookup_inserted es)

  lookup_set : (es : Registry) → lookup (is_at (nat_cmp q)) (set_value (is_at (nat_cmp k)) es v) ≡ lookup (is_at (nat_cmp q)) es
  lookup_set [] = refl
  lookup_set (e ∷ es) =
      elim (cases_Bool (is_at (nat_cmp k) e.0)) [
        | inl t ↦ rw (t, apart q e.0 (λ same. differ (same ∙ sym (found_is k e.0 t)))) refl
        | inr f ↦ rw (f, lookup_set es) refl
      ]

  lookup_removed : (es : Registry) → lookup (is_at (nat_cmp q)) (remove_entry (is_at (nat_cmp k)) es) ≡ lookup (is_at (nat_cmp q)) es
  lookup_removed [] = refl
  lookup_removed (e ∷ es) =
      elim (cases_Bool (is_at (nat_cmp k) e.0)) [
        | inl t ↦ rw (t, apart q e.0 (λ same. differ (same ∙ sym (found_is k e.0 t)))) refl
        | inr f ↦ rw (f, lookup_removed es) refl
      ]

-- two numbers that differ
differ_in : (other tx : TxId) → (other ≡ tx → ⊥) → other.0 ≡ tx.0 → ⊥
differ_in other tx differ same = differ (ap (λ (n : ℕ). let t : TxId = record { 0 = n } in t) same)

pub other_registered : (registry : Registry) (tx other : TxId) (voting : Voting) → (other ≡ tx → ⊥) → transaction_at (insert_entry nat_cmp registry tx.0 voting) other ≡ transaction_at registry other
other_registered registry tx other voting differ = lookup_inserted other.0 tx.0 voting (differ_in other tx differ) registry

pub other_with : (registry : Registry) (tx other : TxId) (o : Option Voting) → (other ≡ tx → ⊥) → transaction_at (with_transaction registry tx o) other ≡ transaction_at registry other
other_with registry tx other None differ = refl
other_with registry tx other (Some voting) differ = lookup_set other.0 tx.0 voting (differ_in other tx differ) registry

pub other_changed : (registry : Registry) (tx other : TxId) (becomes : Voting → Voting) → (other ≡ tx → ⊥) → transaction_at (with_changed registry tx becomes) other ≡ transaction_at registry other
other_changed registry tx other becomes differ = other_with registry tx other (option_map becomes (transaction_at registry tx)) differ

pub other_closed : (registry : Registry) (tx other : TxId) → (other ≡ tx → ⊥) → transaction_at (remove_entry (is_at (nat_cmp tx.0)) registry) other ≡ transaction_at registry other
other_closed registry tx other differ = lookup_removed other.0 tx.0 (record { voters = []; subs = [] }) (differ_in other tx differ) registry

-- where there is no transaction of a number, none is put in its place
pub put_nowhere : (registry : Registry) (tx : TxId) (voting : Voting) → transaction_at registry tx ≡ None
    → with_transaction registry tx (Some voting) ≡ registry
put_nowhere [] tx voting none = refl
put_nowhere (e ∷ es) tx voting none =
    elim (cases_Bool (is_at (nat_cmp tx.0) e.0)) [
      | inl t ↦ absurd (let found : Some e.1 ≡ None = rw t at none in cc)
      | inr f ↦ rw f (ap (λ (rest : Registry). e ∷ rest) (put_nowhere es tx voting (rw f at none)))
    ]

-- a refusal changes nothing

pub on_unless_err : {A : Type 0} (answer : Result A TxRefusal) (old new : Voting) → OnErr answer (unless_err answer old new ≡ old)
on_unless_err (Ok value) old new = tt
on_unless_err (Err refusal) old new = refl

written_same : {A : Type 0} (registry : Registry) (tx : TxId) (voting new : Voting) (answer : Result A TxRefusal) → transaction_at registry tx ≡ Some voting
    → OnErr answer (new ≡ voting) → OnErr answer (set_value (is_at (nat_cmp tx.0)) registry new ≡ registry)
written_same registry tx voting new (Ok value) there same = tt
written_same registry tx voting new (Err refusal) there same = rw same (set_value_same (is_at (nat_cmp tx.0)) registry voting there)

found_same : {A : Type 0} (registry : Registry) (tx : TxId) (becomes : Voting → Voting) (answer : Voting → Result A TxRefusal) (o : Option Voting) → transaction_at registry tx ≡ o
    → ((voting : Voting) → OnErr (answer voting) (becomes voting ≡ voting))
    → OnErr (answer_at o tx answer) (with_transaction registry tx (option_map becomes o) ≡ registry)
found_same registry tx becomes answer None there same = refl
found_same registry tx becomes answer (Some voting) there same = written_same registry tx voting (becomes voting) (answer voting) there (same voting)

pub refused_same : {A : Type 0} (registry new : Registry) (tx : TxId) (becomes : Voting → Voting) (answer : Voting → Result A TxRefusal) (result : Result A TxRefusal)
    → ((voting : Voting) → OnErr (answer voting) (becomes voting ≡ voting))
    → result ≡ answer_at (transaction_at registry tx) tx answer → new ≡ with_changed registry tx becomes → OnErr result (new ≡ registry)
refused_same registry new tx becomes answer result same is led =
    rw (is, led) (found_same registry tx becomes answer (transaction_at registry tx) refl same)
