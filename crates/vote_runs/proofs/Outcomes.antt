-- Once fixed, an outcome stays over every list of moves.
use Rattle.std.proofs.Common.{◌≡◌, ◌≤◌, ℕ, List, [], ◌∷◌, None, Some, sym, ◌∙◌, ap, subst, inl, inr}
use Rattle.std.specs.BTreeMap.{is_at}
use Rattle.std.specs.List.{AllByRecursion}
use Rattle.std.specs.Map.{lookup}
use Rattle.std.specs.Ordering.{nat_cmp}
use Rattle.px_base.specs.declared.ids.TxId.{TxId}
use Rattle.txmanager.proofs.CarryLemmas.{after_acts-append}
use Rattle.txmanager.proofs.LawLemmas.{keeps_outcome}
use Rattle.txmanager.proofs.RegistryLemmas.{found_is}
use Rattle.txmanager.specs.Readings.{outcome_in}
use Rattle.txmanager.specs.Registry.{Registry}
use Rattle.txmanager.specs.Rounds.{after_acts}
use Rattle.txmanager.specs.Voting.{Voting}
use Rattle.voters.specs.declared.outcome.Outcome.{Outcome}
use Rattle.voters.specs.declared.outcome.Outcome.TheVariants.{Open}
use Rattle.px_cluster.specs.Astray.{Move, MovesOn}
use Rattle.px_cluster.specs.Cluster.{Cluster}
use Rattle.px_cluster.specs.Core.{voting}
use Rattle.cluster_form.proofs.FormKept.{form_always}
use Rattle.cluster_form.proofs.Lists.{bool, some_is}
use Rattle.cluster_form.specs.Form.{HasForm}
use Rattle.vote_runs.specs.Acts.{IsLedOn, IsOfPoll}
use Rattle.vote_runs.specs.Outcomes.{OutcomesStay}
use Rattle.vote_runs.proofs.Transactions.{goes_on_by_acts, transactions_are_of_polls}

-- a transaction on record has a number that was given
module _ (last : ℕ) (tx : TxId) (vote : Voting) where
  pub given_so : (entries : Registry)
      → AllByRecursion (λ (entry : ℕ × Voting). entry.0 ≤ last) entries
      → lookup (is_at (nat_cmp tx.0)) entries ≡ Some vote → tx.0 ≤ last
  given_so [] given is = absurd (let none : None ≡ Some vote = is in cc)
  given_so (entry ∷ entries) given is = elim (bool (is_at (nat_cmp tx.0) entry.0)) [
    | inl holds ↦ subst (λ n. n ≤ last) (sym (found_is tx.0 entry.0 holds)) given.0
    | inr fails ↦ given_so entries given.1 (rw fails at is)
  ]

-- acts lead a transaction on that is on record in both
pub led_between : (more : List Move) (old new : Cluster) (tx : TxId) (before now : Voting)
    → HasForm old → MovesOn old more new → voting old.core tx ≡ Some before
    → voting new.core tx ≡ Some now → IsLedOn before now
led_between more old new tx before now form is there later =
    let was = goes_on_by_acts more old new tx now form is
    (given_so old.core.last_tx tx before old.core.transactions form.core.turns.numbers.given there)
    later in
    subst (λ v. IsLedOn v now) (some_is was.before before (sym was.there ∙ there)) was.led

-- what acts made of an opening, and then more acts
pub fixed_stays : (before now : Voting) (sub : ℕ) (outcome : Outcome) → IsOfPoll before
    → IsLedOn before now → (outcome ≡ Open → ⊥) → outcome_in sub before.subs ≡ Some outcome
    → outcome_in sub now.subs ≡ Some outcome
fixed_stays before now sub outcome is led fixed there =
    ap (outcome_in sub) (led.subs ∙ ap (after_acts led.acts) is.subs
    ∙ sym (after_acts-append is.acts led.acts _))
    ∙ keeps_outcome is.poll is.count sub is.acts led.acts outcome is.lawful fixed
    (ap (outcome_in sub) (sym is.subs) ∙ there)

-- so it stays over a run
pub outcomes_stay : OutcomesStay
outcomes_stay node moves more old new tx before now sub outcome first then_ there later fixed is =
    fixed_stays before now sub outcome
    (transactions_are_of_polls node moves old tx before first there)
    (led_between more old new tx before now (form_always node moves old first) then_ there later)
    fixed is
