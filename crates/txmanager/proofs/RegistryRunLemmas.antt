-- Each subtransaction of each registered transaction is what a list of calls on it alone leaves.
use Rattle.std.proofs.Common.{◌≡◌, ℕ, ◌+◌, List, [], ◌∷◌, Option, None, Some, Result, Ok, Err, ap, sym, ◌∙◌, inl, inr, refl, slice_get, subst}
use Rattle.std.specs.BTreeMap.{insert_entry, is_at}
use Rattle.std.specs.FinMap.{nat_cmp-IsAntisymmetric}
use Rattle.std.specs.List.{AllByRecursion, Contains, list_any}
use Rattle.std.specs.Map.{remove_entry, set_value}
use Rattle.std.specs.Option.{option_map}
use Rattle.std.specs.Ordering.{match_ordering, nat_cmp}
use Rattle.std.specs.declared.cmp.Ordering.{Ordering}
use Rattle.std.specs.declared.cmp.Ordering.TheVariants.{Less, Equal, Greater}
use Rattle.std.proofs.lemmas.Bool.{cases_Bool}
use Rattle.px_base.specs.declared.hash.Hash.{Hash}
use Rattle.px_base.specs.declared.ids.TxId.{TxId}
use Rattle.px_base.specs.declared.phase.Phase.{Phase}
use Rattle.voters.specs.Panel.{IsPanel, Roster, poll_of}
use Rattle.voters.specs.Refusals.{cancel_refusal, cast_refusal}
use Rattle.voters.specs.Results.{result_at}
use Rattle.voters.specs.Votes.{Poll, Votes, after, start}
use Rattle.voters.specs.declared.act.Act.TheVariants as act
use Rattle.voters.specs.declared.voter_result.VoterResult.{VoterResult}
use Rattle.voters.proofs.CallLemmas.{all_threshold}
use Rattle.txmanager.specs.Calls.{Call, AreOfPanels, IsCastOn, IsOfPanel, all_called, called, poll_in}
use Rattle.txmanager.specs.Calls as call
use Rattle.txmanager.specs.Chain.{IsChain}
use Rattle.txmanager.specs.Registry.{Registry, are_lawful_rounds, transaction_at, with_transaction}
use Rattle.txmanager.specs.Rounds.{TxAct, current}
use Rattle.txmanager.specs.Rounds as tx
use Rattle.txmanager.specs.Runs.{IsAcceptedAct, IsByRule, IsNotRefused, IsRun}
use Rattle.txmanager.specs.VoterCalls.{after_cancel_voter, after_cast, cancel_answer_by, cancel_in_current, cast_answer_by, cast_in_current, cast_in_sub, numbered, of_cancel, of_cast, phase_of, phase_refusal, unless_refused}
use Rattle.txmanager.specs.Voting.{Voting, after_stop, can_stop, counted, number_of, unless_err, voting_on, with_act, with_act_by}
use Rattle.txmanager.specs.declared.refusal.TxRefusal.{TxRefusal}
use Rattle.txmanager.proofs.CarryLemmas.{act_step, opened_chain, panel_poll}
use Rattle.txmanager.proofs.LawLemmas.{all_at}
use Rattle.txmanager.proofs.RegistryLemmas.{found_is}
use Rattle.txmanager.proofs.RunLemmas.{AllRun, MadeBy, at_head, in_tail, run_by_rule, runs_act, runs_opened}

-- the transaction is of a panel, and each subtransaction is a run of calls on it alone
record IsVoting (calls : List Call) (number : TxId) (voting : Voting) : Type 0 where
  threshold : ℕ
  panel : IsPanel voting.voters threshold
  chain : IsChain voting.subs
  runs : AllRun (IsCastOn calls number voting.voters) (poll_of (record { voters = voting.voters; threshold = threshold })) voting.subs

acted_voting : (calls : List Call) (number : TxId) (voting : Voting) (a : TxAct) → IsVoting calls number voting → IsAcceptedAct voting.subs a → MadeBy (IsCastOn calls number voting.voters) a → IsVoting calls number (with_act voting a)
acted_voting calls number voting a is accepted made = record {
  threshold = is.threshold;
  panel = is.panel;
  chain = (act_step a voting.subs is.chain).chain;
  runs = runs_act (IsCastOn calls number voting.voters) (poll_of (record { voters = voting.voters; threshold = is.threshold })) a voting.subs is.chain is.runs accepted made;
}

-- what is answered and not refused is accepted

none_of : {A E F : Type 0} (o : Option E) (f : E → F) (r : Result A F) (x : A) → unless_refused (option_map f o) r ≡ Ok x → o ≡ None
none_of None f r x e = refl
none_of (Some c) f r x e = absurd (cc)

counted_ok : (o : Option TxRefusal) (number : ℕ) (r : Result VoterResult TxRefusal) (x : ℕ × VoterResult) → unless_refused o (numbered number r) ≡ Ok x → (y : VoterResult) × (r ≡ Ok y)
counted_ok None number (Ok y) x e = (y, refl)
counted_ok None number (Err c) x e = absurd (cc)
counted_ok (Some c) number r x e = absurd (cc)

cast_ok : (name : List ℕ) (phase : Phase) (v : ℕ) (hash : Hash) (at : ℕ) (o : Option Votes) (x : ℕ × VoterResult) → cast_in_current name phase v hash at o ≡ Ok x → IsNotRefused (λ sub. cast_refusal sub v) o
cast_ok name phase v hash at None x e = absurd (cc)
cast_ok name phase v hash at (Some sub) x e =
    let r = counted_ok (phase_refusal phase (phase_of at)) (at + 1) (cast_in_sub name v hash sub) x e in
    none_of (cast_refusal sub v) (of_cast name) (counted name (result_at (after sub (act.Cast v hash)) v)) r.0 r.1

cancel_ok : (name : List ℕ) (v : ℕ) (o : Option Votes) (x : Unit {0}) → cancel_in_current name v o ≡ Ok x → IsNotRefused (λ sub. cancel_refusal sub v) o
cancel_ok name v None x e = absurd (cc)
cancel_ok name v (Some sub) x e = none_of (cancel_refusal sub v) (of_cancel name) (Ok tt) x e

-- each call on a transaction

module _ (calls : List Call) (number : TxId) (voting : Voting) (is : IsVoting calls number voting) where
  cast_by : (name : List ℕ) (phase : Phase) (hash : Hash) (o : Option ℕ) (r : Result (ℕ × VoterResult) TxRefusal) → Contains calls (call.Cast number name phase hash) → number_of name voting ≡ o
      → cast_answer_by name phase hash voting.subs o ≡ r → IsVoting calls number (unless_err r voting (with_act_by voting o (λ v. tx.Cast v hash)))
  cast_by name phase hash o (Err e) made there answer = is
  cast_by name phase hash None (Ok x) made there answer = is
  cast_by name phase hash (Some v) (Ok x) made there answer =
      acted_voting calls number voting (tx.Cast v hash) is (cast_ok name phase v hash (current v voting.subs) (slice_get voting.subs (current v voting.subs)) x answer)
      (record { name = name; phase = phase; there = made; by = there })

  cancel_by : (name : List ℕ) (o : Option ℕ) (r : Result (Unit {0}) TxRefusal) → cancel_answer_by name voting.subs o ≡ r → IsVoting calls number (unless_err r voting (with_act_by voting o tx.CancelVoter))
  cancel_by name o (Err e) answer = is
  cancel_by name None (Ok x) answer = is
  cancel_by name (Some v) (Ok x) answer =
      acted_voting calls number voting (tx.CancelVoter v) is (cancel_ok name v (slice_get voting.subs (current v voting.subs)) x answer) tt

  cast_voting : (name : List ℕ) (phase : Phase) (hash : Hash) → Contains calls (call.Cast number name phase hash) → IsVoting calls number (after_cast name phase hash voting)
  cast_voting name phase hash made =
      cast_by name phase hash (number_of name voting) (cast_answer_by name phase hash voting.subs (number_of name voting)) made refl refl

  cancel_voting : (name : List ℕ) → IsVoting calls number (after_cancel_voter name voting)
  cancel_voting name = cancel_by name (number_of name voting) (cancel_answer_by name voting.subs (number_of name voting)) refl

  stop_voting : IsVoting calls number (after_stop voting)
  stop_voting =
      elim (cases_Bool (list_any can_stop voting.subs)) [
        | inl t ↦ rw t (acted_voting calls number voting tx.Stop is t tt)
        | inr f ↦ rw f is
      ]

-- a transaction that is registered
new_voting : (calls : List Call) (number : TxId) (panel : Roster) (rounds : ℕ) → IsPanel panel.voters panel.threshold → IsVoting calls number (voting_on panel rounds)
new_voting calls number panel rounds is = record {
  threshold = panel.threshold;
  panel = is;
  chain = opened_chain (poll_of panel) _ (panel_poll panel.voters panel.threshold is);
  runs = runs_opened (IsCastOn calls number panel.voters) (poll_of panel) _;
}

-- each transaction beside its number
abbrev AllVoting : List Call → Registry → Type 0
AllVoting calls registry = AllByRecursion (λ entry. IsVoting calls (record { 0 = entry.0 }) entry.1) registry

-- a number that is equal
abbrev numbered_by : ℕ → TxId
numbered_by n = record { 0 = n }

module _ (calls : List Call) (number : TxId) where
  under : (n : ℕ) (voting : Voting) → number.0 ≡ n → IsVoting calls number voting → IsVoting calls (numbered_by n) voting
  under n voting same is = subst (λ (m : ℕ). IsVoting calls (numbered_by m) voting) same is

  found : (registry : Registry) (voting : Voting) → AllVoting calls registry → transaction_at registry number ≡ Some voting → IsVoting calls number voting
  found [] voting all there = absurd (cc)
  found (e ∷ es) voting all there =
      elim (cases_Bool (is_at (nat_cmp number.0) e.0)) [
        | inl t ↦
            (let at : Some e.1 ≡ Some voting = rw t at there in
            let value : e.1 ≡ voting = cc in
            let here : IsVoting calls number e.1 = subst (λ (m : ℕ). IsVoting calls (numbered_by m) e.1) (sym (found_is number.0 e.0 t)) all.0 in
            subst (λ (v : Voting). IsVoting calls number v) value here)
        | inr f ↦ found es voting all.1 (rw f at there)
      ]

  set_voting : (registry : Registry) (voting : Voting) → IsVoting calls number voting → AllVoting calls registry → AllVoting calls (set_value (is_at (nat_cmp number.0)) registry voting)
  set_voting [] voting is all = tt
  set_voting (e ∷ es) voting is all =
      elim (cases_Bool (is_at (nat_cmp number.0) e.0)) [
        | inl t ↦ rw t (under e.0 voting (found_is number.0 e.0 t) is, all.1)
        | inr f ↦ rw f (all.0, set_voting es voting is all.1)
      ]

  insert_by : (r : Ordering) (e : ℕ × Voting) (es inserted : Registry) (voting : Voting) → nat_cmp number.0 e.0 ≡ r → IsVoting calls number voting → AllVoting calls (e ∷ es) → AllVoting calls inserted
      → AllVoting calls (match_ordering r ((number.0, voting) ∷ e ∷ es) ((e.0, voting) ∷ es) (e ∷ inserted))
  insert_by Less e es inserted voting at is all rest = (is, all)
  insert_by Equal e es inserted voting at is all rest = (under e.0 voting (nat_cmp-IsAntisymmetric number.0 e.0 at) is, all.1)
  insert_by Greater e es inserted voting at is all rest = (all.0, rest)

  registered_voting : (registry : Registry) (voting : Voting) → IsVoting calls number voting → AllVoting calls registry → AllVoting calls (insert_entry nat_cmp registry number.0 voting)
  registered_voting [] voting is all = (is, tt)
  registered_voting (e ∷ es) voting is all =
      insert_by (nat_cmp number.0 e.0) e es (insert_entry nat_cmp es number.0 voting) voting refl is all (registered_voting es voting is all.1)

  closed_voting : (registry : Registry) → AllVoting calls registry → AllVoting calls (remove_entry (is_at (nat_cmp number.0)) registry)
  closed_voting [] all = tt
  closed_voting (e ∷ es) all =
      elim (cases_Bool (is_at (nat_cmp number.0) e.0)) [
        | inl t ↦ rw t all.1
        | inr f ↦ rw f (all.0, closed_voting es all.1)
      ]

  becomes_voting : (registry : Registry) (becomes : Voting → Voting) (o : Option Voting) → transaction_at registry number ≡ o → ((voting : Voting) → IsVoting calls number voting → IsVoting calls number (becomes voting))
      → AllVoting calls registry → AllVoting calls (with_transaction registry number (option_map becomes o))
  becomes_voting registry becomes None there step all = all
  becomes_voting registry becomes (Some voting) there step all = set_voting registry (becomes voting) (step voting (found registry voting all there)) all

-- a call that is among the calls
called_voting : (calls : List Call) (c : Call) (registry : Registry) → IsOfPanel c → Contains calls c → AllVoting calls registry → AllVoting calls (called registry c)
called_voting calls (call.Register number panel rounds) registry is among all =
    elim (cases_Bool (are_lawful_rounds rounds)) [
      | inl t ↦ rw t (registered_voting calls number registry (voting_on panel rounds) (new_voting calls number panel rounds is) all)
      | inr f ↦ rw f all
    ]
called_voting calls (call.Cast number name phase hash) registry is among all =
    becomes_voting calls number registry (after_cast name phase hash) (transaction_at registry number) refl (λ voting here. cast_voting calls number voting here name phase hash among) all
called_voting calls (call.CancelVoter number name) registry is among all =
    becomes_voting calls number registry (after_cancel_voter name) (transaction_at registry number) refl (λ voting here. cancel_voting calls number voting here name) all
called_voting calls (call.Cancel number) registry is among all =
    becomes_voting calls number registry (λ voting. with_act voting tx.Cancel) (transaction_at registry number) refl (λ voting here. acted_voting calls number voting tx.Cancel here tt tt) all
called_voting calls (call.Stop number) registry is among all =
    becomes_voting calls number registry after_stop (transaction_at registry number) refl (λ voting here. stop_voting calls number voting here) all
called_voting calls (call.Close number) registry is among all = closed_voting calls number registry all

all_voting : (calls more : List Call) (registry : Registry) → AreOfPanels more → ((c : Call) → Contains more c → Contains calls c) → AllVoting calls registry → AllVoting calls (all_called more registry)
all_voting calls [] registry are among all = all
all_voting calls (c ∷ more) registry are among all =
    all_voting calls more (called registry c) are.1 (λ d there. among d (in_tail c d more there)) (called_voting calls c registry are.0 (among c (at_head c more)) all)

-- after any calls
pub calls_by_rule : (calls : List Call) (number : TxId) (voting : Voting) (i : ℕ) (sub : Votes) → AreOfPanels calls → transaction_at (all_called calls []) number ≡ Some voting → slice_get voting.subs i ≡ Some sub
    → IsPanel voting.voters sub.threshold × IsByRule (IsCastOn calls number voting.voters) (poll_in voting sub) sub
calls_by_rule calls number voting i sub are there at =
    let Made = IsCastOn calls number voting.voters in
    let is : IsVoting calls number voting = found calls number (all_called calls []) voting (all_voting calls calls [] are (λ c among. among) tt) there in
    let poll : Poll = poll_of (record { voters = voting.voters; threshold = is.threshold }) in
    let run : IsRun Made poll sub = all_at (λ x. IsRun Made poll x) voting.subs i sub is.runs at in
    let same : sub.threshold ≡ is.threshold = ap (λ (v : Votes). v.threshold) run.is ∙ all_threshold run.calls (start poll) in
    subst (λ (t : ℕ). IsPanel voting.voters t × IsByRule Made (poll_of (record { voters = voting.voters; threshold = t })) sub) (sym same)
    (is.panel, run_by_rule Made poll sub (panel_poll voting.voters is.threshold is.panel) run)
