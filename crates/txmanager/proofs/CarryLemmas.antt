-- What the carrying over leaves as it was, in each subtransaction, and so what an act leaves.
use Rattle.std.proofs.Common.{◌≡◌, ℕ, ◌+◌, List, [], ◌∷◌, ◌++◌, true, false, Some, arith, ap, sym, ◌∙◌, inl, inr, refl, slice_get, zero, suc, map, ◌||◌, length, ◌≤◌}
use Rattle.std.specs.List.{AllByRecursion}
use Rattle.std.proofs.lemmas.Bool.{cases_Bool, false≢true, true≢false}
use Rattle.std.proofs.lemmas.List.Sums.{sum-map}
use Rattle.px_base.specs.declared.voter.Voter.{Voter}
use Rattle.voters.specs.Marks.{voter_weight}
use Rattle.voters.specs.Panel.{IsPanel, Roster, poll_of}
use Rattle.voters.specs.Refusals.{is_stopped}
use Rattle.voters.specs.Results.{result_of, is_committed, committed_in, has_vote}
use Rattle.voters.specs.Rule.{IsPoll}
use Rattle.voters.specs.Sub.{IsSound}
use Rattle.voters.specs.Votes.{Poll, Votes, blank, start}
use Rattle.voters.specs.declared.mark.Mark.{Mark}
use Rattle.voters.specs.declared.voter_result.VoterResult.{VoterResult}
use Rattle.voters.specs.declared.voter_result.VoterResult.TheVariants as result
use Rattle.voters.proofs.KeepLemmas.{KeepsVoters, NoneCommitted, cancel_kept, committed_voted, keeps_voters-trans, none_committed-kept, voters_kept}
use Rattle.voters.proofs.MarkRuleLemmas.{start_sound}
use Rattle.txmanager.specs.Chain.{Follows, IsChain, IsRounds}
use Rattle.txmanager.specs.Rounds.{TxAct, acted, after_act, after_acts, carried, carried_over, is_gone, is_out, opened, out_from, out_of, without, without_all}
use Rattle.txmanager.proofs.ActLemmas.{acted_step}
use Rattle.txmanager.proofs.ChainLemmas.{KeepEach, KeepEachVotes, Step, chain_kept, from_kept, keep_each-all, keep_each_votes-all, keep_each_votes-trans, step-trans}

without_kept : (v : ℕ) (x : Votes) → IsSound x → committed_in v x ≡ false → KeepsVoters x (without v x)
without_kept v x sound not =
    elim (cases_Bool (is_stopped x.outcome || is_gone (slice_get x.marks v))) [
      | inl t ↦ rw t (voters_kept x sound)
      | inr f ↦ rw f (cancel_kept x v sound not)
    ]

pub without_all_kept : (vs : List ℕ) (x : Votes) → IsSound x → NoneCommitted x vs → KeepsVoters x (without_all vs x)
without_all_kept [] x sound none = voters_kept x sound
without_all_kept (v ∷ vs) x sound none =
    let k : KeepsVoters x (without v x) = without_kept v x sound none.0 in
    keeps_voters-trans x (without v x) (without_all vs (without v x)) k
    (without_all_kept vs (without v x) k.votes.keeps.sound (none_committed-kept x (without v x) vs k none.1))

-- who is out is not committed
pub out_uncommitted : (r : VoterResult) → is_out r ≡ true → is_committed r ≡ false
out_uncommitted result.Open t = refl
out_uncommitted (result.Committed s) t = absurd (false≢true t)
out_uncommitted result.Failed t = refl
out_uncommitted result.Canceled t = refl
out_uncommitted result.Stopped t = refl

out_none : (x : Votes) (bs : List Mark) (i : ℕ) → ((k : ℕ) → slice_get bs k ≡ slice_get x.marks (i + k)) → NoneCommitted x (out_from x i bs)
out_none x [] i at = tt
out_none x (b ∷ bs) i at =
    let there : slice_get x.marks i ≡ Some b = ap (λ (n : ℕ). slice_get x.marks n) (let z : i ≡ i + 0 = omega arith in z) ∙ sym (at 0) in
    let rest : NoneCommitted x (out_from x (i + 1) bs) = out_none x bs (i + 1) (λ k. at (suc k) ∙ ap (λ (n : ℕ). slice_get x.marks n) (let z : i + suc k ≡ i + 1 + k = omega arith in z)) in
    elim (cases_Bool (is_out (result_of x b))) [
      | inl t ↦ rw t (rw there (out_uncommitted (result_of x b) t), rest)
      | inr f ↦ rw f rest
    ]

pub out_of_none : (x : Votes) → NoneCommitted x (out_of x)
out_of_none x = out_none x x.marks 0 (λ k. ap (λ (n : ℕ). slice_get x.marks n) (let z : k ≡ 0 + k = omega arith in z))

-- who is not committed in the earlier one is not in a later one, where it can not have voted
uncommitted_next : (x next : Votes) (v : ℕ) → Follows x next → committed_in v x ≡ false → committed_in v next ≡ false
uncommitted_next x next v follows not =
    elim (cases_Bool (committed_in v next)) [
      | inl t ↦ absurd (true≢false (sym (follows v (committed_voted v next t)) ∙ not))
      | inr f ↦ f
    ]

pub none_next : (x next : Votes) (vs : List ℕ) → Follows x next → NoneCommitted x vs → NoneCommitted next vs
none_next x next [] follows none = tt
none_next x next (v ∷ vs) follows none = (uncommitted_next x next v follows none.0, none_next x next vs follows none.1)

-- who is out of one is canceled in each later one
pub without_each_kept : (x : Votes) (xs : List Votes) → AllByRecursion (λ next. Follows x next) xs → IsChain xs → KeepEachVotes xs (map (without_all (out_of x)) xs)
without_each_kept x [] follow is = tt
without_each_kept x (y ∷ ys) follow is = (
  (without_all_kept (out_of x) y is.0 (none_next x y (out_of x) follow.0 (out_of_none x))).votes,
  without_each_kept x ys follow.1 is.2,
)

pub carried_over_kept : (n : ℕ) (xs : List Votes) → IsChain xs → KeepEachVotes xs (carried_over n xs)
carried_over_kept zero xs is = keep_each_votes-all xs is
carried_over_kept (suc n) [] is = tt
carried_over_kept (suc n) (x ∷ xs) is =
    let later : List Votes = map (without_all (out_of x)) xs in
    let k : KeepEachVotes xs later = without_each_kept x xs is.1 is.2 in
    ((voters_kept x is.0).votes, keep_each_votes-trans xs later (carried_over n later) k (carried_over_kept n later (chain_kept xs later k is.2)))

-- an act, and any acts

pub act_step : (a : TxAct) (xs : List Votes) → IsChain xs → Step xs (after_act xs a)
act_step a xs is =
    let s : Step xs (acted a xs) = acted_step a xs is in
    step-trans xs (acted a xs) (carried (acted a xs)) s (from_kept (acted a xs) (carried (acted a xs)) s.chain (carried_over_kept (length (acted a xs)) (acted a xs) s.chain))

pub acts_step : (acts : List TxAct) (xs : List Votes) → IsChain xs → Step xs (after_acts acts xs)
acts_step [] xs is = record { keeps = keep_each-all xs is; chain = is }
acts_step (a ∷ acts) xs is =
    let s : Step xs (after_act xs a) = act_step a xs is in
    step-trans xs (after_act xs a) (after_acts acts (after_act xs a)) s (acts_step acts (after_act xs a) s.chain)

pub after_acts-append : (acts more : List TxAct) (xs : List Votes) → after_acts (acts ++ more) xs ≡ after_acts more (after_acts acts xs)
after_acts-append [] more xs = refl
after_acts-append (a ∷ acts) more xs = after_acts-append acts more (after_act xs a)

-- before any act

none_voted : (ws : List ℕ) (v : ℕ) → has_vote (slice_get (map blank ws) v) ≡ false
none_voted [] v = refl
none_voted (w ∷ ws) zero = refl
none_voted (w ∷ ws) (suc v) = none_voted ws v

opened_follows : (poll : Poll) (sub : Votes) (n : ℕ) → AllByRecursion (λ next. Follows sub next) (opened poll n)
opened_follows poll sub zero = tt
opened_follows poll sub (suc n) = (λ v e. absurd (false≢true (sym (none_voted poll.weights v) ∙ e)), opened_follows poll sub n)

pub opened_chain : (poll : Poll) (n : ℕ) → IsPoll poll → IsChain (opened poll n)
opened_chain poll zero is = tt
opened_chain poll (suc n) is = (start_sound poll is, opened_follows poll (start poll) n, opened_chain poll n is)

-- how many they are stays

length-kept : (xs ys : List Votes) → KeepEach xs ys → length ys ≡ length xs
length-kept [] [] k = refl
length-kept [] (y ∷ ys) k = absurd k
length-kept (x ∷ xs) [] k = absurd k
length-kept (x ∷ xs) (y ∷ ys) k = ap suc (length-kept xs ys k.1)

pub rounds_kept : (a : TxAct) (xs : List Votes) → IsRounds xs → IsRounds (after_act xs a)
rounds_kept a xs is =
    let s : Step xs (after_act xs a) = act_step a xs is.chain in
    record { chain = s.chain; few = omega (arith, length-kept xs (after_act xs a) s.keeps, is.few) }

length-opened : (poll : Poll) (n : ℕ) → length (opened poll n) ≡ n
length-opened poll zero = refl
length-opened poll (suc n) = ap suc (length-opened poll n)

pub opened_rounds : (poll : Poll) (n : ℕ) → IsPoll poll → n ≤ 16 → IsRounds (opened poll n)
opened_rounds poll n is few = record { chain = opened_chain poll n is; few = omega (arith, length-opened poll n, few) }

-- what a panel votes by
pub panel_poll : (voters : List Voter) (threshold : ℕ) → IsPanel voters threshold → let roster : Roster = record { voters = voters; threshold = threshold } in IsPoll (poll_of roster)
panel_poll voters threshold is = record {
  reachable = omega (arith, is.reachable, sum-map voter_weight voters);
  most = omega (arith, is.most, sum-map voter_weight voters);
}
