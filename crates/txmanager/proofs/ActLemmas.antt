-- What an act itself leaves as it was, in each subtransaction.
use Rattle.std.proofs.Common.{◌≡◌, ℕ, List, [], ◌∷◌, true, ap, sym, ◌∙◌, inl, inr, zero, suc, map, Option, None, Some}
use Rattle.std.specs.List.{AllByRecursion}
use Rattle.std.proofs.lemmas.Bool.{cases_Bool}
use Rattle.px_base.specs.declared.hash.Hash.{Hash}
use Rattle.voters.specs.Calls.{all_canceled, unless_refused}
use Rattle.voters.specs.Refusals.{stop_refusal}
use Rattle.voters.specs.Results.{committed_in}
use Rattle.voters.specs.Sub.{IsSound}
use Rattle.voters.specs.Votes.{Votes, after, changed_at}
use Rattle.voters.specs.declared.act.Act.TheVariants as act
use Rattle.voters.specs.declared.sub.StopRefusal.{StopRefusal}
use Rattle.voters.proofs.KeepLemmas.{Keeps, KeepsVotes, all_canceled-kept, cancel_kept, cast_kept, cast_voted, keeps_all, same_index, same_index-is, stop_votes, votes_kept}
use Rattle.txmanager.specs.Chain.{Follows, IsChain}
use Rattle.txmanager.specs.Rounds.{TxAct, Cast, CancelVoter, Cancel, Stop, acted, current, stopped}
use Rattle.txmanager.proofs.ChainLemmas.{KeepEachVotes, Step, follows_kept, from_kept, keep_each-all, keep_each_votes-all}

-- a cast by a voter that is committed in the earlier one
follows_cast : (a : Votes) (v : ℕ) (h : Hash) (n : ℕ) (xs : List Votes) → committed_in v a ≡ true → AllByRecursion (λ next. Follows a next) xs → AllByRecursion (λ next. Follows a next) (changed_at n (λ sub. after sub (act.Cast v h)) xs)
follows_cast a v h n [] is all = tt
follows_cast a v h zero (x ∷ xs) is all = (
  λ w e. elim (cases_Bool (same_index v w)) [
    | inl t ↦ ap (λ (m : ℕ). committed_in m a) (sym (same_index-is v w t)) ∙ is
    | inr f ↦ all.0 w (sym (cast_voted w v h x f) ∙ e)
  ],
  all.1,
)
follows_cast a v h (suc n) (x ∷ xs) is all = (all.0, follows_cast a v h n xs is all.1)

-- a cast in the voter's current subtransaction
pub cast_acted : (v : ℕ) (h : Hash) (xs : List Votes) → IsChain xs → Step xs (changed_at (current v xs) (λ sub. after sub (act.Cast v h)) xs)
cast_acted v h [] is = record { keeps = tt; chain = tt }
cast_acted v h (x ∷ xs) is =
    elim (cases_Bool (committed_in v x)) [
      | inl t ↦
          (let rest : Step xs (changed_at (current v xs) (λ sub. after sub (act.Cast v h)) xs) = cast_acted v h xs is.2 in
          rw t (record { keeps = (keeps_all x is.0, rest.keeps); chain = (is.0, follows_cast x v h (current v xs) xs t is.1, rest.chain) }))
      | inr f ↦
          (let k : Keeps x (after x (act.Cast v h)) = cast_kept x v h is.0 in
          rw f (record { keeps = (k, keep_each-all xs is.2); chain = (k.sound, follows_kept x (after x (act.Cast v h)) xs k is.1, is.2) }))
    ]

-- a cancel in the voter's current subtransaction
cancel_acted : (v : ℕ) (xs : List Votes) → IsChain xs → KeepEachVotes xs (changed_at (current v xs) (λ sub. after sub (act.Cancel v)) xs)
cancel_acted v [] is = tt
cancel_acted v (x ∷ xs) is =
    elim (cases_Bool (committed_in v x)) [
      | inl t ↦ rw t (votes_kept x is.0, cancel_acted v xs is.2)
      | inr f ↦ rw f ((cancel_kept x v is.0 f).votes, keep_each_votes-all xs is.2)
    ]

-- a cancel of who is undecided in each
all_canceled_acted : (xs : List Votes) → IsChain xs → KeepEachVotes xs (map all_canceled xs)
all_canceled_acted [] is = tt
all_canceled_acted (x ∷ xs) is = ((all_canceled-kept x is.0).votes, all_canceled_acted xs is.2)

stopped_by : (o : Option StopRefusal) (x : Votes) → IsSound x → KeepsVotes x (unless_refused o x act.Stop)
stopped_by None x sound = stop_votes x sound
stopped_by (Some e) x sound = votes_kept x sound

-- a stop of each that is open
stopped_acted : (xs : List Votes) → IsChain xs → KeepEachVotes xs (map stopped xs)
stopped_acted [] is = tt
stopped_acted (x ∷ xs) is = (stopped_by (stop_refusal x) x is.0, stopped_acted xs is.2)

pub acted_step : (a : TxAct) (xs : List Votes) → IsChain xs → Step xs (acted a xs)
acted_step (Cast v h) xs is = cast_acted v h xs is
acted_step (CancelVoter v) xs is = from_kept xs _ is (cancel_acted v xs is)
acted_step Cancel xs is = from_kept xs _ is (all_canceled_acted xs is)
acted_step Stop xs is = from_kept xs _ is (stopped_acted xs is)
