-- A cast that nothing refuses: which voter casts, in which of the two phases, and what it leaves.
use Rattle.std.proofs.Common.{◌≡◌, ◌⊎◌, ℕ, List, [], ◌∷◌, true, false, Option, None, Some, Result, Ok, Err, refl, ◌∙◌, ap, inl, inr, slice_get}
use Rattle.std.specs.Option.{option_map}
use Rattle.px_base.specs.declared.hash.Hash.{Hash}
use Rattle.px_base.specs.declared.phase.Phase.{Phase}
use Rattle.px_base.specs.declared.phase.Phase.TheVariants.{Prepared, Committed}
use Rattle.txmanager.specs.Rounds.{Cast, after_act, current, out_of, without_all}
use Rattle.txmanager.specs.VoterCalls.{after_cast, cast_answer, cast_answer_by, cast_in_current, cast_in_sub, numbered, of_cast, phase_of, phase_refusal, unless_refused}
use Rattle.txmanager.specs.Voting.{Voting, number_of, unless_err, with_act, with_act_by}
use Rattle.txmanager.specs.declared.refusal.TxRefusal.{TxRefusal}
use Rattle.txmanager.specs.declared.refusal.TxRefusal.TheVariants.{NotAVoter, Finished}
use Rattle.voters.specs.Refusals.{cast_refusal}
use Rattle.voters.specs.Results.{committed_in}
use Rattle.voters.specs.Votes.{Votes, after}
use Rattle.voters.specs.declared.act.Act.TheVariants as act
use Rattle.voters.specs.declared.sub.CastRefusal.{CastRefusal}
use Rattle.voters.specs.declared.voter_result.VoterResult.{VoterResult}
use Rattle.px_cluster.specs.Refusals.{refusal_in}
use Rattle.cluster_form.proofs.Lists.{bool}
use Rattle.vote_steps.proofs.Accepted.{led_on, never_refused}

-- ---- what is no refusal

-- a number beside a result refuses nothing
unnumbered : (number : ℕ) (answer : Result VoterResult TxRefusal)
    → refusal_in (numbered number answer) ≡ None → refusal_in answer ≡ None
unnumbered number (Ok result) none = refl
unnumbered number (Err why) none = never_refused why none

-- neither the cause nor the answer refuses
unrefused : {A : Type 0} (why : Option TxRefusal) (answer : Result A TxRefusal)
    → refusal_in (unless_refused why answer) ≡ None
    → (why ≡ None) × (refusal_in answer ≡ None)
unrefused None answer none = (refl, none)
unrefused (Some why) answer none = never_refused why none

-- a cause by its own name
unmapped : (name : List ℕ) (why : Option CastRefusal) → option_map (of_cast name) why ≡ None
    → why ≡ None
unmapped name None none = refl
unmapped name (Some why) none = absurd (let z : Some (of_cast name why) ≡ None = none in cc)

-- ---- the voter

pub record IsCounted (name : List ℕ) (phase : Phase) (hash : Hash) (vote : Voting) : Type 0 where
  pub voter : ℕ
  pub number : number_of name vote ≡ Some voter
  pub accepted : refusal_in (cast_in_current name phase voter hash (current voter vote.subs)
      (slice_get vote.subs (current voter vote.subs))) ≡ None
  pub leaves : after_cast name phase hash vote ≡ with_act vote (Cast voter hash)

-- who casts is a voter
pub counted : (name : List ℕ) (phase : Phase) (hash : Hash) (vote : Voting)
    → refusal_in (cast_answer name phase hash vote) ≡ None → IsCounted name phase hash vote
counted name phase hash vote none = by (number_of name vote) refl none
  where
    by : (voter : Option ℕ) → number_of name vote ≡ voter
        → refusal_in (cast_answer_by name phase hash vote.subs voter) ≡ None
        → IsCounted name phase hash vote
    by None is accepted = never_refused (NotAVoter name) accepted
    by (Some voter) is accepted = record {
      voter = voter;
      number = is;
      accepted = accepted;
      leaves = ap (λ o. unless_err (cast_answer_by name phase hash vote.subs o) vote
          (with_act_by vote o (λ n. Cast n hash))) is
          ∙ led_on (cast_answer_by name phase hash vote.subs (Some voter)) vote
          (with_act vote (Cast voter hash)) accepted;
    }

-- ---- the phase, of two

pub record IsInFirst (phase : Phase) (first : Votes) (voter : ℕ) : Type 0 where
  pub phase_ : phase ≡ Prepared
  pub untold : committed_in voter first ≡ false

pub record IsInSecond (phase : Phase) (first second : Votes) (voter : ℕ) : Type 0 where
  pub phase_ : phase ≡ Committed
  pub told : committed_in voter first ≡ true
  pub new : committed_in voter second ≡ false
  pub counts : cast_refusal second voter ≡ None

-- a phase that is not refused is the due one
prepared_due : (phase : Phase) → phase_refusal phase Prepared ≡ None → phase ≡ Prepared
prepared_due Prepared none = refl
prepared_due Committed none = absurd (cc)

committed_due : (phase : Phase) → phase_refusal phase Committed ≡ None → phase ≡ Committed
committed_due Prepared none = absurd (cc)
committed_due Committed none = refl

-- the vote counts in its subtransaction
counted_there : (name : List ℕ) (voter : ℕ) (hash : Hash) (votes : Votes)
    → refusal_in (cast_in_sub name voter hash votes) ≡ None → cast_refusal votes voter ≡ None
counted_there name voter hash votes none = unmapped name (cast_refusal votes voter)
    (unrefused (option_map (of_cast name) (cast_refusal votes voter)) _ none).0

module _ (name : List ℕ) (phase : Phase) (hash : Hash) (first second : Votes) (voter : ℕ) where
  abbrev subs : List Votes
  subs = first ∷ second ∷ []

  -- who is not told votes in the prepared phase
  in_first : committed_in voter first ≡ false
      → refusal_in (cast_in_current name phase voter hash 0 (Some first)) ≡ None
      → IsInFirst phase first voter
  in_first untold none = record {
    phase_ = prepared_due phase (unrefused (phase_refusal phase (phase_of 0)) _ none).0;
    untold = untold;
  }

  -- who is told, and has no result in the committed phase, votes there
  in_second : committed_in voter first ≡ true → committed_in voter second ≡ false
      → refusal_in (cast_in_current name phase voter hash 1 (Some second)) ≡ None
      → IsInSecond phase first second voter
  in_second told new none =
      let parts = unrefused (phase_refusal phase (phase_of 1)) _ none in
      record {
        phase_ = committed_due phase parts.0;
        told = told;
        new = new;
        counts = counted_there name voter hash second (unnumbered 2 _ parts.1);
      }

  -- there is no third phase
  pub in_either : refusal_in (cast_in_current name phase voter hash (current voter subs)
      (slice_get subs (current voter subs))) ≡ None
      → IsInFirst phase first voter ⊎ IsInSecond phase first second voter
  in_either none = elim (bool (committed_in voter first)) [
    | inr untold ↦ inl (in_first untold (rw untold at none))
    | inl told ↦ elim (bool (committed_in voter second)) [
      | inr new ↦ inr (in_second told new (rw new at (rw told at none)))
      | inl done ↦ (let past : refusal_in (cast_in_current name phase voter hash 2 None) ≡ None =
          rw done at (rw told at none) in never_refused Finished past)
    ]
  ]

-- ---- what it leaves in the two phases

module _ (first second : Votes) (voter : ℕ) (hash : Hash) where
  -- .. in the prepared phase
  pub cast_first : committed_in voter first ≡ false
      → after_act (first ∷ second ∷ []) (Cast voter hash)
      ≡ after first (act.Cast voter hash)
      ∷ without_all (out_of (after first (act.Cast voter hash))) second ∷ []
  cast_first untold = rw untold refl

  -- .. in the committed phase
  pub cast_second : committed_in voter first ≡ true → committed_in voter second ≡ false
      → after_act (first ∷ second ∷ []) (Cast voter hash)
      ≡ first ∷ without_all (out_of first) (after second (act.Cast voter hash)) ∷ []
  cast_second told new = rw (told, new) refl
