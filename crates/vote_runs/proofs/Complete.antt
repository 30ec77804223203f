-- A push that its members vote for ends committed.
use Rattle.std.proofs.Common.{◌≡◌, ◌<◌, ◌+◌, ◌==◌, ℕ, zero, suc, List, [], ◌∷◌, true, false, Option, None, Some, Result, Ok, Err, refl, sym, ◌∙◌, ap, subst, inl, inr, length, map, position, slice_get, sum, arith, sum_by, ◌≤◌}
use Rattle.std.proofs.lemmas.List.Sums.{sum-map, sum_by-cons}
use Rattle.std.specs.List.{AllByRecursion}
use Rattle.std.specs.Option.{option_map}
use Rattle.px_base.specs.Hash.{same_hash-Decides}
use Rattle.px_base.specs.declared.hash.Hash.{Hash}
use Rattle.px_base.specs.declared.phase.Phase.{Phase}
use Rattle.px_base.specs.declared.phase.Phase.TheVariants.{Prepared, Committed}
use Rattle.px_base.specs.declared.voter.Voter.{Voter}
use Rattle.px_ops.specs.declared.op.Op.TheVariants as op
use Rattle.px_ops.specs.declared.push.PushEnd.TheVariants as end
use Rattle.px_ops.specs.declared.reply.Reply.TheVariants as reply
use Rattle.txmanager.proofs.CarryLemmas.{opened_chain}
use Rattle.txmanager.specs.Readings.{is_canceled}
use Rattle.txmanager.specs.Rounds.{Cast, after_act, current}
use Rattle.txmanager.specs.VoterCalls.{after_cast, cast_answer, cast_answer_by, cast_in_current, cast_in_sub, numbered, of_cast, phase_of, phase_refusal, unless_refused}
use Rattle.txmanager.specs.Voting.{Voting, number_of, unless_err, with_act, with_act_by}
use Rattle.txmanager.specs.declared.refusal.TxRefusal.{TxRefusal}
use Rattle.voters.specs.Marks.{mark_weight}
use Rattle.voters.specs.Panel.{Roster, poll_of, same_name}
use Rattle.voters.specs.Refusals.{cast_refusal}
use Rattle.voters.specs.Results.{committed_in}
use Rattle.voters.specs.Rule.{IsPoll, weight_from}
use Rattle.voters.specs.Votes.{Poll, Votes, blank, start}
use Rattle.voters.specs.declared.mark.Mark.{Mark}
use Rattle.voters.specs.declared.outcome.Outcome.TheVariants.{Commit}
use Rattle.voters.specs.declared.sub.CastRefusal.{CastRefusal}
use Rattle.voters.specs.declared.voter_result.VoterResult.{VoterResult}
use Rattle.px_cluster.specs.Astray.{Move, MovesOn}
use Rattle.px_cluster.specs.Cluster.{Cluster}
use Rattle.px_cluster.specs.Core.{Core, OpenPush, name_of, push_of, voting}
use Rattle.px_cluster.specs.Ids.{gen}
use Rattle.px_cluster.specs.Ops.{reply_of, told}
use Rattle.px_cluster.specs.Pushes.{committed_outcome, finish_refusal, finish_reply, prepared_outcome}
use Rattle.px_cluster.specs.Refusals.{refusal_in}
use Rattle.cluster_form.proofs.FormKept.{form_always}
use Rattle.cluster_form.proofs.Lists.{all_find, bool, some_is}
use Rattle.cluster_form.proofs.Panels.{panel_is}
use Rattle.cluster_form.specs.Form.{HasForm}
use Rattle.cluster_form.specs.Turns.{IsTurn, panel_for}
use Rattle.vote_runs.specs.Complete.{EndsCommitted, HasAccepted, IsLeftAlone, IsUntouched, PushesThatAQuorumVotesForEndCommitted, PushesThatAllVoteForEndCommitted, QuorumVotesFor}
use Rattle.vote_runs.proofs.Agreeing.{HasVoted, IsFair}
use Rattle.vote_runs.proofs.LeftAlone.{Holds}
use Rattle.vote_runs.proofs.MovesAlone.{once_accepted, stays_on_record}
use Rattle.vote_runs.proofs.MemberNames.{found_by_name, got_within, one_at, weights_of_panel}
use Rattle.vote_runs.proofs.TwoPhases.{HasGoneOn, IsCounted, IsPlain, counted_first, counted_second, first_commits, goes_on, in_phase, second_commits}

-- ---- the vote of a push, over casts

-- it has these voters, and casts alone were made on its two phases
pub record IsOfCasts (voters : List Voter) (poll : Poll) (vote : Voting) : Type 0 where
  pub called : vote.voters ≡ voters
  pub first : Votes
  pub second : Votes
  pub subs : vote.subs ≡ first ∷ second ∷ []
  pub plain : IsPlain poll first second

-- .. and the voter voted for the hash in the phase
pub record IsWithVote (voters : List Voter) (poll : Poll) (phase : Phase) (voter : ℕ) (hash : Hash)
    (vote : Voting) : Type 0 where
  pub of_casts : IsOfCasts voters poll vote
  pub voted : HasVoted (in_phase phase of_casts.first of_casts.second) voter hash

-- each cast of a voter keeps it
abbrev IsKeptByCasts : (Voting → Type 0) → Type 0
IsKeptByCasts P = (voter : ℕ) (hash : Hash) (old : Voting) → P old
    → P (with_act old (Cast voter hash))

module _ (P : Voting → Type 0) (keeps : IsKeptByCasts P) where
  -- by the number that a name has
  by_number : (number : Option ℕ) (hash : Hash) (old : Voting) → P old
      → P (with_act_by old number (λ voter. Cast voter hash))
  by_number None hash old holds = holds
  by_number (Some voter) hash old holds = keeps voter hash old holds

  -- where a refusal leaves what was
  by_answer : {A : Type 0} (answer : Result A TxRefusal) (old new : Voting) → P old → P new
      → P (unless_err answer old new)
  by_answer (Ok value) old new before after_ = after_
  by_answer (Err why) old new before after_ = before

  -- so each call of a cast does
  kept_by_casts : (name : List ℕ) (phase : Phase) (hash : Hash) (old : Voting) → P old
      → P (after_cast name phase hash old)
  kept_by_casts name phase hash old holds = by_answer (cast_answer name phase hash old) old _ holds
      (by_number (number_of name old) hash old holds)

-- ---- a cast that is not refused

-- neither the cause nor the answer refuses
unrefused : {A : Type 0} (why : Option TxRefusal) (answer : Result A TxRefusal)
    → refusal_in (unless_refused why answer) ≡ None
    → (why ≡ None) × (refusal_in answer ≡ None)
unrefused None answer none = (refl, none)
unrefused (Some why) answer none = absurd (cc)

-- a number beside a result refuses nothing
unnumbered : (number : ℕ) (answer : Result VoterResult TxRefusal)
    → refusal_in (numbered number answer) ≡ None → refusal_in answer ≡ None
unnumbered number (Ok result) none = refl
unnumbered number (Err why) none = absurd (cc)

-- a cause by its own name
unmapped : (name : List ℕ) (why : Option CastRefusal) → option_map (of_cast name) why ≡ None
    → why ≡ None
unmapped name None none = refl
unmapped name (Some why) none = absurd (let z : Some (of_cast name why) ≡ None = none in cc)

-- it is of the due phase, and counts there
counts_in : (name : List ℕ) (phase : Phase) (voter : ℕ) (hash : Hash) (at : ℕ) (votes : Votes)
    → refusal_in (cast_in_current name phase voter hash at (Some votes)) ≡ None
    → (phase_refusal phase (phase_of at) ≡ None) × (cast_refusal votes voter ≡ None)
counts_in name phase voter hash at votes none =
    let parts = unrefused (phase_refusal phase (phase_of at)) _ none in (
      parts.0,
      unmapped name (cast_refusal votes voter)
          (unrefused (option_map (of_cast name) (cast_refusal votes voter)) _
          (unnumbered (at + 1) (cast_in_sub name voter hash votes) parts.1)).0,
    )

-- an answer without a refusal leaves the new state
led_on : {A : Type 0} (answer : Result A TxRefusal) (old new : Voting)
    → refusal_in answer ≡ None → unless_err answer old new ≡ new
led_on (Ok value) old new none = refl
led_on (Err why) old new none = absurd (cc)

module _ (poll : Poll) (first second : Votes) (plain : IsPlain poll first second) (name : List ℕ)
    (voter : ℕ) (hash : Hash) where
  abbrev subs : List Votes
  subs = first ∷ second ∷ []

  -- who is not told casts in the prepared phase
  in_prepared : (phase : Phase) → committed_in voter first ≡ false
      → refusal_in (cast_in_current name phase voter hash 0 (Some first)) ≡ None
      → IsCounted poll first second plain phase voter hash
  in_prepared Prepared untold none = counted_first poll first second plain voter hash untold
      (counts_in name Prepared voter hash 0 first none).1
  in_prepared Committed untold none = absurd
      (let due = (counts_in name Committed voter hash 0 first none).0 in cc)

  -- who is told casts in the committed one
  in_committed : (phase : Phase) → committed_in voter first ≡ true
      → committed_in voter second ≡ false
      → refusal_in (cast_in_current name phase voter hash 1 (Some second)) ≡ None
      → IsCounted poll first second plain phase voter hash
  in_committed Committed told new none = counted_second poll first second plain voter hash told new
      (counts_in name Committed voter hash 1 second none).1
  in_committed Prepared told new none = absurd
      (let due = (counts_in name Prepared voter hash 1 second none).0 in cc)

  -- so it is counted in its phase
  is_counted : (phase : Phase)
      → refusal_in (cast_in_current name phase voter hash (current voter subs)
      (slice_get subs (current voter subs))) ≡ None
      → IsCounted poll first second plain phase voter hash
  is_counted phase none = elim (bool (committed_in voter first)) [
    | inr untold ↦ in_prepared phase untold (rw untold at none)
    | inl told_ ↦ elim (bool (committed_in voter second)) [
      | inr new ↦ in_committed phase told_ new (rw new at (rw told_ at none))
      | inl done ↦ (let past : refusal_in (cast_in_current name phase voter hash 2 None) ≡ None =
          rw done at (rw told_ at none) in absurd (cc))
    ]
  ]

-- a vote in a phase stays
votes_on : (poll : Poll) (first second : Votes) (left : List Votes)
    (goes : HasGoneOn poll first second left) (phase : Phase) (voter : ℕ) (hash : Hash)
    → HasVoted (in_phase phase first second) voter hash
    → HasVoted (in_phase phase goes.prepared goes.committed) voter hash
votes_on poll first second left goes Prepared voter hash has = goes.in_prepared voter hash has
votes_on poll first second left goes Committed voter hash has = goes.in_committed voter hash has

module _ (voters : List Voter) (poll : Poll) where
  -- a cast of a voter
  casts_kept : (voter : ℕ) (hash : Hash) (old : Voting) → IsOfCasts voters poll old
      → IsOfCasts voters poll (with_act old (Cast voter hash))
  casts_kept voter hash old is =
      let goes = goes_on poll is.first is.second is.plain voter hash in
      record {
        called = is.called;
        first = goes.prepared;
        second = goes.committed;
        subs = ap (λ subs. after_act subs (Cast voter hash)) is.subs ∙ goes.is;
        plain = goes.plain;
      }

  -- .. of another one leaves a vote
  vote_kept : (phase : Phase) (one : ℕ) (own : Hash) (voter : ℕ) (hash : Hash) (old : Voting)
      → IsWithVote voters poll phase one own old
      → IsWithVote voters poll phase one own (with_act old (Cast voter hash))
  vote_kept phase one own voter hash old with_ =
      let is = with_.of_casts in
      let goes = goes_on poll is.first is.second is.plain voter hash in
      record {
        of_casts = record {
          called = is.called;
          first = goes.prepared;
          second = goes.committed;
          subs = ap (λ subs. after_act subs (Cast voter hash)) is.subs ∙ goes.is;
          plain = goes.plain;
        };
        voted = votes_on poll is.first is.second _ goes phase one own with_.voted;
      }

  -- a cast of a name that is not refused
  gives_vote : (name : List ℕ) (phase : Phase) (voter : ℕ) (hash : Hash)
      → position (same_name name) voters ≡ Some voter → (old : Voting)
      → IsOfCasts voters poll old → refusal_in (cast_answer name phase hash old) ≡ None
      → IsWithVote voters poll phase voter hash (after_cast name phase hash old)
  gives_vote name phase voter hash found old is none =
      subst (IsWithVote voters poll phase voter hash) (sym leaves) (record {
        of_casts = record {
          called = is.called;
          first = counted.goes.prepared;
          second = counted.goes.committed;
          subs = ap (λ subs. after_act subs (Cast voter hash)) is.subs ∙ counted.goes.is;
          plain = counted.goes.plain;
        };
        voted = counted.voted;
      })
    where
      number : number_of name old ≡ Some voter
      number = ap (position (same_name name)) is.called ∙ found

      accepted : refusal_in (cast_answer_by name phase hash old.subs (Some voter)) ≡ None
      accepted = ap (λ o. refusal_in (cast_answer_by name phase hash old.subs o)) (sym number) ∙ none

      leaves : after_cast name phase hash old ≡ with_act old (Cast voter hash)
      leaves = ap (λ o. unless_err (cast_answer_by name phase hash old.subs o) old
          (with_act_by old o (λ n. Cast n hash))) number
          ∙ led_on (cast_answer_by name phase hash old.subs (Some voter)) old
          (with_act old (Cast voter hash)) accepted

      counted : IsCounted poll is.first is.second is.plain phase voter hash
      counted = is_counted poll is.first is.second is.plain name voter hash phase
          (subst (λ subs. refusal_in (cast_answer_by name phase hash subs (Some voter)) ≡ None)
          is.subs accepted)

-- ---- the start

-- a mark before any act
blank_at : (weights : List ℕ) (voter : ℕ) (mark : Mark)
    → slice_get (map blank weights) voter ≡ Some mark
    → (mark.canceled ≡ false) × (voter < length weights)
blank_at [] voter mark is = absurd (let none : None ≡ Some mark = is in cc)
blank_at (weight ∷ weights) zero mark is =
    (ap (λ (m : Mark). m.canceled) (sym (some_is (blank weight) mark is)), omega arith)
blank_at (weight ∷ weights) (suc voter) mark is =
    let rest = blank_at weights voter mark is in
    (rest.0, let within = rest.1 in omega (arith, within))

-- marks weigh what the voters do
weights_of : (weights : List ℕ) → map mark_weight (map blank weights) ≡ weights
weights_of [] = refl
weights_of (weight ∷ weights) = rw (weights_of weights) refl

module _ (poll : Poll) (lawful : IsPoll poll) where
  -- one phase is fair
  start_fair : IsFair poll (start poll)
  start_fair = record {
    within = λ voter mark there. (blank_at poll.weights voter mark there).1;
    weights = weights_of poll.weights;
    threshold = refl;
    goes = λ stopped. cc;
    lost = λ failed. absurd (cc);
  }

  -- nobody is canceled
  none_canceled : (voter : ℕ) (found : Option Mark)
      → slice_get (map blank poll.weights) voter ≡ found → is_canceled found ≡ true → ⊥
  none_canceled voter None there is = let z : false ≡ true = is in cc
  none_canceled voter (Some mark) there is =
      let z : false ≡ true = sym (blank_at poll.weights voter mark there).0 ∙ is in cc

  -- both phases are as they should be
  start_plain : IsPlain poll (start poll) (start poll)
  start_plain = record {
    chain = opened_chain poll 2 lawful;
    prepared = start_fair;
    committed = start_fair;
    stands = λ voter mark there. (blank_at poll.weights voter mark there).0;
    out = λ voter canceled. absurd
        (none_canceled voter (slice_get (map blank poll.weights) voter) refl canceled);
  }

-- ---- the end

-- the same lists of two have the same phases
same_phase : (phase : Phase) (a b c d : Votes) → a ∷ b ∷ [] ≡ c ∷ d ∷ []
    → in_phase phase a b ≡ in_phase phase c d
same_phase Prepared a b c d same = cc
same_phase Committed a b c d same = cc

-- the end of a push of which both phases commit one hash
ends_so : (core : Core) (push : OpenPush) (hash : Hash) (vote : Voting)
    → voting core push.tx ≡ Some vote → push_of core push.tx ≡ Some push
    → prepared_outcome vote ≡ Commit hash → committed_outcome vote ≡ Commit hash
    → reply_of core (op.Finish push.tx)
    ≡ reply.Finished (end.Committed (gen (push.begun + 1)))
ends_so core push hash vote there turn prepared committed =
    ap (λ v. told (finish_refusal push.tx v (push_of core push.tx))
    (finish_reply v (push_of core push.tx))) there
    ∙ ap (λ p. told (finish_refusal push.tx (Some vote) p) (finish_reply (Some vote) p)) turn
    ∙ by_outcomes
  where
    by_outcomes : told (finish_refusal push.tx (Some vote) (Some push))
        (finish_reply (Some vote) (Some push))
        ≡ reply.Finished (end.Committed (gen (push.begun + 1)))
    by_outcomes = rw (prepared, committed, (same_hash-Decides hash hash).1 refl) refl

module _ (old new : Cluster) (push : OpenPush) (hash : Hash) (form : HasForm old)
    (from : IsUntouched old.core push) where
  abbrev panel : Roster
  panel = panel_for old.core.storages push.members

  abbrev poll : Poll
  poll = poll_of panel

  -- the push has a turn
  turn : IsTurn old.core.storages old.core.transactions old.core.last_tx push
  turn = (all_find (IsTurn old.core.storages old.core.transactions old.core.last_tx)
      (λ (p : OpenPush). p.tx.0 == push.tx.0) old.core.pushes push form.core.turns.each
      from.turn).0

  -- its vote is of no casts yet
  untouched : IsOfCasts panel.voters poll from.vote
  untouched = record {
    called = ap (λ (v : Voting). v.voters)
        (some_is from.vote turn.vote (sym from.there ∙ turn.registered)) ∙ turn.sound.voters;
    first = start (poll_of panel);
    second = start (poll_of panel);
    subs = from.subs;
    plain = start_plain poll (panel_is old.core.storages push.members turn.some);
  }

  -- so it stays one of casts
  at_start : Holds push.tx push (IsOfCasts panel.voters poll) old.core
  at_start = record {
    given = turn.given;
    turn = from.turn;
    vote = from.vote;
    there = from.there;
    so = untouched;
  }

  module _ (more : List Move) (moves : MovesOn old more new)
      (alone : AllByRecursion (IsLeftAlone push.tx) more)
      (votes : QuorumVotesFor old.core push hash more) where
    -- .. to the end
    at_end : Holds push.tx push (IsOfCasts panel.voters poll) new.core
    at_end = stays_on_record push.tx push (IsOfCasts panel.voters poll)
        (kept_by_casts (IsOfCasts panel.voters poll) (casts_kept panel.voters poll)) more old new
        moves alone at_start

    -- who cast in a phase voted there in the end
    voted_in_end : (phase : Phase) (voter storage : ℕ)
        → slice_get push.members voter ≡ Some storage
        → HasAccepted push.tx (name_of old.core storage) phase hash more
        → HasVoted (in_phase phase at_end.so.first at_end.so.second) voter hash
    voted_in_end phase voter storage is cast =
        subst (λ votes. HasVoted votes voter hash)
        (same_phase phase with_.so.of_casts.first with_.so.of_casts.second at_end.so.first
        at_end.so.second (sym with_.so.of_casts.subs ∙ ap (λ (v : Voting). v.subs)
        (some_is with_.vote at_end.vote (sym with_.there ∙ at_end.there)) ∙ at_end.so.subs))
        with_.so.voted
      where
        with_ : Holds push.tx push (IsWithVote panel.voters poll phase voter hash) new.core
        with_ = once_accepted push.tx push (name_of old.core storage) phase hash
            (IsOfCasts panel.voters poll) (IsWithVote panel.voters poll phase voter hash)
            (kept_by_casts (IsOfCasts panel.voters poll) (casts_kept panel.voters poll))
            (kept_by_casts (IsWithVote panel.voters poll phase voter hash)
            (vote_kept panel.voters poll phase voter hash))
            (gives_vote panel.voters poll (name_of old.core storage) phase voter hash
            (found_by_name old.core.storages form.core.tables.names push.members turn.distinct
            turn.known voter storage is)) more old new moves alone cast at_start

    -- the member at a place of the panel
    member_at : (voter : ℕ) → voter < length poll.weights
        → (storage : ℕ) × (slice_get push.members voter ≡ Some storage)
    member_at voter within =
        let many = weights_of_panel old.core.storages form.core.tables.names push.members in
        got_within push.members voter (omega (arith, within, many))

    -- those voted in the prepared phase
    in_first : (voter : ℕ) → voter < length poll.weights → votes.agree voter ≡ true
        → HasVoted at_end.so.first voter hash
    in_first voter within agrees = let member = member_at voter within in
        voted_in_end Prepared voter member.0 member.1
        (votes.each voter member.0 member.1 agrees).prepared

    -- .. and in the committed one
    in_second : (voter : ℕ) → voter < length poll.weights → votes.agree voter ≡ true
        → HasVoted at_end.so.second voter hash
    in_second voter within agrees = let member = member_at voter within in
        voted_in_end Committed voter member.0 member.1
        (votes.each voter member.0 member.1 agrees).committed

    -- so the prepared phase commits the hash
    prepared_so : prepared_outcome at_end.vote ≡ Commit hash
    prepared_so = ap (λ subs. prepared_outcome (record at_end.vote { subs = subs })) at_end.so.subs
        ∙ first_commits poll at_end.so.first at_end.so.second at_end.so.plain hash votes.agree
        votes.reaches in_first in_second

    -- .. the committed one too
    committed_so : committed_outcome at_end.vote ≡ Commit hash
    committed_so = ap (λ subs. committed_outcome (record at_end.vote { subs = subs }))
        at_end.so.subs
        ∙ second_commits poll at_end.so.first at_end.so.second at_end.so.plain hash votes.agree
        votes.reaches in_first in_second

    -- .. and the push ends committed
    ends_committed : EndsCommitted new.core push hash
    ends_committed = record {
      vote = at_end.vote;
      there = at_end.there;
      prepared = prepared_so;
      committed = committed_so;
      finished = ends_so new.core push hash at_end.vote at_end.there at_end.turn prepared_so
          committed_so;
    }

-- in every run
pub pushes_end_committed : PushesThatAQuorumVotesForEndCommitted
pushes_end_committed node moves more old new push hash before from later alone votes =
    ends_committed old new push hash (form_always node moves old before) from more later alone votes

-- ---- all members

-- they have all the weight
all_weights : (i : ℕ) (weights : List ℕ) → weight_from (λ place. true) i weights ≡ sum_by (λ w. w) weights
all_weights i [] = refl
all_weights i (weight ∷ weights) =
    omega (arith, all_weights (i + 1) weights, sum_by-cons (λ (w : ℕ). w) weight weights)

-- .. as they stand
same_weights : (weights : List ℕ) → map (λ w. w) weights ≡ weights
same_weights [] = refl
same_weights (weight ∷ weights) = rw (same_weights weights) refl

-- which is a quorum
all_reach : (poll : Poll) → IsPoll poll
    → poll.threshold ≤ weight_from (λ place. true) 0 poll.weights
all_reach poll is =
    let all = all_weights 0 poll.weights in
    let same = sym (sum-map (λ (w : ℕ). w) poll.weights)
    ∙ ap (λ (ws : List ℕ). sum ws) (same_weights poll.weights) in
    let able = is.reachable in omega (arith, all, same, able)

-- so it ends so where all voted
pub pushes_of_all_end_committed : PushesThatAllVoteForEndCommitted
pushes_of_all_end_committed node moves more old new push hash before from later alone all =
    let form = form_always node moves old before in
    pushes_end_committed node moves more old new push hash before from later alone (record {
      agree = λ place. true;
      reaches = all_reach (poll_of (panel_for old.core.storages push.members))
          (panel_is old.core.storages push.members (turn old new push hash form from).some);
      each = λ place storage is agrees. all storage (one_at push.members place storage is);
    })
