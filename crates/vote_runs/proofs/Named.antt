-- A commit that is issued is named by a quorum, then and later.
use Rattle.std.proofs.Common.{◌≡◌, ℕ, List, ◌∷◌, ◌++◌, Option, None, Some, refl, sym, ◌∙◌, ap, inl, inr, slice_get}
use Rattle.std.specs.Option.{option_map}
use Rattle.px_base.specs.declared.hash.Hash.{Hash}
use Rattle.txmanager.proofs.CarryLemmas.{after_acts-append}
use Rattle.txmanager.proofs.LawLemmas.{keeps_outcome, quorum_at}
use Rattle.txmanager.specs.Readings.{outcome_in}
use Rattle.txmanager.specs.Rounds.{after_acts, opened}
use Rattle.txmanager.specs.Voting.{Voting, collect_answer_by, number_of, sub_at}
use Rattle.voters.specs.Panel.{poll_of}
use Rattle.voters.specs.Rule.{IsPoll}
use Rattle.voters.specs.Votes.{Votes}
use Rattle.voters.specs.declared.outcome.Outcome.{Outcome}
use Rattle.voters.specs.declared.outcome.Outcome.TheVariants.{Commit, Open}
use Rattle.px_cluster.specs.Astray.{Move, Moves, MovesOn}
use Rattle.px_cluster.specs.Book.{Storage}
use Rattle.px_cluster.specs.Cluster.{Cluster}
use Rattle.px_cluster.specs.Core.{voting}
use Rattle.px_cluster.specs.Issues.{told_hash}
use Rattle.cluster_form.proofs.FormKept.{form_always}
use Rattle.cluster_form.proofs.Lists.{some_is}
use Rattle.cluster_form.proofs.Panels.{panel_is}
use Rattle.cluster_form.specs.Form.{HasForm}
use Rattle.cluster_form.specs.Turns.{IsVoteOf, panel_for}
use Rattle.push_steps.proofs.Told.{told_in}
use Rattle.vote_runs.specs.Acts.{IsLedOn}
use Rattle.vote_runs.specs.Commits.{IsNamedByQuorum, IssuedCommitsAreNamed}
use Rattle.vote_runs.proofs.Collected.{issued_by, some_members, vote_of_members}
use Rattle.vote_runs.proofs.Issued.{commit_issued}
use Rattle.vote_runs.proofs.Told.{IsCollect}
use Rattle.vote_runs.proofs.Outcomes.{led_between}

-- ---- the decision

-- whose voter is told a hash has decided for it
decided_by : (name : List ℕ) (vote : Voting) (hash : Hash) (number : Option ℕ)
    → told_hash (collect_answer_by name 1 vote number) ≡ Some hash
    → outcome_in 0 vote.subs ≡ Some (Commit hash)
decided_by name vote hash None is = absurd (let none : None ≡ Some hash = is in cc)
decided_by name vote hash (Some voter) is =
    let told = told_in name 1 voter hash (sub_at 1 vote) is in
    ap (option_map (λ (v : Votes). v.outcome)) told.1
    ∙ ap (λ (o : Outcome). let found : Option Outcome = Some o in found) told.2.decided

-- ---- the quorum

-- there is a subtransaction of an outcome that is read
with_outcome : (found : Option Votes) (outcome : Outcome)
    → option_map (λ (v : Votes). v.outcome) found ≡ Some outcome
    → (votes : Votes) × (found ≡ Some votes) × (votes.outcome ≡ outcome)
with_outcome None outcome is = absurd (let none : None ≡ Some outcome = is in cc)
with_outcome (Some votes) outcome is = (votes, refl, some_is votes.outcome outcome is)

module _ (storages : List Storage) (members_ : List ℕ) (before now : Voting) (hash : Hash)
    (sound : IsVoteOf storages members_ before) (lawful : IsPoll (poll_of (panel_for storages members_)))
    (led : IsLedOn before now) (decided : outcome_in 0 before.subs ≡ Some (Commit hash)) where
  -- it is what all these acts made of the opening
  all_acts : now.subs
      ≡ after_acts (sound.acts ++ led.acts) (opened (poll_of (panel_for storages members_)) 2)
  all_acts = led.subs ∙ ap (after_acts led.acts) sound.subs
      ∙ sym (after_acts-append sound.acts led.acts _)

  -- so the prepared phase has still decided for the hash
  still_decided : outcome_in 0
      (after_acts (sound.acts ++ led.acts) (opened (poll_of (panel_for storages members_)) 2))
      ≡ Some (Commit hash)
  still_decided = keeps_outcome (poll_of (panel_for storages members_)) 2 0 sound.acts led.acts
      (Commit hash) lawful
      (λ same. let z : Commit hash ≡ Open = same in absurd (cc))
      (ap (outcome_in 0) (sym sound.subs) ∙ decided)

  -- and a quorum names it
  pub named_by_quorum : IsNamedByQuorum (panel_for storages members_).threshold now hash
  named_by_quorum =
      let found = with_outcome (slice_get now.subs 0) (Commit hash)
      (ap (outcome_in 0) all_acts ∙ still_decided) in
      record {
        prepared = found.0;
        there = found.1;
        decided = found.2;
        quorum = quorum_at (poll_of (panel_for storages members_)) 2 0 (sound.acts ++ led.acts) hash
            found.0 lawful (ap (λ subs. slice_get subs 0) (sym all_acts) ∙ found.1) found.2;
      }

-- ---- over a run

module _ (old new : Cluster) (move : Move) (repo storage lease : ℕ) (hash : Hash)
    (form : HasForm old) (moves : Moves old move new)
    (is : IsCollect old move repo storage lease hash) where
  -- the collect was told what was decided
  pub decided : outcome_in 0 is.told.vote.subs ≡ Some (Commit hash)
  decided = decided_by is.voter is.told.vote hash (number_of is.voter is.told.vote)
      (ap (λ n. told_hash (collect_answer_by is.voter n is.told.vote
      (number_of is.voter is.told.vote))) (sym is.told.first) ∙ is.told.told)

  -- so a quorum names it in each later state
  pub later_named : (more : List Move) (later : Cluster) (now : Voting) → MovesOn new more later
      → voting later.core is.tx ≡ Some now
      → IsNamedByQuorum (panel_for old.core.storages is.told.push.members).threshold now hash
  later_named more later now goes there =
      named_by_quorum old.core.storages is.told.push.members is.told.vote now hash
      (vote_of_members old move repo storage lease hash form is)
      (panel_is old.core.storages is.told.push.members
      (some_members old move repo storage lease hash form is).some)
      (led_between (move ∷ more) old later is.tx is.told.vote now form (new, moves, goes)
      is.told.there there) decided

-- each commit of each run is named so
pub issued_commits_are_named : IssuedCommitsAreNamed
unfolding issued_by
issued_commits_are_named node moves more old new later move repo storage lease hash first is out
    before goes = elim (commit_issued old move new is repo storage lease hash out) [
      | inl earlier ↦ absurd (before earlier)
      | inr collect ↦ (let form = form_always node moves old first in (
        issued_by old move repo storage lease hash form collect,
        λ now there. later_named old new move repo storage lease hash form is collect more later now
            goes there,
      ))
    ]
