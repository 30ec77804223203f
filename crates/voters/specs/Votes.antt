-- A subtransaction by its value: threshold, marks and outcome. Each act is one step of it.
use Rattle.std.specs.Prelude.{ℕ, zero, suc, Bool, true, false, List, [], ◌∷◌, map, Option, None, Some}
use Rattle.px_base.specs.declared.hash.Hash.{Hash}
use Rattle.voters.specs.declared.act.Act.{Act}
use Rattle.voters.specs.declared.act.Act.TheVariants.{Cast, Cancel, Stop as StopAct}
use Rattle.voters.specs.declared.mark.Mark.{Mark}
use Rattle.voters.specs.declared.outcome.Outcome.{Outcome}
use Rattle.voters.specs.declared.outcome.Outcome.TheVariants.{Open, Commit, Fail, Stop}
use Rattle.voters.specs.Marks.{committed_hash, is_lost, canceling}

-- what a vote is taken by
pub record Poll : Type 0 where
  pub weights : List ℕ
  pub threshold : ℕ

-- what is seen of a subtransaction
pub record Votes : Type 0 where
  pub threshold : ℕ
  pub marks : List Mark
  pub outcome : Outcome

-- neither a cast nor a cancel
abbrev pub blank : ℕ → Mark
blank weight = record { weight = weight; vote = None; canceled = false }

-- before any act
abbrev pub start : Poll → Votes
start poll = record { threshold = poll.threshold; marks = map blank poll.weights; outcome = Open }

-- the list with its element at an index changed, where there is one
abbrev pub changed_at : {A : Type 0} → ℕ → (A → A) → List A → List A
changed_at i f [] = []
changed_at zero f (x ∷ xs) = f x ∷ xs
changed_at (suc i) f (x ∷ xs) = x ∷ changed_at i f xs

-- a voter's first cast is its vote
abbrev pub first_vote : Option Hash → Hash → Option Hash
first_vote (Some earlier) hash = Some earlier
first_vote None hash = Some hash

-- the mark after a cast
abbrev pub casting : Hash → Mark → Mark
casting hash mark = record {
  weight = mark.weight;
  vote = first_vote mark.vote hash;
  canceled = mark.canceled;
}

-- what an act does to the marks
abbrev pub marks_after : Act → List Mark → List Mark
marks_after (Cast voter hash) marks = changed_at voter (casting hash) marks
marks_after (Cancel voter) marks = changed_at voter canceling marks
marks_after StopAct marks = marks

-- the act is a stop
abbrev pub is_stop : Act → Bool
is_stop (Cast v hash) = false
is_stop (Cancel v) = false
is_stop StopAct = true

-- the first of commit, fail and stop that holds
abbrev pub decided : Option Hash → Bool → Bool → Outcome
decided (Some hash) lost stop = Commit hash
decided None true stop = Fail
decided None false true = Stop
decided None false false = Open

-- the same, of the marks after an act
unfoldable pub decision : ℕ → List Mark → Bool → Outcome
decision threshold marks stop =
    decided (committed_hash threshold marks) (is_lost threshold marks) stop

-- the first of the two that is not open
abbrev pub or_later : Outcome → Outcome → Outcome
or_later Open later = later
or_later (Commit hash) later = Commit hash
or_later Fail later = Fail
or_later Stop later = Stop

-- one act more: the marks change, and the outcome is fixed where nothing fixed it before
abbrev pub after : Votes → Act → Votes
after votes act = record {
  threshold = votes.threshold;
  marks = marks_after act votes.marks;
  outcome = or_later votes.outcome
      (decision votes.threshold (marks_after act votes.marks) (is_stop act));
}

-- what a list of acts leaves
abbrev pub run : List Act → Votes → Votes
run [] votes = votes
run (act ∷ acts) votes = run acts (after votes act)
