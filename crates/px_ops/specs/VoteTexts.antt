-- The texts of what votes and pushes come to.
use Rattle.std.specs.Prelude.{ℕ, List, ◌++◌, codes, decimal}
use Rattle.px_base.specs.Hash.{hash_text}
use Rattle.px_base.specs.declared.phase.Phase.{Phase}
use Rattle.px_base.specs.declared.phase.Phase.TheVariants.{Prepared, Committed}
use Rattle.voters.specs.declared.outcome.Outcome.{Outcome}
use Rattle.voters.specs.declared.outcome.Outcome.TheVariants as outcome
use Rattle.voters.specs.declared.voter_result.VoterResult.{VoterResult}
use Rattle.voters.specs.declared.voter_result.VoterResult.TheVariants as result
use Rattle.px_ops.specs.declared.push.PushEnd.{PushEnd}
use Rattle.px_ops.specs.declared.push.PushEnd.TheVariants as end

-- a phase as one word
abbrev pub phase_word : Phase → List ℕ
phase_word Prepared = codes "prepared"
phase_word Committed = codes "committed"

-- what a voter's vote came to; of a commit also the weight that stands for it, and the threshold
abbrev pub result_text : VoterResult → List ℕ
result_text result.Open = codes "open"
result_text (result.Committed verdict) = codes "committed " ++ hash_text verdict.hash
    ++ codes " " ++ decimal verdict.reached ++ codes "/" ++ decimal verdict.threshold
result_text result.Failed = codes "failed"
result_text result.Canceled = codes "canceled"
result_text result.Stopped = codes "stopped"

-- what all votes came to
abbrev pub outcome_text : Outcome → List ℕ
outcome_text outcome.Open = codes "open"
outcome_text (outcome.Commit hash) = codes "commit " ++ hash_text hash
outcome_text outcome.Fail = codes "fail"
outcome_text outcome.Stop = codes "stop"

-- what a push came to
abbrev pub end_text : PushEnd → List ℕ
end_text (end.Committed generation) = codes "committed " ++ decimal generation.0
end_text (end.Unsure generation) = codes "unsure " ++ decimal generation.0
end_text end.NoQuorum = codes "noquorum"
end_text end.Canceled = codes "canceled"
end_text end.Stopped = codes "stopped"
