-- The text of a refusal: its name, and behind it its fields, first names, then hashes, then numbers.
use Rattle.std.specs.Prelude.{ℕ, List, ◌++◌, codes, None, Some}
use Rattle.px_ops.specs.Fields.{name_field, hash_field, number_field}
use Rattle.px_ops.specs.JobTexts.{state_word}
use Rattle.px_ops.specs.VoteTexts.{phase_word}
use Rattle.px_ops.specs.declared.node_refusal.NodeRefusal.{NodeRefusal}
use Rattle.px_ops.specs.declared.node_refusal.NodeRefusal.TheVariants as node
use Rattle.px_ops.specs.declared.refusal.Refusal.{Refusal}
use Rattle.px_ops.specs.declared.refusal.Refusal.TheVariants as refusal

-- a node's refusal
abbrev pub node_refusal_text : NodeRefusal → List ℕ
node_refusal_text (node.Fenced fence) = codes "Fenced" ++ number_field fence
node_refusal_text node.NoRepo = codes "NoRepo"
node_refusal_text node.RepoExists = codes "RepoExists"
node_refusal_text node.NotPrepared = codes "NotPrepared"
node_refusal_text (node.VoteDiffers have) = codes "VoteDiffers" ++ hash_field have
node_refusal_text node.Empty = codes "Empty"
node_refusal_text (node.Void name) = codes "Void" ++ name_field name
node_refusal_text (node.Twice name) = codes "Twice" ++ name_field name
node_refusal_text (node.Stale name have) = codes "Stale" ++ name_field name ++ hash_field have
node_refusal_text (node.Conflict name other) =
    codes "Conflict" ++ name_field name ++ name_field other
node_refusal_text node.TooManyRefs = codes "TooManyRefs"
node_refusal_text (node.Missing id) = codes "Missing" ++ hash_field id
node_refusal_text (node.BadObject index place) =
    codes "BadObject" ++ number_field index ++ number_field place
node_refusal_text (node.Collision id) = codes "Collision" ++ hash_field id

-- a refusal
abbrev pub refusal_text : Refusal → List ℕ
refusal_text refusal.UnknownRepo = codes "UnknownRepo"
refusal_text (refusal.UnknownStorage None) = codes "UnknownStorage"
refusal_text (refusal.UnknownStorage (Some name)) = codes "UnknownStorage" ++ name_field name
refusal_text (refusal.UnknownVirtual name) = codes "UnknownVirtual" ++ name_field name
refusal_text (refusal.Exists repo) = codes "Exists" ++ number_field repo.0
refusal_text (refusal.StorageExists storage) = codes "StorageExists" ++ number_field storage.0
refusal_text refusal.TooManyStorages = codes "TooManyStorages"
refusal_text refusal.TooManyRepositories = codes "TooManyRepositories"
refusal_text (refusal.BadFactor storages) = codes "BadFactor" ++ number_field storages
refusal_text refusal.NoVoters = codes "NoVoters"
refusal_text (refusal.TooManyVoters voters) = codes "TooManyVoters" ++ number_field voters
refusal_text (refusal.DuplicateVoter name) = codes "DuplicateVoter" ++ name_field name
refusal_text (refusal.BadThreshold total threshold) =
    codes "BadThreshold" ++ number_field total ++ number_field threshold
refusal_text (refusal.BadRounds rounds) = codes "BadRounds" ++ number_field rounds
refusal_text refusal.TransactionsSpent = codes "TransactionsSpent"
refusal_text (refusal.UnknownTx tx) = codes "UnknownTx" ++ number_field tx.0
refusal_text (refusal.NotAVoter name) = codes "NotAVoter" ++ name_field name
refusal_text refusal.Finished = codes "Finished"
refusal_text (refusal.WrongPhase due) = codes "WrongPhase" ++ name_field (phase_word due)
refusal_text refusal.Canceled = codes "Canceled"
refusal_text refusal.Stopped = codes "Stopped"
refusal_text (refusal.AlreadyVoted hash) = codes "AlreadyVoted" ++ hash_field hash
refusal_text refusal.Decided = codes "Decided"
refusal_text (refusal.NoSub sub) = codes "NoSub" ++ number_field sub
refusal_text refusal.IsPush = codes "IsPush"
refusal_text refusal.NotAPush = codes "NotAPush"
refusal_text refusal.StillOpen = codes "StillOpen"
refusal_text (refusal.Turn tx) = codes "Turn" ++ number_field tx.0
refusal_text (refusal.ReadOnly newest current) =
    codes "ReadOnly" ++ number_field newest.0 ++ number_field current
refusal_text refusal.LeasesSpent = codes "LeasesSpent"
refusal_text refusal.GenerationsSpent = codes "GenerationsSpent"
refusal_text (refusal.LeaseLost kept given) =
    codes "LeaseLost" ++ number_field kept ++ number_field given
refusal_text refusal.NotMaking = codes "NotMaking"
refusal_text refusal.NotBooked = codes "NotBooked"
refusal_text refusal.NotInDoubt = codes "NotInDoubt"
refusal_text (refusal.UnknownJob job) = codes "UnknownJob" ++ number_field job.0
refusal_text (refusal.BadState state) = codes "BadState" ++ name_field (state_word state)
refusal_text (refusal.InFlight tx) = codes "InFlight" ++ number_field tx.0
refusal_text (refusal.NoCurrentReplica newest current) =
    codes "NoCurrentReplica" ++ number_field newest.0 ++ number_field current
refusal_text (refusal.Node cause) = node_refusal_text cause
refusal_text refusal.NotOut = codes "NotOut"
refusal_text refusal.NotAcked = codes "NotAcked"

-- the refusal says more than its name
abbrev pub HasFields : Refusal → Type 0
HasFields refusal.UnknownRepo = ⊥
HasFields refusal.TooManyStorages = ⊥
HasFields refusal.TooManyRepositories = ⊥
HasFields refusal.NoVoters = ⊥
HasFields refusal.TransactionsSpent = ⊥
HasFields refusal.Finished = ⊥
HasFields refusal.Canceled = ⊥
HasFields refusal.Stopped = ⊥
HasFields refusal.Decided = ⊥
HasFields refusal.IsPush = ⊥
HasFields refusal.NotAPush = ⊥
HasFields refusal.StillOpen = ⊥
HasFields refusal.LeasesSpent = ⊥
HasFields refusal.GenerationsSpent = ⊥
HasFields refusal.NotMaking = ⊥
HasFields refusal.NotBooked = ⊥
HasFields refusal.NotInDoubt = ⊥
HasFields refusal.NotOut = ⊥
HasFields refusal.NotAcked = ⊥
HasFields other = Unit {0}
