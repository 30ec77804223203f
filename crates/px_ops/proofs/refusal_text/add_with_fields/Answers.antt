-- The names of these refusals are long texts, which are written out.
use Rattle.px_ops.proofs.refusal_text.add_with_fields.Goals as goal

pub returns-in-UnknownVirtual : goal.returns-in-UnknownVirtual
returns-in-UnknownVirtual c = rw (c.in-UnknownVirtual.is, ← c.as_bytes.ensures) c.add_name.ensures

pub returns-in-StorageExists : goal.returns-in-StorageExists
returns-in-StorageExists c = rw (c.in-StorageExists.is, ← c.from-in-StorageExists.ensures) c.add_number-in-StorageExists.ensures

pub returns-in-TooManyVoters : goal.returns-in-TooManyVoters
returns-in-TooManyVoters c = rw c.in-TooManyVoters.is c.add_number-in-TooManyVoters.ensures

pub returns-in-DuplicateVoter : goal.returns-in-DuplicateVoter
returns-in-DuplicateVoter c = rw (c.in-DuplicateVoter.is, ← c.as_bytes-in-DuplicateVoter.ensures) c.add_name-in-DuplicateVoter.ensures

pub returns-in-BadThreshold : goal.returns-in-BadThreshold
returns-in-BadThreshold c = rw c.in-BadThreshold.is c.add_numbers.ensures
