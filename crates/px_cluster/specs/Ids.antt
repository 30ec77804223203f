-- Numbers as the types that name things have them.
use Rattle.std.specs.Prelude.{ℕ, Option}
use Rattle.std.specs.Option.{option_map}
use Rattle.px_base.specs.declared.ids.Gen.{Gen}
use Rattle.px_base.specs.declared.ids.JobId.{JobId}
use Rattle.px_base.specs.declared.ids.RepoId.{RepoId}
use Rattle.px_base.specs.declared.ids.StorageId.{StorageId}

abbrev pub gen : ℕ → Gen
gen number = record { 0 = number }

abbrev pub repo_id : ℕ → RepoId
repo_id number = record { 0 = number }

abbrev pub storage_id : ℕ → StorageId
storage_id number = record { 0 = number }

abbrev pub job_id : ℕ → JobId
job_id number = record { 0 = number }

-- the number behind a name, where there is one
abbrev pub storage_number : Option StorageId → Option ℕ
storage_number storage = option_map (λ (id : StorageId). id.0) storage

abbrev pub repo_number : Option RepoId → Option ℕ
repo_number repo = option_map (λ (id : RepoId). id.0) repo
