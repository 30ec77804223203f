-- The lines on which jobs are marked.
use Rattle.std.specs.Prelude.{◌+◌, ◌*◌, ◌^◌, ℕ}
use Rattle.px_ops.specs.declared.job.Job.{Job}
use Rattle.replqueue.specs.declared.lines.By.{By}
use Rattle.replqueue.specs.declared.lines.By.TheVariants.{Pair, Target}

-- the line of a repository and target
abbrev pub pair_line : ℕ → ℕ → ℕ
pair_line repo target = repo * 2 ^ 32 + target

-- the line of a job
abbrev pub line_by : By → Job → ℕ
line_by Pair job = pair_line job.repo.0 job.target.0
line_by Target job = job.target.0
