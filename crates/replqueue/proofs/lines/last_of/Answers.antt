use Rattle.std.proofs.Common.{◌≡◌, ◌-◌, Some, length, rules, slice_get}
use Rattle.replqueue.proofs.Numbered.{last_number}
use Rattle.replqueue.proofs.lines.last_of.Goals as goal

pub returns-in-Some : goal.returns-in-Some
returns-in-Some c =
    let jobs = c.args.jobs.now in
    let there : slice_get jobs (length jobs - 1) ≡ Some c.in-Some.job.now = search rules in
    last_number c.args.last jobs c.in-Some.job.now c.requires there
