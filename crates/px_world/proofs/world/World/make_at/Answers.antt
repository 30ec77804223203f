use Rattle.std.proofs.Common.{◌≡◌, Ok, Some, rules, true, subst}
use Rattle.issued.specs.Draws.{ledger_of}
use Rattle.nodes.specs.State.{state_of}
use Rattle.px_cluster.specs.Events as cluster
use Rattle.px_cluster.specs.Ledger.{is_creation}
use Rattle.px_core.specs.Readers.{path_on}
use Rattle.script_rules.specs.declared.answer.Answer.TheVariants.{Done}
use Rattle.px_world.specs.Tries.{Happens}
use Rattle.px_world.specs.World.{Kept}
use Rattle.px_world.proofs.Delivering.{make_done}
use Rattle.px_world.proofs.world.World.make_at.Goals as goal

pub returns-in-Ok : goal.returns-in-Ok
returns-in-Ok c =
    let inside = c.self.inside in
    let there : path_on inside.core c.args.repo.0 c.args.storage.0 ≡ Some c.in-Some.path.now =
    search (rules, c.path_on.ensures.path, c.in-Some.is) in
    let issued : is_creation (ledger_of inside.issued.draws c.args.repo.0 c.args.storage.0 c.args.lease) ≡ true =
    search (rules, c.is_creation.ensures, c.if-not-is_creation.false) in
    let new : Kept = record { core = inside.core; nodes = c.make.new.self; issued = c.answers.new.self } in
    subst (λ (old : Kept). Happens old (cluster.Make c.args.storage.0 c.args.repo.0 c.args.lease) (Ok Done) new)
    c.self.view_is
    (make_done inside.core (state_of inside.nodes) (state_of c.make.new.self) inside.issued
    c.answers.new.self c.args.repo.0 c.args.storage.0 c.args.lease c.in-Some.path.now there
    c.answers.ensures issued c.in-Ok.ensures)
