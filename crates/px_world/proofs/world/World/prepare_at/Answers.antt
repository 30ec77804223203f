use Rattle.std.proofs.Common.{◌≡◌, Ok, Some, rules, sym, subst}
use Rattle.px_cluster.specs.Events as cluster
use Rattle.px_core.specs.Readers.{path_on}
use Rattle.script_rules.specs.declared.answer.Answer.TheVariants.{Voted}
use Rattle.px_world.specs.Tries.{Happens}
use Rattle.px_world.specs.World.{Kept}
use Rattle.px_world.proofs.Delivering.{prepare_done, prepare_not_done}
use Rattle.px_world.proofs.world.World.prepare_at.Goals.{in-Ok, in-Err}
use Rattle.px_world.proofs.world.World.prepare_at.Goals as goal

pub returns : goal.returns
returns c =
    let inside = c.self.inside in
    let there : path_on inside.core c.in-Some.repo.0 c.args.storage.0 ≡ Some c.in-Some-path_on.path.now =
    search (rules, c.path_on.ensures.path, c.in-Some-path_on.is) in
    let event = cluster.Prepare c.args.tx c.args.storage.0 c.args.push.now in
    let new : Kept = record { core = inside.core; nodes = c.prepare_push.new.self; issued = inside.issued } in
    elim c.match-prepare_push.branch [
      | in-Ok w ↦
          subst (λ result. Happens c.args.self.now event result new) (sym w.result-is)
          (subst (λ (old : Kept). Happens old event (Ok (Voted w.in-Ok.vote)) new) c.self.view_is
          (prepare_done inside.core inside.nodes c.prepare_push.new.self inside.issued c.args.tx
          c.args.push.now c.in-Some.repo.0 c.args.storage.0 _ c.in-Some-path_on.path.now there
          (search (rules, c.in-Some.ensures))
          (search (rules, c.is_push.ensures, c.if-not-is_push.false)) w.in-Ok.vote w.in-Ok.ensures))
      | in-Err w ↦
          subst (λ result. Happens c.args.self.now event result new) (sym w.result-is)
          (subst (λ (old : Kept). Happens old event w.refused_by.result new) c.self.view_is
          (prepare_not_done inside.core inside.nodes c.prepare_push.new.self inside.issued c.args.tx
          c.args.push.now c.in-Some.repo.0 c.args.storage.0 _ c.in-Some-path_on.path.now there
          (search (rules, c.in-Some.ensures))
          (search (rules, c.is_push.ensures, c.if-not-is_push.false)) w.in-Err.fault
          w.refused_by.result w.refused_by.ensures w.in-Err.ensures))
    ]
