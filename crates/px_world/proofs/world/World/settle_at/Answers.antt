use Rattle.std.proofs.Common.{◌≡◌, false, rules, subst, sym}
use Rattle.px_ops.specs.declared.op.Op.TheVariants as operation
use Rattle.px_cluster.specs.Acknowledged.{is_answered}
use Rattle.px_cluster.specs.Events.{Asks}
use Rattle.px_cluster.specs.Step.{Step}
use Rattle.script_rules.specs.Machine.{told}
use Rattle.px_world.specs.World.{cluster_of}
use Rattle.px_world.proofs.Asking.{not_answered}
use Rattle.px_world.proofs.world.World.settle_at.Goals as goal

pub returns-then-not-has_answered : goal.returns-then-not-has_answered
returns-then-not-has_answered c =
    let cluster = cluster_of c.args.self.now in
    let asked = operation.Settle c.args.repo c.args.storage c.args.lease c.args.last in
    let none : is_answered cluster asked ≡ false =
    search (rules, c.has_answered.ensures, c.if-not-has_answered.true) in
    subst (λ op. Step cluster (Asks op) (told c.not_settled.result) cluster) (sym c.requires)
    (not_answered cluster asked c.not_settled.result none (c.not_settled.ensures c.args.last))
