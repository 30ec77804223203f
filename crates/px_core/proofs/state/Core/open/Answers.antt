use Rattle.std.proofs.Common.{◌≡◌, ◌+◌, arith, rules, sym, subst}
use Rattle.px_base.specs.declared.ids.TxId.{TxId}
use Rattle.px_ops.specs.declared.op.Op.TheVariants as op
use Rattle.px_cluster.specs.Ops.{next_core}
use Rattle.px_core.specs.Parts.{core_with}
use Rattle.px_core.specs.Sound.{IsSound}
use Rattle.px_core.proofs.Kept.{kept}
use Rattle.px_core.proofs.Tables.{next_is_free}
use Rattle.px_core.proofs.state.Core.open.Goals as goal

pub register-requires : goal.register-requires
register-requires c =
    let next : TxId = record { 0 = c.self.inside.last + 1 } in
    next_is_free c.self.inside.last c.self.inside.votes next
    c.self.invariant.form.turns.numbers.given
    (omega arith)

pub invariant_of-self : goal.invariant_of-self
invariant_of-self c =
    let core = core_with c.self.inside.book c.self.inside.health.up c.self.inside.votes
    c.self.inside.last c.self.inside.turns c.self.inside.reads.items c.self.inside.queue in
    let opening = op.Open c.args.threshold c.args.rounds c.args.voters.now in
    let is : core_with c.self.inside.book c.self.inside.health.up c.register.new.self
    (c.self.inside.last + 1) c.self.inside.turns c.self.inside.reads.items c.self.inside.queue
    ≡ next_core core opening =
    search rules in
    subst IsSound (sym is) (kept core opening c.self.invariant)
