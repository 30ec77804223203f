use Rattle.std.proofs.Common.{◌≡◌, ◌<◌, ◌∙◌, List, ap, length, rules, subst, sym}
use Rattle.std.specs.List.{AllByRecursion}
use Rattle.px_base.specs.declared.ids.StorageId.{StorageId}
use Rattle.px_ops.specs.declared.op.Op.TheVariants as op
use Rattle.px_ops.specs.declared.reply.Reply.TheVariants as reply
use Rattle.px_cluster.specs.Core.{Core, names_of}
use Rattle.genbook.specs.Books.{core_of}
use Rattle.genbook.specs.Changes.{numbers_of}
use Rattle.px_core.specs.Parts.{core_with}
use Rattle.px_core.specs.Routing.{with_count}
use Rattle.px_core.specs.Steps.{IsDone}
use Rattle.px_core.proofs.BookOps.{assigned_known, create_done, done_sound}
use Rattle.px_core.proofs.state.Core.create.Goals as goal

-- a new repository has a count
counted : (c : goal.After-add_count) → c.add_count.new.reads.items
    ≡ with_count c.in_ok-creation.creation.repo.0 c.self.inside.reads.items
counted c = search rules

pub names_of-requires : goal.names_of-requires
names_of-requires c =
    let plan = c.in_ok-creation in
    subst (λ (storages : List StorageId). AllByRecursion (λ (storage : StorageId).
    storage.0 < length c.plan_create.new.self.storages) storages) (sym c.as_slice.ensures)
    (assigned_known c.self.inside.book c.plan_create.new.self c.args.virt.now c.args.path.now
    c.args.factor plan.creation plan.ensures.ok plan.ensures.same)

pub invariant_of-self-2 : goal.invariant_of-self-2
invariant_of-self-2 c =
    let inside = c.self.inside in
    let core = core_with inside.book inside.health.up inside.votes inside.last inside.turns
    inside.reads.items inside.queue in
    let plan = c.in_ok-creation in
    done_sound core _ (op.Create c.args.virt.now c.args.path.now c.args.factor)
    (reply.Created plan.creation.repo plan.creation.lease c.in_ok-assigned.assigned)
    c.self.invariant
    (create_done inside.book c.plan_create.new.self c.create.new.self inside.health.up
    inside.votes inside.last inside.turns inside.reads.items inside.queue plan.ensures.same
    c.args.virt.now
    c.args.path.now
    c.args.factor plan.creation c.in_ok-assigned.assigned plan.ensures.ok plan.ensures.accepted
    c.create.ensures.ok c.create.ensures.storages
    (c.in_ok-assigned.ensures ∙ ap (λ (storages : List StorageId).
    names_of (core_of c.plan_create.new.self) (numbers_of storages)) c.as_slice.ensures)
    c.self.invariant.form.tables.reads c.add_count.new.reads.items (counted c))

pub returns : goal.returns
returns c =
    let inside = c.self.inside in
    let plan = c.in_ok-creation in
    subst (λ (known : Core). IsDone known
    (op.Create c.args.virt.now c.args.path.now c.args.factor)
    (reply.Created plan.creation.repo plan.creation.lease c.in_ok-assigned.assigned)
    (core_with c.create.new.self inside.health.up inside.votes inside.last inside.turns
    c.add_count.new.reads.items inside.queue))
    c.self.view_is
    (create_done inside.book c.plan_create.new.self c.create.new.self inside.health.up
    inside.votes inside.last inside.turns inside.reads.items inside.queue plan.ensures.same
    c.args.virt.now
    c.args.path.now
    c.args.factor plan.creation c.in_ok-assigned.assigned plan.ensures.ok plan.ensures.accepted
    c.create.ensures.ok c.create.ensures.storages
    (c.in_ok-assigned.ensures ∙ ap (λ (storages : List StorageId).
    names_of (core_of c.plan_create.new.self) (numbers_of storages)) c.as_slice.ensures)
    c.self.invariant.form.tables.reads c.add_count.new.reads.items (counted c))
