use Rattle.std.proofs.Common.{◌∙◌, List, ap, subst, sym}
use Rattle.px_base.specs.declared.ids.StorageId.{StorageId}
use Rattle.px_ops.specs.declared.op.Op.TheVariants as op
use Rattle.px_ops.specs.declared.reply.Reply.TheVariants as reply
use Rattle.px_cluster.specs.Core.{Core, names_of}
use Rattle.genbook.specs.Books.{Becomes, core_of}
use Rattle.genbook.specs.Changes.{AreAscending, assigned_to, numbers_of}
use Rattle.px_core.specs.Assigning.{IsAssignment}
use Rattle.px_core.specs.Parts.{core_with}
use Rattle.px_core.specs.Steps.{IsDone}
use Rattle.px_core.proofs.Begins.{within}
use Rattle.px_core.proofs.BookOps.{done_sound}
use Rattle.px_core.proofs.Factors.{assigned_known, set_factor_done}
use Rattle.px_core.proofs.state.Core.set_factor.Goals as goal

pub names_of-requires : goal.names_of-requires
names_of-requires c =
    let inside = c.self.inside in
    let core = core_with inside.book inside.health.up inside.votes inside.last inside.turns
    inside.reads.items inside.queue in
    let storages = c.in_ok-storages.storages.items in
    let is = subst (λ (known : Core). IsAssignment known c.args.repo.0 c.args.factor
    (numbers_of storages)) (sym c.self.view_is) c.in_ok-storages.ensures.ok in
    assigned_known core c.self.invariant c.args.repo.0 is.book is.there c.args.factor
    c.deref.result.now (ap numbers_of c.deref.ensures.value ∙ is.by_rule)

pub assign-requires-clause-known : goal.assign-requires-clause-known
assign-requires-clause-known c =
    let storages = c.in_ok-storages.storages.items in
    let is = subst (λ (known : Core). IsAssignment known c.args.repo.0 c.args.factor
    (numbers_of storages)) (sym c.self.view_is) c.in_ok-storages.ensures.ok in
    within c.self.inside.book.repositories c.args.repo.0 is.book is.there

pub assign-requires-clause-ascending : goal.assign-requires-clause-ascending
assign-requires-clause-ascending c =
    subst (λ (storages : List StorageId). AreAscending (numbers_of storages))
    (sym c.deref-2.ensures.value) c.in_ok-storages.ensures.ok.ascending

pub invariant_of-self : goal.invariant_of-self
invariant_of-self c =
    let inside = c.self.inside in
    let core = core_with inside.book inside.health.up inside.votes inside.last inside.turns
    inside.reads.items inside.queue in
    let storages = c.in_ok-storages.storages.items in
    let names = c.in_ok-names.names in
    let is = subst (λ (known : Core). IsAssignment known c.args.repo.0 c.args.factor
    (numbers_of storages)) (sym c.self.view_is) c.in_ok-storages.ensures.ok in
    let named = c.in_ok-names.ensures ∙ ap (λ (ids : List StorageId).
    names_of (core_of inside.book) (numbers_of ids)) c.deref.ensures.value in
    let becomes = subst (λ (ids : List StorageId). Becomes c.args.repo.0
    (assigned_to (numbers_of ids)) inside.book c.assign.new.self) c.deref-2.ensures.value
    c.assign.ensures in
    done_sound core _ (op.SetFactor c.args.repo c.args.factor) (reply.Assigned names)
    c.self.invariant (set_factor_done inside.book c.assign.new.self inside.health.up inside.votes
    inside.last inside.turns inside.reads.items inside.queue c.args.repo c.args.factor
    (numbers_of storages) names
    c.self.invariant is named becomes)

pub returns : goal.returns
returns c =
    let inside = c.self.inside in
    let storages = c.in_ok-storages.storages.items in
    let names = c.in_ok-names.names in
    let is = subst (λ (known : Core). IsAssignment known c.args.repo.0 c.args.factor
    (numbers_of storages)) (sym c.self.view_is) c.in_ok-storages.ensures.ok in
    let named = c.in_ok-names.ensures ∙ ap (λ (ids : List StorageId).
    names_of (core_of inside.book) (numbers_of ids)) c.deref.ensures.value in
    let becomes = subst (λ (ids : List StorageId). Becomes c.args.repo.0
    (assigned_to (numbers_of ids)) inside.book c.assign.new.self) c.deref-2.ensures.value
    c.assign.ensures in
    subst (λ (known : Core). IsDone known (op.SetFactor c.args.repo c.args.factor)
    (reply.Assigned names) (core_with c.assign.new.self inside.health.up inside.votes inside.last
    inside.turns inside.reads.items inside.queue)) c.self.view_is
    (set_factor_done inside.book c.assign.new.self inside.health.up inside.votes inside.last
    inside.turns inside.reads.items inside.queue c.args.repo c.args.factor
    (numbers_of storages) names
    c.self.invariant is named becomes)
