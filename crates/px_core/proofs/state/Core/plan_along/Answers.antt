use Rattle.std.proofs.Common.{◌≡◌, ◌∙◌, List, false, None, Some, ap, subst, sym}
use Rattle.px_base.specs.declared.ids.StorageId.{StorageId}
use Rattle.px_cluster.specs.Core.{Core, repository}
use Rattle.px_cluster.specs.Members.{members, panel_of, targets}
use Rattle.px_cluster.specs.Pushes.{begin_refusal}
use Rattle.genbook.specs.Changes.{numbers_of}
use Rattle.genbook.specs.Rules.{DrawsForMembers}
use Rattle.px_core.specs.Beginning.{IsBeginning, IsTold}
use Rattle.px_core.specs.Parts.{core_with}
use Rattle.px_core.specs.declared.pushes.Beginning.{Beginning}
use Rattle.px_core.proofs.Begins.{is_beginning}
use Rattle.px_core.proofs.Planning.{leases_left, members_are_a_panel, members_are_few, members_are_known, members_are_some, targets_are_known, transactions_left}
use Rattle.px_core.proofs.state.Core.plan_along.Goals as goal

pub told-requires-clause-known : goal.told-requires-clause-known
told-requires-clause-known c =
    let core = core_with c.self.inside.book c.self.inside.health.up c.self.inside.votes
    c.self.inside.last c.self.inside.turns c.self.inside.reads.items c.self.inside.queue in
    let book = c.args.known.now in
    let repo = c.args.repo.0 in
    let there : repository core repo ≡ Some book = subst (λ (known : Core).
    repository known repo ≡ Some book) (sym c.self.view_is) c.requires.there in
    let none : begin_refusal core repo (Some book) ≡ None = subst (λ (known : Core).
    begin_refusal known repo (Some book) ≡ None) (sym c.self.view_is) c.requires.accepted in
    let are : numbers_of c.args.route.members.items ≡ members core book = subst (λ (known : Core).
    numbers_of c.args.route.members.items ≡ members known book) (sym c.self.view_is)
    c.requires.members in
    let others_are : numbers_of c.args.route.targets.items ≡ targets core book =
    subst (λ (known : Core). numbers_of c.args.route.targets.items ≡ targets known book)
    (sym c.self.view_is) c.requires.targets in
    members_are_known core c.self.invariant repo book there none c.deref.result.now
    (ap numbers_of c.deref.ensures.value ∙ are)

pub told-requires-clause-targets : goal.told-requires-clause-targets
told-requires-clause-targets c =
    let core = core_with c.self.inside.book c.self.inside.health.up c.self.inside.votes
    c.self.inside.last c.self.inside.turns c.self.inside.reads.items c.self.inside.queue in
    let book = c.args.known.now in
    let repo = c.args.repo.0 in
    let there : repository core repo ≡ Some book = subst (λ (known : Core).
    repository known repo ≡ Some book) (sym c.self.view_is) c.requires.there in
    let none : begin_refusal core repo (Some book) ≡ None = subst (λ (known : Core).
    begin_refusal known repo (Some book) ≡ None) (sym c.self.view_is) c.requires.accepted in
    let are : numbers_of c.args.route.members.items ≡ members core book = subst (λ (known : Core).
    numbers_of c.args.route.members.items ≡ members known book) (sym c.self.view_is)
    c.requires.members in
    let others_are : numbers_of c.args.route.targets.items ≡ targets core book =
    subst (λ (known : Core). numbers_of c.args.route.targets.items ≡ targets known book)
    (sym c.self.view_is) c.requires.targets in
    targets_are_known core c.self.invariant repo book there none c.deref-2.result.now
    (ap numbers_of c.deref-2.ensures.value ∙ others_are)

pub told-requires-clause-lease : goal.told-requires-clause-lease
told-requires-clause-lease c =
    let core = core_with c.self.inside.book c.self.inside.health.up c.self.inside.votes
    c.self.inside.last c.self.inside.turns c.self.inside.reads.items c.self.inside.queue in
    let book = c.args.known.now in
    let repo = c.args.repo.0 in
    let there : repository core repo ≡ Some book = subst (λ (known : Core).
    repository known repo ≡ Some book) (sym c.self.view_is) c.requires.there in
    let none : begin_refusal core repo (Some book) ≡ None = subst (λ (known : Core).
    begin_refusal known repo (Some book) ≡ None) (sym c.self.view_is) c.requires.accepted in
    let are : numbers_of c.args.route.members.items ≡ members core book = subst (λ (known : Core).
    numbers_of c.args.route.members.items ≡ members known book) (sym c.self.view_is)
    c.requires.members in
    let others_are : numbers_of c.args.route.targets.items ≡ targets core book =
    subst (λ (known : Core). numbers_of c.args.route.targets.items ≡ targets known book)
    (sym c.self.view_is) c.requires.targets in
    leases_left core c.self.invariant repo book there none

pub told-requires-clause-number : goal.told-requires-clause-number
told-requires-clause-number c =
    let core = core_with c.self.inside.book c.self.inside.health.up c.self.inside.votes
    c.self.inside.last c.self.inside.turns c.self.inside.reads.items c.self.inside.queue in
    let book = c.args.known.now in
    let repo = c.args.repo.0 in
    let there : repository core repo ≡ Some book = subst (λ (known : Core).
    repository known repo ≡ Some book) (sym c.self.view_is) c.requires.there in
    let none : begin_refusal core repo (Some book) ≡ None = subst (λ (known : Core).
    begin_refusal known repo (Some book) ≡ None) (sym c.self.view_is) c.requires.accepted in
    let are : numbers_of c.args.route.members.items ≡ members core book = subst (λ (known : Core).
    numbers_of c.args.route.members.items ≡ members known book) (sym c.self.view_is)
    c.requires.members in
    let others_are : numbers_of c.args.route.targets.items ≡ targets core book =
    subst (λ (known : Core). numbers_of c.args.route.targets.items ≡ targets known book)
    (sym c.self.view_is) c.requires.targets in
    transactions_left core c.self.invariant repo book there none

pub panel_of-requires-clause-known : goal.panel_of-requires-clause-known
panel_of-requires-clause-known c =
    let core = core_with c.self.inside.book c.self.inside.health.up c.self.inside.votes
    c.self.inside.last c.self.inside.turns c.self.inside.reads.items c.self.inside.queue in
    let book = c.args.known.now in
    let repo = c.args.repo.0 in
    let there : repository core repo ≡ Some book = subst (λ (known : Core).
    repository known repo ≡ Some book) (sym c.self.view_is) c.requires.there in
    let none : begin_refusal core repo (Some book) ≡ None = subst (λ (known : Core).
    begin_refusal known repo (Some book) ≡ None) (sym c.self.view_is) c.requires.accepted in
    let are : numbers_of c.args.route.members.items ≡ members core book = subst (λ (known : Core).
    numbers_of c.args.route.members.items ≡ members known book) (sym c.self.view_is)
    c.requires.members in
    let others_are : numbers_of c.args.route.targets.items ≡ targets core book =
    subst (λ (known : Core). numbers_of c.args.route.targets.items ≡ targets known book)
    (sym c.self.view_is) c.requires.targets in
    members_are_known core c.self.invariant repo book there none c.deref-3.result.now
    (ap numbers_of c.deref-3.ensures.value ∙ are)

pub panel_of-requires-clause-some : goal.panel_of-requires-clause-some
panel_of-requires-clause-some c =
    let core = core_with c.self.inside.book c.self.inside.health.up c.self.inside.votes
    c.self.inside.last c.self.inside.turns c.self.inside.reads.items c.self.inside.queue in
    let book = c.args.known.now in
    let repo = c.args.repo.0 in
    let there : repository core repo ≡ Some book = subst (λ (known : Core).
    repository known repo ≡ Some book) (sym c.self.view_is) c.requires.there in
    let none : begin_refusal core repo (Some book) ≡ None = subst (λ (known : Core).
    begin_refusal known repo (Some book) ≡ None) (sym c.self.view_is) c.requires.accepted in
    let are : numbers_of c.args.route.members.items ≡ members core book = subst (λ (known : Core).
    numbers_of c.args.route.members.items ≡ members known book) (sym c.self.view_is)
    c.requires.members in
    let others_are : numbers_of c.args.route.targets.items ≡ targets core book =
    subst (λ (known : Core). numbers_of c.args.route.targets.items ≡ targets known book)
    (sym c.self.view_is) c.requires.targets in
    members_are_some core c.self.invariant repo book there none c.deref-3.result.now
    (ap numbers_of c.deref-3.ensures.value ∙ are)

pub panel_of-requires-clause-few : goal.panel_of-requires-clause-few
panel_of-requires-clause-few c =
    let core = core_with c.self.inside.book c.self.inside.health.up c.self.inside.votes
    c.self.inside.last c.self.inside.turns c.self.inside.reads.items c.self.inside.queue in
    let book = c.args.known.now in
    let repo = c.args.repo.0 in
    let there : repository core repo ≡ Some book = subst (λ (known : Core).
    repository known repo ≡ Some book) (sym c.self.view_is) c.requires.there in
    let none : begin_refusal core repo (Some book) ≡ None = subst (λ (known : Core).
    begin_refusal known repo (Some book) ≡ None) (sym c.self.view_is) c.requires.accepted in
    let are : numbers_of c.args.route.members.items ≡ members core book = subst (λ (known : Core).
    numbers_of c.args.route.members.items ≡ members known book) (sym c.self.view_is)
    c.requires.members in
    let others_are : numbers_of c.args.route.targets.items ≡ targets core book =
    subst (λ (known : Core). numbers_of c.args.route.targets.items ≡ targets known book)
    (sym c.self.view_is) c.requires.targets in
    members_are_few core c.self.invariant repo book there none c.deref-3.result.now
    (ap numbers_of c.deref-3.ensures.value ∙ are)

pub panel_of-requires-clause-lawful : goal.panel_of-requires-clause-lawful
panel_of-requires-clause-lawful c =
    let core = core_with c.self.inside.book c.self.inside.health.up c.self.inside.votes
    c.self.inside.last c.self.inside.turns c.self.inside.reads.items c.self.inside.queue in
    let book = c.args.known.now in
    let repo = c.args.repo.0 in
    let there : repository core repo ≡ Some book = subst (λ (known : Core).
    repository known repo ≡ Some book) (sym c.self.view_is) c.requires.there in
    let none : begin_refusal core repo (Some book) ≡ None = subst (λ (known : Core).
    begin_refusal known repo (Some book) ≡ None) (sym c.self.view_is) c.requires.accepted in
    let are : numbers_of c.args.route.members.items ≡ members core book = subst (λ (known : Core).
    numbers_of c.args.route.members.items ≡ members known book) (sym c.self.view_is)
    c.requires.members in
    let others_are : numbers_of c.args.route.targets.items ≡ targets core book =
    subst (λ (known : Core). numbers_of c.args.route.targets.items ≡ targets known book)
    (sym c.self.view_is) c.requires.targets in
    members_are_a_panel core c.self.invariant repo book there none c.deref-3.result.now
    (ap numbers_of c.deref-3.ensures.value ∙ are)

pub returns : goal.returns
returns c =
    let core = core_with c.self.inside.book c.self.inside.health.up c.self.inside.votes
    c.self.inside.last c.self.inside.turns c.self.inside.reads.items c.self.inside.queue in
    let book = c.args.known.now in
    let repo = c.args.repo.0 in
    let there : repository core repo ≡ Some book = subst (λ (known : Core).
    repository known repo ≡ Some book) (sym c.self.view_is) c.requires.there in
    let none : begin_refusal core repo (Some book) ≡ None = subst (λ (known : Core).
    begin_refusal known repo (Some book) ≡ None) (sym c.self.view_is) c.requires.accepted in
    let are : numbers_of c.args.route.members.items ≡ members core book = subst (λ (known : Core).
    numbers_of c.args.route.members.items ≡ members known book) (sym c.self.view_is)
    c.requires.members in
    let others_are : numbers_of c.args.route.targets.items ≡ targets core book =
    subst (λ (known : Core). numbers_of c.args.route.targets.items ≡ targets known book)
    (sym c.self.view_is) c.requires.targets in
    let storages = c.args.route.members.items in
    let others = c.args.route.targets.items in
    let begun = c.in_ok-begun.begun in
    let told : IsTold core book (numbers_of storages) (numbers_of others) begun =
    subst (λ (each : List StorageId). IsTold core book (numbers_of each) (numbers_of others) begun)
    c.deref.ensures.value (subst (λ (each : List StorageId).
    IsTold core book (numbers_of c.deref.result.now) (numbers_of each) begun)
    c.deref-2.ensures.value
    c.in_ok-begun.ensures) in
    let panel_is : c.in_ok-panel.panel ≡ panel_of core (numbers_of storages) =
    c.in_ok-panel.ensures ∙ ap (λ (each : List StorageId). panel_of core (numbers_of each))
    c.deref-3.ensures.value in
    let draws : DrawsForMembers storages book c.in_ok-entry.entry =
    subst (λ (each : List StorageId). DrawsForMembers each book c.in_ok-entry.entry)
    c.deref-4.ensures.value c.in_ok-entry.ensures in
    let plan : Beginning = record {
      entry = c.in_ok-entry.entry;
      push = c.new-push.result;
      panel = c.in_ok-panel.panel;
      begun = begun;
    } in
    subst (λ (known : Core). IsBeginning known repo book plan) c.self.view_is
    (is_beginning core repo book storages others begun c.in_ok-panel.panel c.in_ok-entry.entry
    c.new-push.result are others_are told panel_is draws (c.new-push.ensures ∙ (λ i. record {
      tx = begun.tx;
      repo = repo;
      lease = begun.lease;
      begun = c.newest.ensures i;
      members = numbers_of storages;
      canceled = false;
      stopped = false;
    })))
