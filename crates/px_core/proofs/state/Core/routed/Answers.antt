use Rattle.std.proofs.Common.{◌≡◌, ◌∙◌, ◌<◌, Some, ap, length, rules, subst, sym}
use Rattle.px_ops.specs.declared.refusal.Refusal.TheVariants as refusal
use Rattle.px_cluster.specs.Core.{Core, name_of, repository}
use Rattle.router.specs.declared.read_route.ReadRoute.TheVariants.{InFlight, NoCurrentReplica, Route}
use Rattle.px_core.specs.Parts.{core_with}
use Rattle.px_core.proofs.Routing.{Leads, led, read_answer, read_refused}
use Rattle.px_core.proofs.state.Core.routed.Goals as goal

pub name_of-requires : goal.name_of-requires
name_of-requires c =
    let core = c.args.self.now in
    let repo = c.args.repo.0 in
    let book = c.in-Some.repository.now in
    let inside = c.self.inside in
    let parts = core_with inside.book inside.health.up inside.votes inside.last inside.turns
    inside.reads.items inside.queue in
    let there : repository core repo ≡ Some book = search rules in
    let is : c.route_read.result ≡ Route c.in-Route.storage c.in-Route.generation = search rules in
    let to = subst (Leads core repo book) is (led parts core c.self.view_is c.self.invariant repo
    book there c.route_read.result c.reads_of-reads.result c.underway-push.result
    c.reads_of-reads.ensures c.underway-push.ensures c.route_read.ensures) in
    subst (λ (known : Core). c.in-Route.storage.0 < length known.storages) (sym c.self.view_is)
    to.2

pub returns-in-Route-clause-value : goal.returns-in-Route-clause-value
returns-in-Route-clause-value c =
    let core = c.args.self.now in
    let repo = c.args.repo.0 in
    let book = c.in-Some.repository.now in
    let inside = c.self.inside in
    let parts = core_with inside.book inside.health.up inside.votes inside.last inside.turns
    inside.reads.items inside.queue in
    let there : repository core repo ≡ Some book = search rules in
    let is : c.route_read.result ≡ Route c.in-Route.storage c.in-Route.generation = search rules in
    let to = subst (Leads core repo book) is (led parts core c.self.view_is c.self.invariant repo
    book there c.route_read.result c.reads_of-reads.result c.underway-push.result
    c.reads_of-reads.ensures c.underway-push.ensures c.route_read.ensures) in
    read_answer core repo book c.in-Route.storage c.in-Route.generation c.name_of.result there
    to.1 to.3
    (c.name_of.ensures ∙ ap (λ (known : Core). name_of known c.in-Route.storage.0) c.self.view_is)

pub returns-in-InFlight-clause-refused : goal.returns-in-InFlight-clause-refused
returns-in-InFlight-clause-refused c =
    let core = c.args.self.now in
    let repo = c.args.repo.0 in
    let book = c.in-Some.repository.now in
    let inside = c.self.inside in
    let parts = core_with inside.book inside.health.up inside.votes inside.last inside.turns
    inside.reads.items inside.queue in
    let there : repository core repo ≡ Some book = search rules in
    let is : c.route_read.result ≡ InFlight c.in-InFlight.tx = search rules in
    let to = subst (Leads core repo book) is (led parts core c.self.view_is c.self.invariant repo
    book there c.route_read.result c.reads_of-reads.result c.underway-push.result
    c.reads_of-reads.ensures c.underway-push.ensures c.route_read.ensures) in
    read_refused core repo book (Some (refusal.InFlight c.in-InFlight.tx)) there to

pub returns-in-NoCurrentReplica-clause-refused : goal.returns-in-NoCurrentReplica-clause-refused
returns-in-NoCurrentReplica-clause-refused c =
    let core = c.args.self.now in
    let repo = c.args.repo.0 in
    let book = c.in-Some.repository.now in
    let inside = c.self.inside in
    let parts = core_with inside.book inside.health.up inside.votes inside.last inside.turns
    inside.reads.items inside.queue in
    let there : repository core repo ≡ Some book = search rules in
    let is : c.route_read.result
    ≡ NoCurrentReplica c.in-NoCurrentReplica.newest c.in-NoCurrentReplica.current =
    search rules in
    let to = subst (Leads core repo book) is (led parts core c.self.view_is c.self.invariant repo
    book there c.route_read.result c.reads_of-reads.result c.underway-push.result
    c.reads_of-reads.ensures c.underway-push.ensures c.route_read.ensures) in
    read_refused core repo book
    (Some (refusal.NoCurrentReplica c.in-NoCurrentReplica.newest c.in-NoCurrentReplica.current))
    there to
