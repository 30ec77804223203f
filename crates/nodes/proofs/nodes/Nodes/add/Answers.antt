use Rattle.std.proofs.Common.{sym}
use Rattle.std.specs.Prelude.{vec_capacity}
use Rattle.nodes.proofs.Added.{added}
use Rattle.nodes.proofs.nodes.Nodes.add.Goals as goal

pub returns-in-Some : goal.returns-in-Some
returns-in-Some c =
    added c.self.inside.shelves.items c.push_reserved.new.self.items
    (λ shelf. shelf.replicas.entries) c.self.inside.ready c.take.new.self c.in-Some.shelf
    (vec_capacity c.self.inside.shelves) c.args.self.now c.self.view_is
    (sym c.in-Some.ensures.value) c.self.invariant c.push_reserved.ensures.items
    c.in-Some.ensures.after
