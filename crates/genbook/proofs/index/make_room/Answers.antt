use Rattle.std.proofs.Common.{List, ℕ, ◌∙◌, subst, sym}
use Rattle.std.specs.Map.{lookup}
use Rattle.std.specs.Option.{IsSome}
use Rattle.px_base.specs.RefList.{is_name}
use Rattle.genbook.proofs.IndexLemmas.{none_from_test, some_put, stays_new}
use Rattle.genbook.proofs.index.make_room.Goals as goal

pub returns-in_ok-put_virtual-clause-stays : goal.returns-in_ok-put_virtual-clause-stays
returns-in_ok-put_virtual-clause-stays c =
    stays_new c.args.paths.now.entries c.put_virtual.new.paths.entries c.of-key.result c.new.result c.in_ok-put_virtual.ensures.ok
    (none_from_test (lookup (is_name c.of-key.result) c.args.paths.now.entries) (sym c.contains_key.ensures ∙ c.if-not-contains_key.true))
    c.new.ensures.empty

pub returns-in_ok-put_virtual-clause-room : goal.returns-in_ok-put_virtual-clause-room
returns-in_ok-put_virtual-clause-room c =
    subst (λ (v : List ℕ). IsSome (lookup (is_name v) c.put_virtual.new.paths.entries)) c.of-key.ensures
    (some_put c.args.paths.now.entries c.put_virtual.new.paths.entries c.of-key.result c.new.result c.in_ok-put_virtual.ensures.ok)
