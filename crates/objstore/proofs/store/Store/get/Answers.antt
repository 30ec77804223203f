-- What is found is named by the id.
use Rattle.objstore.proofs.EntriesLemmas.{IsNamed-found}
use Rattle.objstore.proofs.store.Store.get.Goals as goal

pub returns-clause-named : goal.returns-clause-named
returns-clause-named c =
    IsNamed-found c.self.inside.objects.entries c.self.invariant.0 c.args.id.now c.get.result
    c.get.ensures.value
