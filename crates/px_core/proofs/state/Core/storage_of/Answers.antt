use Rattle.std.proofs.Common.{◌≡◌, None, rules, sym, subst}
use Rattle.genbook.specs.Books.{known_as}
use Rattle.px_cluster.specs.Core.{Core}
use Rattle.px_core.specs.Readers.{storage_of}
use Rattle.px_core.proofs.StorageNames.{known_none}
use Rattle.px_core.proofs.state.Core.storage_of.Goals as goal

pub returns-in_err-storage : goal.returns-in_err-storage
returns-in_err-storage c =
    let none : known_as c.self.inside.book.storages c.args.name.now ≡ None = search rules in
    let unknown = known_none c.self.inside.book.storages c.args.name.now none in
    let here : None ≡ storage_of c.args.self.now c.args.name.now =
    sym (subst (λ (known : Core). storage_of known c.args.name.now ≡ None) c.self.view_is
    unknown) in
    search (rules, here)
