use Rattle.std.proofs.Common.{◌≡◌, false, refl, subst}
use Rattle.px_cluster.specs.Issues.{with_drawn}
use Rattle.px_cluster.specs.Ledger.{Creation}
use Rattle.genbook.specs.Changes.{numbers_of}
use Rattle.issued.specs.Entries.{Entries}
use Rattle.issued.specs.Issued.{cluster_of}
use Rattle.issued.proofs.Clusters.{drawn_in}
use Rattle.issued.proofs.issued.Issued.creates.Goals as goal

pub returns : goal.returns
returns c =
    let storages = numbers_of c.args.storages.now in
    let inside = c.self.inside in
    let before : Entries = record {
      draws = inside.draws.entries;
      pushes = inside.pushes.entries;
      works = inside.works.entries;
    } in
    let now : Entries = record {
      draws = c.write_each.new.draws.entries;
      pushes = inside.pushes.entries;
      works = inside.works.entries;
    } in
    subst (λ (old : Entries). cluster_of now
    ≡ with_drawn (cluster_of old) c.args.repo.0 storages c.args.lease (Creation false))
    c.self.view_is
    (drawn_in before now c.args.repo.0 storages c.args.lease (Creation false)
    c.write_each.ensures (record { pushes = refl; works = refl }))
