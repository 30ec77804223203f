use Rattle.std.proofs.Common.{refl, subst}
use Rattle.issued.specs.Entries.{Entries}
use Rattle.issued.specs.Issued.{KeepsSnapshot}
use Rattle.issued.proofs.Clusters.{snapshot_kept}
use Rattle.issued.proofs.issued.Issued.keep_snapshot.Goals as goal

pub returns : goal.returns
returns c =
    let inside = c.self.inside in
    let before : Entries = record {
      draws = inside.draws.entries;
      pushes = inside.pushes.entries;
      works = inside.works.entries;
    } in
    let now : Entries = record {
      draws = c.keep.new.draws.entries;
      pushes = inside.pushes.entries;
      works = inside.works.entries;
    } in
    let snapshot = c.args.snapshot in
    subst (λ (old : Entries).
    KeepsSnapshot c.args.repo.0 c.args.storage.0 c.args.lease snapshot old now) c.self.view_is
    (snapshot_kept before now c.args.repo.0 c.args.storage.0 c.args.lease snapshot
    c.keep.ensures (record { pushes = refl; works = refl }))
