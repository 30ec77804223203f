use Rattle.std.proofs.Common.{◌≡◌, refl, subst}
use Rattle.issued.specs.Entries.{Entries}
use Rattle.issued.specs.Issued.{cluster_of, with_work}
use Rattle.issued.specs.Purposes.{purpose_drawn}
use Rattle.issued.proofs.Clusters.{work_issued}
use Rattle.issued.proofs.issued.Issued.issue_work.Goals as goal

pub returns : goal.returns
returns c =
    let purpose = purpose_drawn c.args.what in
    let inside = c.self.inside in
    let before : Entries = record {
      draws = inside.draws.entries;
      pushes = inside.pushes.entries;
      works = inside.works.entries;
    } in
    let now : Entries = record {
      draws = c.write.new.draws.entries;
      pushes = inside.pushes.entries;
      works = c.write-2.new.works.entries;
    } in
    let job = c.args.job.0 in
    subst (λ (old : Entries). cluster_of now
    ≡ with_work (cluster_of old) job c.args.repo.0 c.args.target.0 c.args.lease purpose)
    c.self.view_is
    (work_issued before now job c.args.repo.0 c.args.target.0 c.args.lease purpose
    c.write.ensures.ledger c.write-2.ensures refl)
