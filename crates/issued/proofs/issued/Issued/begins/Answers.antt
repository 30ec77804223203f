use Rattle.std.proofs.Common.{refl, subst}
use Rattle.genbook.specs.Changes.{numbers_of}
use Rattle.issued.specs.Entries.{Entries}
use Rattle.issued.specs.Issued.{IssuesPush}
use Rattle.issued.proofs.Clusters.{push_issued}
use Rattle.issued.proofs.issued.Issued.begins.Goals as goal

pub returns : goal.returns
returns c =
    let members = numbers_of c.args.members.now in
    let inside = c.self.inside in
    let before : Entries = record {
      draws = inside.draws.entries;
      pushes = inside.pushes.entries;
      works = inside.works.entries;
    } in
    let now : Entries = record {
      draws = c.write_each.new.draws.entries;
      pushes = c.write.new.pushes.entries;
      works = inside.works.entries;
    } in
    subst (λ (old : Entries).
    IssuesPush c.args.tx c.args.repo.0 members c.args.lease c.args.begun.0 old now)
    c.self.view_is
    (push_issued before now c.args.tx c.args.repo.0 members c.args.lease c.args.begun.0
    c.write_each.ensures c.write.ensures refl)
