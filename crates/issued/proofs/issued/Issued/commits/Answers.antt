use Rattle.std.proofs.Common.{refl, subst}
use Rattle.issued.specs.Entries.{Entries}
use Rattle.issued.specs.Issued.{IssuesCommit}
use Rattle.issued.proofs.Clusters.{commit_issued}
use Rattle.issued.proofs.issued.Issued.commits.Goals as goal

pub returns : goal.returns
returns c =
    let inside = c.self.inside in
    let before : Entries = record {
      draws = inside.draws.entries;
      pushes = inside.pushes.entries;
      works = inside.works.entries;
    } in
    let now : Entries = record {
      draws = c.commit.new.draws.entries;
      pushes = inside.pushes.entries;
      works = inside.works.entries;
    } in
    let hash = c.args.verdict.now.hash in
    subst (λ (old : Entries).
    IssuesCommit c.args.repo.0 c.args.storage.0 c.args.lease hash old now) c.self.view_is
    (commit_issued before now c.args.repo.0 c.args.storage.0 c.args.lease hash
    c.commit.ensures (record { pushes = refl; works = refl }))
