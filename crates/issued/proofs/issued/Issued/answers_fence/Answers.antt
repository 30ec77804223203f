use Rattle.std.proofs.Common.{refl, subst}
use Rattle.issued.specs.Entries.{Entries}
use Rattle.issued.specs.Issued.{KeepsFenceAnswer}
use Rattle.issued.proofs.Clusters.{fence_answer_kept}
use Rattle.issued.proofs.issued.Issued.answers_fence.Goals as goal

pub returns : goal.returns
returns c =
    let inside = c.self.inside in
    let before : Entries = record {
      draws = inside.draws.entries;
      pushes = inside.pushes.entries;
      works = inside.works.entries;
    } in
    let now : Entries = record {
      draws = c.answer_fence.new.draws.entries;
      pushes = inside.pushes.entries;
      works = inside.works.entries;
    } in
    let last = c.args.last in
    subst (λ (old : Entries).
    KeepsFenceAnswer c.args.repo.0 c.args.storage.0 c.args.lease last old now) c.self.view_is
    (fence_answer_kept before now c.args.repo.0 c.args.storage.0 c.args.lease last
    c.answer_fence.ensures (record { pushes = refl; works = refl }))
