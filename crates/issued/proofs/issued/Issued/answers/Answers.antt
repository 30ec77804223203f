use Rattle.std.proofs.Common.{refl, subst}
use Rattle.issued.specs.Entries.{Entries}
use Rattle.issued.specs.Issued.{KeepsAnswer}
use Rattle.issued.proofs.Clusters.{answer_kept}
use Rattle.issued.proofs.issued.Issued.answers.Goals as goal

pub returns : goal.returns
returns c =
    let inside = c.self.inside in
    let before : Entries = record {
      draws = inside.draws.entries;
      pushes = inside.pushes.entries;
      works = inside.works.entries;
    } in
    let now : Entries = record {
      draws = c.answer.new.draws.entries;
      pushes = inside.pushes.entries;
      works = inside.works.entries;
    } in
    subst (λ (old : Entries). KeepsAnswer c.args.repo.0 c.args.storage.0 c.args.lease old now)
    c.self.view_is
    (answer_kept before now c.args.repo.0 c.args.storage.0 c.args.lease c.answer.ensures
    (record { pushes = refl; works = refl }))
