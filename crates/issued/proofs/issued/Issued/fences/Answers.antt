use Rattle.std.proofs.Common.{◌≡◌, ◌∷◌, [], arith, refl, subst, sym}
use Rattle.issued.specs.Draws.{HasRoom}
use Rattle.issued.specs.Entries.{Entries}
use Rattle.issued.specs.Issued.{cluster_of, with_fence}
use Rattle.issued.proofs.Clusters.{fence_issued}
use Rattle.issued.proofs.Ledgers.{among_itself}
use Rattle.issued.proofs.issued.Issued.fences.Goals as goal

pub write-requires : goal.write-requires
write-requires c =
    let storage = c.args.storage in
    let repo = c.args.repo.0 in
    let room =
    subst (λ (old : Entries). HasRoom old.draws repo (storage.0 ∷ []) c.args.lease)
    (sym c.self.view_is) c.requires in
    room storage.0 (among_itself (storage ∷ []) 0 storage (omega arith))

pub returns : goal.returns
returns c =
    let inside = c.self.inside in
    let before : Entries = record {
      draws = inside.draws.entries;
      pushes = inside.pushes.entries;
      works = inside.works.entries;
    } in
    let now : Entries = record {
      draws = c.write.new.draws.entries;
      pushes = inside.pushes.entries;
      works = inside.works.entries;
    } in
    subst (λ (old : Entries). cluster_of now
    ≡ with_fence (cluster_of old) c.args.repo.0 c.args.storage.0 c.args.lease) c.self.view_is
    (fence_issued before now c.args.repo.0 c.args.storage.0 c.args.lease
    c.write.ensures.ledger (record { pushes = refl; works = refl }))
