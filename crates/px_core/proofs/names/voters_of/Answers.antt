use Rattle.std.proofs.Common.{◌≤◌, ◌∙◌, ◌∷◌, List, ℕ, ap, arith, length, map, max, sym}
use Rattle.std.proofs.lemmas.List.{take_all}
use Rattle.px_base.specs.declared.ids.StorageId.{StorageId}
use Rattle.px_base.specs.declared.voter.Voter.{Voter}
use Rattle.px_cluster.specs.Members.{voter_with}
use Rattle.genbook.specs.Books.{core_of}
use Rattle.genbook.specs.Changes.{numbers_of}
use Rattle.px_core.proofs.ByNumbers.{map_numbers, numbers_as_many}
use Rattle.px_core.proofs.names.voters_of.Goals as goal

pub returns : goal.returns
returns c =
    let others = c.args.secondaries.now in
    let core = core_of c.args.book.now in
    let leader = λ (count : ℕ). voter_with core (max 1 count) c.args.primary.0 in
    let passed : length others ≤ c.loop-storage.storage-index =
    omega (arith, c.loop-storage.auto.storage-index-end, c.loop-storage-test.false) in
    c.loop-storage.invariant
    ∙ ap (λ (each : List StorageId). leader (length others)
    ∷ map (λ (storage : StorageId). voter_with core 1 storage.0) each)
    (take_all c.loop-storage.storage-index others passed)
    ∙ ap (λ (voters : List Voter). leader (length others) ∷ voters)
    (map_numbers (voter_with core 1) others)
    ∙ ap (λ (count : ℕ). leader count ∷ map (voter_with core 1) (numbers_of others))
    (sym (numbers_as_many others))
