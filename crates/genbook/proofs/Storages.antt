-- Storages by their numbers.
use Rattle.std.proofs.Common.{◌≡◌, ◌==◌, ◌||◌, ℕ, List, [], ◌∷◌, refl, ap}
use Rattle.std.specs.List.{list_any}
use Rattle.px_base.specs.declared.ids.StorageId.{StorageId}
use Rattle.px_cluster.specs.Numbers.{is_one_of}
use Rattle.genbook.specs.Changes.{numbers_of}

-- a storage is one of these where its number is one of theirs
pub among_numbers : (number : ℕ) (storages : List StorageId)
    → list_any (λ (storage : StorageId). storage.0 == number) storages
    ≡ is_one_of number (numbers_of storages)
among_numbers number [] = refl
among_numbers number (storage ∷ storages) =
    ap (λ (rest : _). (storage.0 == number) || rest) (among_numbers number storages)
