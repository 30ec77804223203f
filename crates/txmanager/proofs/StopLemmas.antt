-- A stop from the last subtransaction to the first.
use Rattle.std.proofs.Common.{◌≡◌, ℕ, List, [], ◌∷◌, ap, sym, ◌∙◌, refl, zero, suc, map, length}
use Rattle.voters.specs.Votes.{Votes, changed_at}
use Rattle.txmanager.specs.Readings.{stopped_back}
use Rattle.txmanager.specs.Rounds.{stopped}

-- the first stands in front of all of them, and comes last
stopped_back-cons : (n : ℕ) (x : Votes) (xs : List Votes) → stopped_back (suc n) (x ∷ xs) ≡ stopped x ∷ stopped_back n xs
stopped_back-cons zero x xs = refl
stopped_back-cons (suc n) x xs = stopped_back-cons n x (changed_at n stopped xs)

pub back_is_each : (xs : List Votes) → map stopped xs ≡ stopped_back (length xs) xs
back_is_each [] = refl
back_is_each (x ∷ xs) = ap (λ (ys : List Votes). stopped x ∷ ys) (back_is_each xs) ∙ sym (stopped_back-cons (length xs) x xs)
