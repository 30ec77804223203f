-- References that name ids of 20 bytes.
use Rattle.std.proofs.Common.{◌≡◌, List, [], ◌∷◌, true, false, cond, Bool, Some, subst, ⊎_elim, inl, inr}
use Rattle.std.specs.List.{AllByRecursion}
use Rattle.std.specs.Map.{values_of}
use Rattle.px_base.specs.Hash.{IsHash}
use Rattle.px_base.specs.RefList.{References, is_name, ref_at}
use Rattle.px_base.specs.Update.{AreUpdates}
use Rattle.px_base.specs.declared.push.Update.{Update}
use Rattle.refstore.proofs.After.{Ascends, Sets, Stands, after_cases}
use Rattle.refstore.specs.Updates.{after}
use Rattle.node_replica.specs.Hashes.{NameHashes}

-- where all ids are such, each name has one
pub NameHashes-values : (refs : References) → AllByRecursion IsHash (values_of refs)
    → NameHashes refs
NameHashes-values [] all name id has = absurd (cc)
NameHashes-values (ref ∷ refs) all name id has =
    at (is_name name ref.0) has (NameHashes-values refs all.1 name id)
  where
    at : (b : Bool) → cond b (Some ref.1) (ref_at refs name) ≡ Some id
        → (ref_at refs name ≡ Some id → IsHash id) → IsHash id
    at true here rest = let same : ref.1 ≡ id = cc in subst IsHash same all.0
    at false there rest = rest there

-- the new id of an update of a list is one
pub given_hash : (updates : List Update) → AreUpdates updates → (update : Update)
    → Stands updates update → IsHash update.new
given_hash [] all update stands = absurd stands
given_hash (first ∷ updates) all update (inl same) =
    subst (λ (u : Update). IsHash u.new) same all.0.new
given_hash (first ∷ updates) all update (inr stands) = given_hash updates all.1 update stands

-- and still does after updates that give such
pub NameHashes-after : (refs : References) (updates : List Update) → Ascends refs
    → NameHashes refs → ((update : Update) → Stands updates update → IsHash update.new)
    → NameHashes (after refs updates)
NameHashes-after refs updates ascends names gives name id has =
    ⊎_elim (λ had. names name id had)
    (λ (sets : Sets updates name id). subst IsHash sets.gives (gives sets.update sets.stands))
    (after_cases refs updates ascends name id has)
