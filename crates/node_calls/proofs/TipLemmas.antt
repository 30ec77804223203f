-- What holds of the objects that references name, and that updates give to names, holds of those
-- that the references name after the updates.
use Rattle.std.proofs.Common.{List, [], ◌∷◌, true, false, Bool, cond}
use Rattle.std.specs.BTreeMap.{insert_entry, is_at}
use Rattle.std.specs.List.{All}
use Rattle.std.specs.Map.{remove_entry, values_of}
use Rattle.std.proofs.lemmas.List.Elements.{All-head, All-tail}
use Rattle.std.proofs.lemmas.Map.Views.{All-map-remove_entry, All-values-insert_entry}
use Rattle.px_base.specs.Hash.{is_zero}
use Rattle.px_base.specs.RefList.{References, name_cmp}
use Rattle.px_base.specs.declared.hash.Hash.{Hash}
use Rattle.px_base.specs.declared.push.Update.{Update}
use Rattle.refstore.specs.Updates.{after, updated}
use Rattle.node_calls.specs.Calls.{new_tips}
use Rattle.std.specs.Prelude.{ℕ, not}

module _ (P : Hash → Type 0) where
  all_updated : (refs : References) (update : Update) (tips : List Hash) → All P (values_of refs)
      → All P (cond (not (is_zero update.new)) (update.new ∷ tips) tips)
      → All P (values_of (updated refs update)) × All P tips
  all_updated refs update tips here given = at (is_zero update.new) given
    where
      at : (b : Bool) → All P (cond (not b) (update.new ∷ tips) tips)
          → All P (values_of (cond b (remove_entry (is_at (name_cmp update.name)) refs)
          (insert_entry name_cmp refs update.name update.new))) × All P tips
      at true given = (
        All-map-remove_entry (is_at (name_cmp update.name)) (λ (e : List ℕ × Hash). e.1) P refs here,
        given,
      )
      at false given = (
        All-values-insert_entry name_cmp update.name update.new P refs here
            (All-head P update.new tips given),
        All-tail P update.new tips given,
      )

  pub all_after : (refs : References) (updates : List Update) → All P (values_of refs)
      → All P (new_tips updates) → All P (values_of (after refs updates))
  all_after refs [] here given = here
  all_after refs (update ∷ updates) here given =
      let both = all_updated refs update (new_tips updates) here given in
      all_after (updated refs update) updates both.0 both.1
