-- Rows that stand for a node, after changes that say what the node has then.
use Rattle.std.proofs.Common.{◌≡◌, ◌≢◌, ◌==◌, ℕ, List, [], ◌∷◌, ◌++◌, true, false, cond, Bool, Option, Some, None, refl, sym, ap, ◌∙◌, subst, ◌⊎◌, ⊎_elim, inl, inr}
use Rattle.std.specs.FinMap.{get}
use Rattle.std.specs.List.{AllByRecursion}
use Rattle.std.specs.Option.{option_map}
use Rattle.std.proofs.lemmas.Bool.{cond-true, cond-false, eqb-true}
use Rattle.px_base.specs.Object.{GitObject}
use Rattle.px_base.specs.RefList.{ref_at}
use Rattle.px_base.specs.RepoPath.{IsRepoPath}
use Rattle.px_base.specs.declared.hash.Hash.{Hash}
use Rattle.objstore.specs.Entries.{object_at, own_name}
use Rattle.px_keeper.proofs.Rows.{get-changed, one_row, rows_laws}
use Rattle.px_keeper.specs.Change.{Names, applied, changed, row_in, value_in}
use Rattle.px_keeper.specs.Row.{Rows, is_row, row_key}
use Rattle.px_keeper.specs.declared.change.Change.{Change}
use Rattle.px_keeper.specs.declared.row_key.RowKey.{RowKey}
use Rattle.node_rows.proofs.KeyLemmas.{IsCut-cut, cut_path}
use Rattle.node_calls.proofs.ReplicaLemmas.{this_or_other}
use Rattle.node_calls.specs.ReplicaState.{NodeState, ReplicaState}
use Rattle.node_rows.specs.Rows.{IsRow, StandFor, cut, is_untouched, object_bytes, object_row, ref_row, replica_bytes, replica_row, row_of, under}
use Rattle.node_rows.specs.Writes.{object_change, object_gone, ref_change, replica_change}

-- ---- changes that say what a node has

-- the change says what the node has at its row
abbrev pub Says : NodeState → Change → Type 0
Says node change = value_in change ≡ row_of node (row_in change)

-- the bytes that a node has at a row may stand there
pub IsRow-same : (row : RowKey) (wanted value : Option (List ℕ)) → value ≡ wanted
    → IsRow row wanted value
IsRow-same row wanted value same = subst (IsRow row wanted) (sym same) (at wanted)
  where
    at : (o : Option (List ℕ)) → IsRow row o o
    at None = tt
    at (Some bytes) = refl

-- after such changes a row that they name, or that was that of the node before, is
get-said : (rows : Rows) (changes : List Change) (node : NodeState) (row : RowKey)
    → AllByRecursion (Says node) changes
    → Names changes row ⊎ IsRow row (row_of node row) (get rows row)
    → IsRow row (row_of node row) (get (applied rows changes) row)
get-said rows [] node row says (inl named) = absurd named
get-said rows [] node row says (inr had) = had
get-said rows (change ∷ changes) node row says named_or =
    get-said (changed rows change) changes node row says.1 (later named_or)
  where
    here : row_in change ≡ row → value_in change ≡ row_of node row
    here same = says.0 ∙ ap (row_of node) same

    had_here : IsRow row (row_of node row) (get rows row) → (b : Bool)
        → is_row (row_in change) row ≡ b
        → IsRow row (row_of node row) (cond b (value_in change) (get rows row))
    had_here had true same =
        IsRow-same row (row_of node row) (value_in change)
        (here (one_row (row_in change) row same))
    had_here had false apart = had

    later : Names (change ∷ changes) row ⊎ IsRow row (row_of node row) (get rows row)
        → Names changes row ⊎ IsRow row (row_of node row) (get (changed rows change) row)
    later (inl (inl same)) = inr (IsRow-same row (row_of node row)
        (get (changed rows change) row) (get-changed rows change row
        ∙ cond-true (is_row (row_in change) row) (value_in change) (get rows row)
        (ap (is_row (row_in change)) (sym same) ∙ rows_laws.refl (row_in change))
        ∙ here same))
    later (inl (inr named)) = inl named
    later (inr had) = inr (subst (IsRow row (row_of node row)) (sym (get-changed rows change row))
        (had_here had (is_row (row_in change) row) refl))

-- rows that stand for a node stand for another after changes that say what that one has, where each
-- row is named by a change, or is the same in both
pub StandFor-applied : (rows : Rows) (changes : List Change) (old new : NodeState)
    → StandFor rows old → AllByRecursion (Says new) changes
    → ((row : RowKey) → Names changes row ⊎ (row_of new row ≡ row_of old row))
    → StandFor (applied rows changes) new
StandFor-applied rows changes old new stand says rest row small =
    get-said rows changes new row says
    (⊎_elim (λ named. inl named)
    (λ same. inr (subst (λ (o : Option (List ℕ)). IsRow row o (get rows row)) (sym same)
    (stand row small))) (rest row))

-- ---- lists of changes

pub all_append : {X : Type 0} (P : X → Type 0) (xs ys : List X) → AllByRecursion P xs
    → AllByRecursion P ys → AllByRecursion P (xs ++ ys)
all_append P [] ys all others = others
all_append P (x ∷ xs) ys all others = (all.0, all_append P xs ys all.1 others)

pub Names-front : (xs ys : List Change) (row : RowKey) → Names xs row → Names (xs ++ ys) row
Names-front [] ys row named = absurd named
Names-front (x ∷ xs) ys row (inl same) = inl same
Names-front (x ∷ xs) ys row (inr named) = inr (Names-front xs ys row named)

pub Names-back : (xs ys : List Change) (row : RowKey) → Names ys row → Names (xs ++ ys) row
Names-back [] ys row named = named
Names-back (x ∷ xs) ys row named = inr (Names-back xs ys row named)

-- ---- a node in which one repository changes

module _ (new : NodeState) (path : List ℕ) (lawful : IsRepoPath path) where
  pub Says-replica : (fence : ℕ) (last : Option ℕ) (held : Bool)
      → is_untouched (new path) ≡ false → (new path).fence ≡ fence → (new path).last ≡ last
      → (new path).held ≡ held → Says new (replica_change path fence last held)
  Says-replica fence last held touched same_fence same_last same_held =
      sym (cond-false (is_untouched (new path)) None
      (Some (replica_bytes (new path).fence (new path).last (new path).held)) touched
      ∙ ap (λ (f : ℕ). Some (replica_bytes f (new path).last (new path).held)) same_fence
      ∙ ap (λ (l : Option ℕ). Some (replica_bytes fence l (new path).held)) same_last
      ∙ ap (λ (h : Bool). Some (replica_bytes fence last h)) same_held)

  pub Says-ref : (name : List ℕ) (id : Option Hash) → id ≡ ref_at (new path).refs name
      → Says new (ref_change path name id)
  Says-ref name None is = ap (option_map (λ (h : Hash). h.0)) is
      ∙ sym (ap (ref_row new) (cut_path path name lawful))
  Says-ref name (Some id) is = ap (option_map (λ (h : Hash). h.0)) is
      ∙ sym (ap (ref_row new) (cut_path path name lawful))

  pub Says-object : (object : GitObject)
      → object_at (new path).objects (own_name object) ≡ Some object
      → Says new (object_change path object)
  Says-object object is = sym (ap (object_row new) (cut_path path (own_name object).0 lawful)
      ∙ ap (option_map object_bytes) is)

  pub Says-gone : (id : Hash) → object_at (new path).objects id ≡ None
      → Says new (object_gone path id)
  Says-gone id is = sym (ap (object_row new) (cut_path path id.0 lawful)
      ∙ ap (option_map object_bytes) is)

-- each row is named, or is the same in both, where those of the repository are
module _ (old new : NodeState) (path : List ℕ)
    (others : (other : List ℕ) → other ≢ path → new other ≡ old other) (Named : RowKey → Type 0)
    (replica : Named (row_key 6 path) ⊎ (replica_row (new path) ≡ replica_row (old path)))
    (refs : (name : List ℕ) → Named (row_key 7 (under path name))
    ⊎ (ref_at (new path).refs name ≡ ref_at (old path).refs name))
    (objects : (id : Hash) → Named (row_key 8 (under path id.0))
    ⊎ (object_at (new path).objects id ≡ object_at (old path).objects id)) where
  replica_rest : (key : List ℕ)
      → Named (row_key 6 key) ⊎ (replica_row (new key) ≡ replica_row (old key))
  replica_rest key =
      ⊎_elim (λ same. subst (λ (q : List ℕ). Named (row_key 6 q)
      ⊎ (replica_row (new q) ≡ replica_row (old q))) same replica)
      (λ alike. inr (ap replica_row alike)) (this_or_other old new path others key)

  ref_rest : (key : List ℕ) (parts : Option (List ℕ × List ℕ)) → cut key ≡ parts
      → Named (row_key 7 key) ⊎ (ref_row new parts ≡ ref_row old parts)
  ref_rest key None is = inr refl
  ref_rest key (Some parts) is =
      ⊎_elim
      (λ same. ⊎_elim
      (λ named. inl (subst (λ (k : List ℕ). Named (row_key 7 k))
      (ap (λ (q : List ℕ). under q parts.1) same ∙ sym (IsCut-cut key parts is).key_is) named))
      (λ alike. inr (subst (λ (q : List ℕ).
      option_map (λ (h : Hash). h.0) (ref_at (new q).refs parts.1)
      ≡ option_map (λ (h : Hash). h.0) (ref_at (old q).refs parts.1)) same
      (ap (option_map (λ (h : Hash). h.0)) alike)))
      (refs parts.1))
      (λ alike. inr (ap (λ (p : ReplicaState).
      option_map (λ (h : Hash). h.0) (ref_at p.refs parts.1)) alike))
      (this_or_other old new path others parts.0)

  object_rest : (key : List ℕ) (parts : Option (List ℕ × List ℕ)) → cut key ≡ parts
      → Named (row_key 8 key) ⊎ (object_row new parts ≡ object_row old parts)
  object_rest key None is = inr refl
  object_rest key (Some parts) is =
      let id : Hash = record { 0 = parts.1 } in
      ⊎_elim
      (λ same. ⊎_elim
      (λ named. inl (subst (λ (k : List ℕ). Named (row_key 8 k))
      (ap (λ (q : List ℕ). under q parts.1) same ∙ sym (IsCut-cut key parts is).key_is) named))
      (λ alike. inr (subst (λ (q : List ℕ). option_map object_bytes (object_at (new q).objects id)
      ≡ option_map object_bytes (object_at (old q).objects id)) same
      (ap (option_map object_bytes) alike)))
      (objects id))
      (λ alike. inr (ap (λ (p : ReplicaState). option_map object_bytes (object_at p.objects id)) alike))
      (this_or_other old new path others parts.0)

  pub named_or_same : (row : RowKey) → Named row ⊎ (row_of new row ≡ row_of old row)
  named_or_same row = at (row.table == 6) refl (row.table == 7) refl (row.table == 8) refl
    where
      in_table : (n : ℕ) → (row.table == n) ≡ true → Named (row_key n row.key)
          → Named row
      in_table n is named = subst (λ (t : ℕ). Named (row_key t row.key))
          (sym (eqb-true row.table n is)) named

      at : (six : Bool) → (row.table == 6) ≡ six → (seven : Bool) → (row.table == 7) ≡ seven
          → (eight : Bool) → (row.table == 8) ≡ eight
          → Named row ⊎ (cond six (replica_row (new row.key))
          (cond seven (ref_row new (cut row.key)) (cond eight (object_row new (cut row.key)) None))
          ≡ cond six (replica_row (old row.key))
          (cond seven (ref_row old (cut row.key)) (cond eight (object_row old (cut row.key)) None)))
      at true is seven _ eight _ = ⊎_elim (λ named. inl (in_table 6 is named)) (λ same. inr same)
          (replica_rest row.key)
      at false _ true is eight _ = ⊎_elim (λ named. inl (in_table 7 is named)) (λ same. inr same)
          (ref_rest row.key (cut row.key) refl)
      at false _ false _ true is = ⊎_elim (λ named. inl (in_table 8 is named)) (λ same. inr same)
          (object_rest row.key (cut row.key) refl)
      at false _ false _ false _ = inr refl
