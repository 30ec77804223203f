-- A repository that is held, and its row of table 6, once that table was read.
use Rattle.std.proofs.Common.{◌≡◌, ◌<◌, ◌++◌, ℕ, List, [], ◌∷◌, true, false, not, cond, Bool, Option, Some, None, refl, sym, ap, ◌∙◌, subst, ⊎_elim, append_assoc, arith}
use Rattle.std.proofs.lemmas.Bool.{and_right, cond-false, cond-true, false≢true, lt-ltb, not_from_true, or_left}
use Rattle.std.proofs.lemmas.List.{same_from_push}
use Rattle.std.proofs.lemmas.Option.{same_Some}
use Rattle.px_base.specs.RepoPath.{IsRepoPath}
use Rattle.px_fields.specs.Fields.{flag, optional_u64, u64_bytes}
use Rattle.px_keeper.specs.Reading.{is_read}
use Rattle.px_keeper.specs.Row.{Rows, row_at, row_key}
use Rattle.node_rows.specs.BadRow.{IsHeldBy}
use Rattle.node_calls.specs.ReplicaState.{NodeState, ReplicaState}
use Rattle.node_rows.specs.Reading.{IsReadTo}
use Rattle.node_rows.specs.Rows.{IsRow, is_untouched, replica_bytes, replica_row}

-- the bytes of a row say whether the repository is held
held_said : (fence other : ℕ) (last least : Option ℕ) (held free : Bool)
    → replica_bytes fence last held ≡ replica_bytes other least free → held ≡ free
held_said fence other last least held free same = one held free
    (same_from_push (u64_bytes fence ++ optional_u64 last)
    (u64_bytes other ++ optional_u64 least) (flag held) (flag free)
    (append_assoc (u64_bytes fence) (optional_u64 last) (flag held ∷ []) ∙ same
    ∙ sym (append_assoc (u64_bytes other) (optional_u64 least) (flag free ∷ [])))).1
  where
    one : (a b : Bool) → flag a ≡ flag b → a ≡ b
    one true true is = refl
    one false false is = refl
    one true false is = absurd (omega arith)
    one false true is = absurd (omega arith)

module _ (rows : Rows) (table : ℕ) (last : Option (List ℕ)) (node : NodeState)
    (reads : IsReadTo rows table last node) (behind : 6 < table) (path : List ℕ) where
  -- its row was read
  row_read : IsRow (row_key 6 path) (replica_row (node path)) (row_at rows 6 path)
  row_read = subst (IsRow (row_key 6 path) (replica_row (node path)))
      (cond-true (is_read table last (row_key 6 path)) (row_at rows 6 path) None
      (or_left _ _ (lt-ltb 6 table behind)))
      (reads.has.are (row_key 6 path) (omega arith))

  -- where the node holds the repository, the row says so
  pub IsHeldBy-held : (node path).held ≡ true → IsHeldBy rows path
  IsHeldBy-held held =
      let place : ReplicaState = node path in
      let touched : is_untouched place ≡ false =
      and_right _ (not place.held) (not_from_true place.held held) in
      record {
        fence = place.fence;
        last = place.last;
        row = subst (λ (o : Option (List ℕ)). IsRow (row_key 6 path) o (row_at rows 6 path))
            (cond-false (is_untouched place) None
            (Some (replica_bytes place.fence place.last place.held)) touched) row_read
            ∙ ap (λ (h : Bool). Some (replica_bytes place.fence place.last h)) held;
      }

  -- and where the row says so, the node holds it
  pub held_by_row : IsHeldBy rows path → (node path).held ≡ true
  held_by_row by = at (is_untouched (node path))
      (subst (IsRow (row_key 6 path) (replica_row (node path))) by.row row_read)
    where
      at : (b : Bool) → IsRow (row_key 6 path)
          (cond b None (Some (replica_bytes (node path).fence (node path).last (node path).held)))
          (Some (replica_bytes by.fence by.last true)) → (node path).held ≡ true
      at true blank = absurd (false≢true
          (sym (held_said by.fence 0 by.last None true false blank.blank)))
      at false same = sym (held_said by.fence (node path).fence by.last (node path).last true
          (node path).held (same_Some _ _ same))

  -- the path of one that is held is a path
  pub held_path : (node path).held ≡ true → IsRepoPath path
  held_path held = ⊎_elim (λ is. is)
      (λ none. absurd (false≢true (ap (λ (p : ReplicaState). p.held) (sym none) ∙ held)))
      (reads.has.lawful.paths path)
