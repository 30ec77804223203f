-- One row of table 6 more: a repository, and what was done there.
use Rattle.std.proofs.Common.{◌≡◌, ℕ, List, [], true, false, cond, Bool, Option, Some, None, refl, sym, ap, ◌∙◌, subst, inl, inr, arith}
use Rattle.std.proofs.lemmas.Bool.{and_parts, eqb-true, false≢true, not-true}
use Rattle.px_base.specs.RefList.{References, ref_at}
use Rattle.objstore.specs.Entries.{Entries, object_at}
use Rattle.px_keeper.specs.Keeper.{IsNext}
use Rattle.px_keeper.specs.Row.{Rows, row_key}
use Rattle.node_rows.proofs.LawfulReplicas.{IsLawful-changes, IsLawfulReplica-said, unready_changes}
use Rattle.node_rows.proofs.ReadRows.{first_bad, next_has_none, read_more}
use Rattle.node_rows.proofs.RowLemmas.{named_or_same}
use Rattle.node_rows.specs.BadRow.{IsFirstBad, IsGood, IsReplicaRow, object, reference, replica}
use Rattle.node_calls.specs.ReplicaState.{Changes, NodeState, ReplicaState}
use Rattle.node_rows.specs.Reading.{IsReadTo, said}
use Rattle.node_rows.specs.Rows.{IsRow, is_untouched, replica_bytes, replica_row}

-- the bytes that say that nothing was ever done
untouched_bytes : (fence : ℕ) (last : Option ℕ) (held : Bool)
    → is_untouched (said fence last held) ≡ true
    → replica_bytes fence last held ≡ replica_bytes 0 None false
untouched_bytes fence last true untouched =
    absurd (false≢true (and_parts _ _ untouched).1)
untouched_bytes fence (Some lease) false untouched =
    absurd (false≢true (and_parts _ _ (and_parts _ _ untouched).0).1)
untouched_bytes fence None false untouched =
    ap (λ (f : ℕ). replica_bytes f None false)
    (eqb-true fence 0 (and_parts _ _ (and_parts _ _ untouched).0).0)

-- the row is that of what it says
row_of_said : (key value : List ℕ) (is : IsReplicaRow key value)
    → IsRow (row_key 6 key) (replica_row (said is.fence is.last is.held)) (Some value)
row_of_said key value is = at (is_untouched (said is.fence is.last is.held)) refl
  where
    at : (b : Bool) → is_untouched (said is.fence is.last is.held) ≡ b
        → IsRow (row_key 6 key) (cond b None (Some (replica_bytes is.fence is.last is.held)))
        (Some value)
    at true untouched = record {
      table = refl;
      path = is.lawful;
      blank = is.is ∙ untouched_bytes is.fence is.last is.held untouched;
    }
    at false touched = ap Some is.is

module _ (rows : Rows) (last : Option (List ℕ)) (old : NodeState) (key value : List ℕ)
    (reads : IsReadTo rows 6 last old) (next : IsNext rows 6 last key value) where
  -- as its row was not read, nothing was done in the repository
  untouched : is_untouched (old key) ≡ true
  untouched = none_where (is_untouched (old key))
      (replica_bytes (old key).fence (old key).last (old key).held)
      (next_has_none rows 6 last key value next old reads (omega arith))
    where
      none_where : (b : Bool) (bytes : List ℕ) → cond b None (Some bytes) ≡ None → b ≡ true
      none_where true bytes is = refl
      none_where false bytes is = absurd (cc)

  -- so it had nothing
  nothing_there : ((old key).refs ≡ []) × ((old key).objects ≡ [])
  nothing_there =
      (reads.has.lawful.places key).empty (not-true (old key).held (and_parts _ _ untouched).1)

  -- and then it has what the row says
  pub read_replica : (new : NodeState) (is : IsReplicaRow key value)
      → Changes old new key (said is.fence is.last is.held) → IsReadTo rows 6 (Some key) new
  read_replica new is changes =
      read_more rows 6 last key value next old new reads
      (subst (λ (p : ReplicaState). IsRow (row_key 6 key) (replica_row p) (Some value))
      (sym changes.here) (row_of_said key value is))
      (named_or_same old new key changes.others (λ row. row_key 6 key ≡ row) (inl refl)
      (λ name. inr (ap (λ (p : ReplicaState). ref_at p.refs name) changes.here
      ∙ sym (ap (λ (r : References). ref_at r name) nothing_there.0)))
      (λ id. inr (ap (λ (p : ReplicaState). object_at p.objects id) changes.here
      ∙ sym (ap (λ (s : Entries). object_at s id) nothing_there.1))))
      (replica refl is)
      (IsLawful-changes old new key (said is.fence is.last is.held) changes reads.has.lawful is.lawful
      (IsLawfulReplica-said is.fence is.last is.held is.fence_fits is.last_fits))
      (unready_changes old new key (said is.fence is.last is.held) changes reads.has.unready refl)

  -- a row that tells of no repository is the first bad one
  pub bad_replica : ¬ (IsReplicaRow key value) → IsFirstBad rows (row_key 6 key)
  bad_replica none = first_bad rows 6 last key value next old reads bad
    where
      bad : IsGood rows (row_key 6 key) value → ⊥
      bad (replica is good) = none good
      bad (reference is good) = absurd (omega arith)
      bad (object is good) = absurd (omega arith)
