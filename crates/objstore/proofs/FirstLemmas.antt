-- A walk has one first id without an object.
use Rattle.std.proofs.Common.{◌≡◌, ℕ, zero, suc, ◌<◌, List, [], ◌∷◌, sym, ap, ◌∙◌, subst, ⊎_elim, arith}
use Rattle.std.specs.List.{Contains}
use Rattle.std.specs.Option.{IsSome}
use Rattle.std.proofs.lemmas.Bool.{cases_lt, false≢true}
use Rattle.std.proofs.lemmas.List.Elements.{Contains-append_left, Contains-push}
use Rattle.px_base.specs.declared.hash.Hash.{Hash}
use Rattle.objstore.proofs.Ids.{Contains-same}
use Rattle.objstore.proofs.WalkLemmas.{front_off}
use Rattle.objstore.proofs.QueuedLemmas.{taken-all_queued}
use Rattle.objstore.specs.Reach.{Objects, links_in}
use Rattle.objstore.specs.Walk.{Walk, one_step, walk_after, IsFirstMissing}

module _ (objects : Objects) (tips : List Hash) where
  -- what was taken stays taken
  taken_stays : (taken waiting : List Hash) (q : Hash) → Contains taken q
      → Contains (one_step objects taken waiting).taken q
  taken_stays taken [] q was = was
  taken_stays taken (id ∷ waiting) q was =
      Contains-same q (sym (taken-all_queued (front_off taken id waiting) (links_in (objects id))))
      (Contains-append_left taken (id ∷ []) q was)

  -- the one in front is taken in the step
  front_taken : (taken waiting rest : List Hash) (id : Hash) → waiting ≡ id ∷ rest
      → Contains (one_step objects taken waiting).taken id
  front_taken taken waiting rest id front =
      Contains-same id
      (sym (ap (λ (ids : List Hash). (one_step objects taken ids).taken) front
      ∙ taken-all_queued (front_off taken id rest) (links_in (objects id))))
      (Contains-push taken id)

  -- so it has been taken later
  taken_later : (m n : ℕ) (id : Hash) (rest : List Hash) → n < m
      → (walk_after objects tips n).waiting ≡ id ∷ rest
      → Contains (walk_after objects tips m).taken id
  taken_later zero n id rest below front = absurd (omega arith)
  taken_later (suc m) n id rest below front =
      let walk = walk_after objects tips m in
      ⊎_elim
      (λ earlier. taken_stays walk.taken walk.waiting id (taken_later m n id rest earlier front))
      (λ now. let same : n ≡ m = omega arith in
      front_taken walk.taken walk.waiting rest id
      (ap (λ k. (walk_after objects tips k).waiting) (sym same) ∙ front))
      (cases_lt n m)

  -- so none of two comes before the other
  none_before : (id other : Hash) (first : IsFirstMissing objects tips id)
      (second : IsFirstMissing objects tips other) → first.walk.steps < second.walk.steps → ⊥
  none_before id other first second below =
      let front = ap (λ (w : Walk). w.waiting) first.walk.is in
      let was = taken_later second.walk.steps first.walk.steps id first.waiting below front in
      let found = second.found id
      (Contains-same id (ap (λ (w : Walk). w.taken) second.walk.is) was) in
      false≢true (subst IsSome first.missing found)

  -- two in front after as many steps are one
  one_in_front : (id other : Hash) (first : IsFirstMissing objects tips id)
      (second : IsFirstMissing objects tips other) → first.walk.steps ≡ second.walk.steps
      → id ≡ other
  one_in_front id other first second same =
      let fronts : (id ∷ first.waiting) ≡ (other ∷ second.waiting) =
      ap (λ (w : Walk). w.waiting)
      (sym first.walk.is ∙ ap (walk_after objects tips) same ∙ second.walk.is) in
      cc

  -- so there is one
  pub one_first : (id other : Hash) → IsFirstMissing objects tips id
      → IsFirstMissing objects tips other → id ≡ other
  one_first id other first second =
      ⊎_elim (λ below. absurd (none_before id other first second below))
      (λ reaches. ⊎_elim (λ below. absurd (none_before other id second first below))
      (λ reaches'. one_in_front id other first second (omega arith))
      (cases_lt second.walk.steps first.walk.steps))
      (cases_lt first.walk.steps second.walk.steps)
