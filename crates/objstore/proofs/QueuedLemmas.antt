-- What has stood in a queue once ids were queued: what stood there before, and they, each once.
use Rattle.std.proofs.Common.{◌≡◌, true, false, ◌⊎◌, List, [], ◌∷◌, ◌++◌, sym, refl, ap, ◌∙◌, subst, inl, inr, ⊎_elim, append_assoc}
use Rattle.std.specs.List.{Contains, IsDistinct}
use Rattle.std.proofs.lemmas.Bool.{cases_Bool, cond-true, cond-false}
use Rattle.std.proofs.lemmas.List.Elements.{Contains-append_left, Contains-push, Contains-push_cases}
use Rattle.std.proofs.lemmas.Map.Keys.{IsDistinct-push}
use Rattle.px_base.specs.declared.hash.Hash.{Hash}
use Rattle.objstore.proofs.Ids.{ids_laws, Contains_from_among, Contains-first, Contains-later, Contains-cases, Contains-same, none_stands}
use Rattle.objstore.specs.Entries.{is_id, is_among}
use Rattle.objstore.specs.Walk.{Walk, stood, queued, all_queued}

-- ---- one id

-- it stood there, and nothing changed; or it did not, and it is the last one now
stood-queued : (walk : Walk) (id : Hash)
    → ((is_among id (stood walk) ≡ true) × (stood (queued walk id) ≡ stood walk))
    ⊎ ((is_among id (stood walk) ≡ false) × (stood (queued walk id) ≡ stood walk ++ id ∷ []))
unfolding queued
stood-queued walk id =
    ⊎_elim (λ t. inl (t, ap stood (cond-true (is_among id (stood walk)) _ _ t)))
    (λ f. inr (
      f,
      ap stood (cond-false (is_among id (stood walk)) _ _ f)
          ∙ sym (append_assoc walk.taken walk.waiting (id ∷ [])),
    ))
    (cases_Bool (is_among id (stood walk)))

-- nothing was taken
taken-queued : (walk : Walk) (id : Hash) → (queued walk id).taken ≡ walk.taken
unfolding queued
taken-queued walk id =
    ⊎_elim (λ t. ap (λ (w : Walk). w.taken) (cond-true (is_among id (stood walk)) _ _ t))
    (λ f. ap (λ (w : Walk). w.taken) (cond-false (is_among id (stood walk)) _ _ f))
    (cases_Bool (is_among id (stood walk)))

-- what stood there has stood there
keeps_one : (walk : Walk) (id q : Hash) → Contains (stood walk) q
    → Contains (stood (queued walk id)) q
keeps_one walk id q stands =
    ⊎_elim (λ t. Contains-same q (sym t.1) stands)
    (λ f. Contains-same q (sym f.1) (Contains-append_left (stood walk) (id ∷ []) q stands))
    (stood-queued walk id)

-- and so has the id
has_one : (walk : Walk) (id : Hash) → Contains (stood (queued walk id)) id
has_one walk id =
    ⊎_elim (λ t. Contains-same id (sym t.1) (Contains_from_among (stood walk) id t.0))
    (λ f. Contains-same id (sym f.1) (Contains-push (stood walk) id))
    (stood-queued walk id)

-- and no other
only_one : (walk : Walk) (id q : Hash) → Contains (stood (queued walk id)) q
    → Contains (stood walk) q ⊎ (id ≡ q)
only_one walk id q stands =
    ⊎_elim (λ t. inl (Contains-same q t.1 stands))
    (λ f. Contains-push_cases (stood walk) id q (Contains-same q f.1 stands))
    (stood-queued walk id)

-- each once
distinct_one : (walk : Walk) (id : Hash) → IsDistinct is_id (stood walk)
    → IsDistinct is_id (stood (queued walk id))
distinct_one walk id distinct =
    ⊎_elim (λ t. subst (IsDistinct is_id) (sym t.1) distinct)
    (λ f. subst (IsDistinct is_id) (sym f.1)
    (IsDistinct-push ids_laws (stood walk) id distinct f.0))
    (stood-queued walk id)

-- ---- a list of ids

-- nothing was taken
pub taken-all_queued : (walk : Walk) (ids : List Hash) → (all_queued walk ids).taken ≡ walk.taken
taken-all_queued walk [] = refl
taken-all_queued walk (id ∷ ids) = taken-all_queued (queued walk id) ids ∙ taken-queued walk id

-- what stood there has stood there
pub keeps_all : (walk : Walk) (ids : List Hash) (q : Hash) → Contains (stood walk) q
    → Contains (stood (all_queued walk ids)) q
keeps_all walk [] q stands = stands
keeps_all walk (id ∷ ids) q stands = keeps_all (queued walk id) ids q (keeps_one walk id q stands)

-- and so has each id of the list
pub has_all : (walk : Walk) (ids : List Hash) (q : Hash) → Contains ids q
    → Contains (stood (all_queued walk ids)) q
has_all walk [] q stands = absurd (none_stands q stands)
has_all walk (id ∷ ids) q stands =
    ⊎_elim (λ e. keeps_all (queued walk id) ids q
    (subst (λ (p : Hash). Contains (stood (queued walk id)) p) e (has_one walk id)))
    (λ later. has_all (queued walk id) ids q later)
    (Contains-cases id ids q stands)

-- and no other
pub only_all : (walk : Walk) (ids : List Hash) (q : Hash) → Contains (stood (all_queued walk ids)) q
    → Contains (stood walk) q ⊎ Contains ids q
only_all walk [] q stands = inl stands
only_all walk (id ∷ ids) q stands =
    ⊎_elim
    (λ now. ⊎_elim (λ before. inl before)
    (λ e. inr (subst (λ (p : Hash). Contains (id ∷ ids) p) e (Contains-first id ids)))
    (only_one walk id q now))
    (λ later. inr (Contains-later id ids q later))
    (only_all (queued walk id) ids q stands)

-- each once
pub distinct_all : (walk : Walk) (ids : List Hash) → IsDistinct is_id (stood walk)
    → IsDistinct is_id (stood (all_queued walk ids))
distinct_all walk [] distinct = distinct
distinct_all walk (id ∷ ids) distinct =
    distinct_all (queued walk id) ids (distinct_one walk id distinct)
