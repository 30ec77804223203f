-- How a queue in memory goes on.
use Rattle.std.proofs.Common.{◌≡◌, ℕ, ◌≤◌, Bool, true, false, cond, ◌||◌, List, [], ◌∷◌, ◌++◌, length, take, drop, sym, refl, ap, ◌∙◌, take-append-drop}
use Rattle.std.proofs.lemmas.Bool.{cond-true, cond-false}
use Rattle.std.proofs.lemmas.List.{take-append-le, drop-append-le}
use Rattle.std.proofs.lemmas.List.Folds.{list_any-append}
use Rattle.px_base.specs.declared.hash.Hash.{Hash}
use Rattle.objstore.proofs.Ids.{ids_laws}
use Rattle.objstore.specs.Entries.{is_id, is_among}
use Rattle.objstore.specs.Walk.{Walk, queued}

-- the walk of which n of these ids were taken
abbrev pub part_taken : ℕ → List Hash → Walk
part_taken n ids = record { taken = take n ids; waiting = drop n ids }

-- an id that stood there is not queued
pub queued-again : (n : ℕ) (ids : List Hash) (id : Hash) → is_among id ids ≡ true
    → part_taken n ids ≡ queued (part_taken n ids) id
unfolding queued
queued-again n ids id found =
    sym (cond-true (is_among id (take n ids ++ drop n ids)) _ _
    (ap (is_among id) (take-append-drop n ids) ∙ found))

-- another one comes to the back
pub queued-first : (n : ℕ) (ids : List Hash) (id : Hash) → n ≤ length ids → is_among id ids ≡ false
    → part_taken n (ids ++ id ∷ []) ≡ queued (part_taken n ids) id
unfolding queued
queued-first n ids id within missing =
    rw (take-append-le n ids (id ∷ []) within, drop-append-le n ids (id ∷ []) within)
    (sym (cond-false (is_among id (take n ids ++ drop n ids)) _ _
    (ap (is_among id) (take-append-drop n ids) ∙ missing)))

-- either of two tests, in both spellings
either : (t b : Bool) → cond t true b ≡ (b || (t || false))
either true true = refl
either true false = refl
either false true = refl
either false false = refl

-- what has stood there after an id more
pub is_among-more : (q id : Hash) (ids : List Hash)
    → cond (is_id id q) true (is_among q ids) ≡ is_among q (ids ++ id ∷ [])
is_among-more q id ids =
    either (is_id id q) (is_among q ids)
    ∙ ap (λ b. is_among q ids || (b || false)) (ids_laws.symm id q)
    ∙ sym (list_any-append (is_id q) ids (id ∷ []))
