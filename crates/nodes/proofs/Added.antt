-- One node more, which has nothing.
use Rattle.std.proofs.Common.{◌≡◌, ◌+◌, ◌++◌, ◌∷◌, [], ℕ, zero, suc, List, map, true, false, is_some, length, Option, None, Some, IfSome, refl, sym, ap, ◌∙◌, subst, slice_get, arith}
use Rattle.std.proofs.Math.Path.{fun_ext}
use Rattle.px_node.specs.Shelf.{Replicas, place_at}
use Rattle.node_calls.specs.ReplicaState.{nothing}
use Rattle.nodes.specs.State.{IsReady, KeptNodes, had_by, state_of, with_ready}

module _ {S : Type 0} (view : S → Replicas) (shelf : S)
    (empty : (path : List ℕ) → place_at (view shelf) path ≡ nothing) where
  -- at the end of the list it changes nothing of what each node has
  had_by-append : (shelves : List S) (storage : ℕ)
      → had_by (slice_get (map view (shelves ++ shelf ∷ [])) storage)
      ≡ had_by (slice_get (map view shelves) storage)
  had_by-append [] zero = fun_ext empty
  had_by-append [] (suc storage) = refl
  had_by-append (first ∷ shelves) zero = refl
  had_by-append (first ∷ shelves) (suc storage) = had_by-append shelves storage

  -- there is one node more
  length-append : (shelves : List S)
      → length (map view (shelves ++ shelf ∷ [])) ≡ length (map view shelves) + 1
  length-append [] = refl
  length-append (first ∷ shelves) = omega (arith, length-append shelves)

  appended : (shelves : List S)
      → state_of (record { nodes = map view (shelves ++ shelf ∷ []); ready = false })
      ≡ with_ready (state_of (record { nodes = map view shelves; ready = true }))
  appended shelves =
      let node = fun_ext (had_by-append shelves) in
      let count = length-append shelves in
      λ i. record { node = node i; count = count i; ready = false }

-- the node that was ready is added
pub added : {S : Type 0} (shelves more : List S) (view : S → Replicas) (was now : Option S)
    (shelf : S) (capacity : ℕ) (old : KeptNodes)
    → record { nodes = map view shelves; ready = is_some was } ≡ old → was ≡ Some shelf
    → IfSome was (λ s. IsReady (length shelves) capacity (view s))
    → more ≡ shelves ++ shelf ∷ [] → now ≡ None
    → state_of (record { nodes = map view more; ready = is_some now }) ≡ with_ready (state_of old)
added shelves more view was now shelf capacity old is there ready items gone =
    let lawful : IsReady (length shelves) capacity (view shelf) =
    subst (λ o. IfSome o (λ s. IsReady (length shelves) capacity (view s))) there ready in
    (λ i. state_of (record { nodes = map view (items i); ready = is_some (gone i) }))
    ∙ appended view shelf lawful.empty shelves
    ∙ (λ i. with_ready
    (state_of (record { nodes = map view shelves; ready = is_some (sym there i) })))
    ∙ ap (λ (kept : KeptNodes). with_ready (state_of kept)) is
