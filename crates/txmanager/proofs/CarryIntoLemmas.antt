-- The carrying over into the later subtransactions, voter by voter.
use Rattle.std.proofs.Common.{◌≡◌, ℕ, ◌+◌, ◌<◌, List, [], ◌∷◌, ◌++◌, true, false, Option, None, Some, arith, ap, sym, ◌∙◌, inl, inr, refl, slice_get, zero, suc, map, if◌then◌else◌, ◌||◌, length, take, append-nil, get_or}
use Rattle.std.specs.List.{AllByRecursion}
use Rattle.std.proofs.lemmas.Bool.{cases_Bool, false≢true, true≢false}
use Rattle.std.proofs.lemmas.Option.{slice_get-get_or}
use Rattle.voters.specs.Refusals.{is_stopped}
use Rattle.voters.specs.Results.{result_of, result_at, committed_in, voted_in}
use Rattle.voters.specs.Votes.{Votes, blank}
use Rattle.voters.specs.declared.mark.Mark.{Mark}
use Rattle.voters.proofs.CancelAllLemmas.{some_is}
use Rattle.voters.proofs.KeepLemmas.{cancel_voted}
use Rattle.txmanager.specs.Chain.{Follows, IsChain}
use Rattle.txmanager.specs.Readings.{is_out_at}
use Rattle.txmanager.specs.Rounds.{is_gone, is_out, out_from, out_of, without, without_all}
use Rattle.txmanager.proofs.CarryLemmas.{out_uncommitted, without_each_kept}
use Rattle.txmanager.proofs.ChainLemmas.{chain_kept}

pub voted_without : (v w : ℕ) (x : Votes) → voted_in v (without w x) ≡ voted_in v x
voted_without v w x =
    elim (cases_Bool (is_stopped x.outcome || is_gone (slice_get x.marks w))) [
      | inl t ↦ rw t refl
      | inr f ↦ rw f (cancel_voted v w x)
    ]

-- a voter has not voted by being canceled
voted_without_all : (v : ℕ) (ws : List ℕ) (x : Votes) → voted_in v (without_all ws x) ≡ voted_in v x
voted_without_all v [] x = refl
voted_without_all v (w ∷ ws) x = voted_without_all v ws (without w x) ∙ voted_without v w x

without_all-append : (vs : List ℕ) (v : ℕ) (x : Votes) → without_all (vs ++ v ∷ []) x ≡ without v (without_all vs x)
without_all-append [] v x = refl
without_all-append (w ∷ ws) v x = without_all-append ws v (without w x)

out_committed : (x : Votes) (v : ℕ) (o : Option Mark) → slice_get x.marks v ≡ o → is_out_at (result_at x v) ≡ true → committed_in v x ≡ false
out_committed x v None there t = absurd (false≢true (rw there at t))
out_committed x v (Some b) there t = rw there (out_uncommitted (result_of x b) (rw there at t))

-- who is out of the earlier one has not voted in the later one
out_voted : (e x : Votes) (v : ℕ) → Follows e x → is_out_at (result_at e v) ≡ true → voted_in v x ≡ false
out_voted e x v follows t =
    elim (cases_Bool (voted_in v x)) [
      | inl u ↦ absurd (true≢false (sym (follows v u) ∙ out_committed e v (slice_get e.marks v) refl t))
      | inr f ↦ f
    ]

-- one voter more
out_more : (x : Votes) (bs : List Mark) (i s at : ℕ) (b : Mark) → at ≡ s + i → slice_get bs i ≡ Some b → out_from x s (take (i + 1) bs) ≡ out_from x s (take i bs) ++ (if is_out (result_of x b) then at ∷ [] else [])
out_more x [] i s at b here there = absurd (cc)
out_more x (c ∷ bs) zero s at b here there =
    let is_b : c ≡ b = some_is c b there in
    let is_s : at ≡ s = omega (arith, here) in
    rw (is_b, is_s) refl
out_more x (c ∷ bs) (suc i) s at b here there =
    let rest : out_from x (s + 1) (take (i + 1) bs) ≡ out_from x (s + 1) (take i bs) ++ (if is_out (result_of x b) then at ∷ [] else []) = out_more x bs i (s + 1) at b (omega (arith, here)) there in
    let n : suc i + 1 ≡ suc (i + 1) = omega arith in
    rw n (elim (cases_Bool (is_out (result_of x c))) [
      | inl e ↦ rw (e, rest) refl
      | inr e ↦ rw (e, rest) refl
    ])

pub there_of : (v : ℕ) (bs : List Mark) → v < length bs → (b : Mark) × (slice_get bs v ≡ Some b)
there_of v bs lt = (let d : Mark = blank 0 in (get_or bs v d, slice_get-get_or bs v d lt))

-- nobody canceled yet
pub map_without_none : (xs : List Votes) → xs ≡ map (without_all []) xs
map_without_none [] = refl
map_without_none (x ∷ xs) = ap (λ (ys : List Votes). x ∷ ys) (map_without_none xs)

-- one voter more, in each
map_without_more : (vs : List ℕ) (v : ℕ) (xs : List Votes) → map (without v) (map (without_all vs) xs) ≡ map (without_all (vs ++ v ∷ [])) xs
map_without_more vs v [] = refl
map_without_more vs v (x ∷ xs) = rw (without_all-append vs v x, map_without_more vs v xs) refl

-- who is out of the earlier one has voted in none of the later ones, whoever was canceled in them
pub out_voted_each : (e : Votes) (v : ℕ) (ws : List ℕ) (xs : List Votes) → AllByRecursion (λ next. Follows e next) xs → is_out_at (result_at e v) ≡ true → AllByRecursion (λ next. voted_in v next ≡ false) (map (without_all ws) xs)
out_voted_each e v ws [] follow t = tt
out_voted_each e v ws (x ∷ xs) follow t = (voted_without_all v ws x ∙ out_voted e x v follow.0 t, out_voted_each e v ws xs follow.1 t)

-- the voters in front of number i that are out of the earlier one are canceled in each later one
pub so_far_out : (e : Votes) (old now next : List Votes) (i : ℕ) → i < length e.marks → now ≡ map (without_all (out_from e 0 (take i e.marks))) old → is_out_at (result_at e i) ≡ true → next ≡ map (without i) now → next ≡ map (without_all (out_from e 0 (take (i + 1) e.marks))) old
so_far_out e old now next i lt so t step =
    let b = there_of i e.marks lt in
    let test : is_out (result_of e b.0) ≡ true = rw b.1 at t in
    let more : out_from e 0 (take (i + 1) e.marks) ≡ out_from e 0 (take i e.marks) ++ i ∷ [] = rw test at (out_more e e.marks i 0 i b.0 (omega arith) b.1) in
    step ∙ ap (λ (xs : List Votes). map (without i) xs) so ∙ map_without_more (out_from e 0 (take i e.marks)) i old ∙ ap (λ (vs : List ℕ). map (without_all vs) old) (sym more)

-- a voter that is not out stays
pub so_far_in : (e : Votes) (old now : List Votes) (i : ℕ) → i < length e.marks → now ≡ map (without_all (out_from e 0 (take i e.marks))) old → is_out_at (result_at e i) ≡ false → now ≡ map (without_all (out_from e 0 (take (i + 1) e.marks))) old
so_far_in e old now i lt so f =
    let b = there_of i e.marks lt in
    let test : is_out (result_of e b.0) ≡ false = rw b.1 at f in
    let same : out_from e 0 (take (i + 1) e.marks) ≡ out_from e 0 (take i e.marks) = rw (test, append-nil) at (out_more e e.marks i 0 i b.0 (omega arith) b.1) in
    so ∙ ap (λ (vs : List ℕ). map (without_all vs) old) (sym same)

-- the later ones are a chain when who is out of the first is canceled in each
pub later_chain : (x : Votes) (xs : List Votes) → IsChain (x ∷ xs) → IsChain (map (without_all (out_of x)) xs)
later_chain x xs is = chain_kept xs (map (without_all (out_of x)) xs) (without_each_kept x xs is.1 is.2) is.2
