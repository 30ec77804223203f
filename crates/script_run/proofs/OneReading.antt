-- A text has one list of lines.
use Rattle.std.proofs.Common.{◌≡◌, ◌≢◌, ℕ, List, [], ◌∷◌, ◌++◌, append_assoc, refl, ap, sym, ◌∙◌, inl, inr, subst}
use Rattle.std.proofs.lemmas.List.{append-nil}
use Rattle.px_base.specs.Line.{HasNoLf}
use Rattle.script_run.specs.Script.{AreLines, AreLinesOf, LacksFeed, ended}

same_head : {A : Type 0} {x y : A} {xs ys : List A} → x ∷ xs ≡ y ∷ ys → x ≡ y
same_head e = cc

same_tail : {A : Type 0} {x y : A} {xs ys : List A} → x ∷ xs ≡ y ∷ ys → xs ≡ ys
same_tail e = cc

-- the first line feed ends the first line
first_line : (l k r s : List ℕ) → HasNoLf l → HasNoLf k → l ++ 10 ∷ r ≡ k ++ 10 ∷ s → (l ≡ k) × (r ≡ s)
first_line [] [] r s free clear e = (refl, same_tail e)
first_line [] (b ∷ k) r s free clear e = absurd (clear.0 (sym (same_head e)))
first_line (b ∷ l) [] r s free clear e = absurd (free.0 (same_head e))
first_line (b ∷ l) (c ∷ k) r s free clear e =
    let rest = first_line l k r s free.1 clear.1 (same_tail e) in
    let head : b ≡ c = same_head e in
    (ap (λ (x : ℕ). x ∷ l) head ∙ ap (λ (xs : List ℕ). c ∷ xs) rest.0, rest.1)

-- bytes with no line feed are not those of a line with one
no_feed : (t k s : List ℕ) → HasNoLf t → t ≢ k ++ 10 ∷ s
no_feed [] [] s free e = cc
no_feed [] (c ∷ k) s free e = cc
no_feed (b ∷ t) [] s free e = free.0 (same_head e)
no_feed (b ∷ t) (c ∷ k) s free e = no_feed t k s free.1 (same_tail e)

-- the bytes of a first line, and of what comes after it
ended-cons : (l : List ℕ) (ls : List (List ℕ)) (t : List ℕ) → ended (l ∷ ls) ++ t ≡ l ++ 10 ∷ (ended ls ++ t)
ended-cons l ls t = append_assoc (l ++ 10 ∷ []) (ended ls) t ∙ append_assoc l (10 ∷ []) (ended ls ++ t)

-- whole lines and the bytes behind them are known by their text
one_reading : (ls ks : List (List ℕ)) (t u : List ℕ) → AreLines ls → AreLines ks → HasNoLf t → HasNoLf u
    → ended ls ++ t ≡ ended ks ++ u → (ls ≡ ks) × (t ≡ u)
one_reading [] [] t u a b free clear e = (refl, e)
one_reading [] (k ∷ ks) t u a b free clear e = absurd (no_feed t k (ended ks ++ u) free (e ∙ ended-cons k ks u))
one_reading (l ∷ ls) [] t u a b free clear e = absurd (no_feed u l (ended ls ++ t) clear (sym e ∙ ended-cons l ls t))
one_reading (l ∷ ls) (k ∷ ks) t u a b free clear e =
    let first = first_line l k (ended ls ++ t) (ended ks ++ u) a.0 b.0 (sym (ended-cons l ls t) ∙ e ∙ ended-cons k ks u) in
    let rest = one_reading ls ks t u a.1 b.1 free clear first.1 in
    (ap (λ (x : List ℕ). x ∷ ls) first.0 ∙ ap (λ (xs : List (List ℕ)). k ∷ xs) rest.0, rest.1)

front_of : (front : List (List ℕ)) (last : List ℕ) → AreLines (front ++ last ∷ []) → AreLines front × HasNoLf last
front_of [] last each = (tt, each.0)
front_of (l ∷ front) last each = let rest = front_of front last each.1 in ((each.0, rest.0), rest.1)

ended_or_not : (lines others : List (List ℕ)) (text : List ℕ) → AreLines lines → AreLines others → text ≡ ended lines → LacksFeed others text → ⊥
ended_or_not lines others text a b whole lacks =
    let parts = front_of lacks.front lacks.last (subst AreLines lacks.whole b) in
    let same = one_reading lines lacks.front [] lacks.last a parts.0 tt parts.1 (append-nil (ended lines) ∙ sym whole ∙ lacks.is) in
    lacks.some (sym same.1)

pub one_list : (lines others : List (List ℕ)) (text : List ℕ) → AreLinesOf lines text → AreLinesOf others text → lines ≡ others
one_list lines others text (a, inl whole) (b, inl entire) =
    (one_reading lines others [] [] a b tt tt (append-nil (ended lines) ∙ sym whole ∙ entire ∙ sym (append-nil (ended others)))).0
one_list lines others text (a, inl whole) (b, inr lacks) = absurd (ended_or_not lines others text a b whole lacks)
one_list lines others text (a, inr lacks) (b, inl whole) = absurd (ended_or_not others lines text b a whole lacks)
one_list lines others text (a, inr lacks) (b, inr wants) =
    let parts = front_of lacks.front lacks.last (subst AreLines lacks.whole a) in
    let pieces = front_of wants.front wants.last (subst AreLines wants.whole b) in
    let same = one_reading lacks.front wants.front lacks.last wants.last parts.0 pieces.0 parts.1 pieces.1 (sym lacks.is ∙ wants.is) in
    lacks.whole ∙ ap (λ (f : List (List ℕ)). f ++ lacks.last ∷ []) same.0 ∙ ap (λ (l : List ℕ). wants.front ++ l ∷ []) same.1 ∙ sym wants.whole
