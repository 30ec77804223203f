-- Laws of the run of a list of events, and of the lines that ask them.
use Rattle.std.proofs.Common.{◌≡◌, ℕ, List, [], ◌∷◌, ◌++◌, Option, Some, None, refl, ap, sym, ◌∙◌, subst}
use Rattle.std.proofs.lemmas.List.{append-nil}
use Rattle.std.proofs.lemmas.List.Concat.{flat_map-append}
use Rattle.px_base.specs.Line.{HasNoLf}
use Rattle.script_run.specs.Machine.{IsDetermined, Machine, Runs, events, output}
use Rattle.script_run.specs.Script.{AllAsk, AreLines, ended, IsLawful}

-- an event more
pub runs_more : {S E R : Type 0} (m : Machine S E R) (s at s' : S) (es : List E) (rs : List R) (e : E) (r : R)
    → Runs m s es rs at → m.does at e r s' → Runs m s (es ++ e ∷ []) (rs ++ r ∷ []) s'
runs_more m s at s' [] [] e r run does_ = (s', subst (λ u. m.does u e r s') run does_, refl)
runs_more m s at s' [] (q ∷ rs) e r run does_ = absurd run
runs_more m s at s' (d ∷ es) [] e r run does_ = absurd run
runs_more m s at s' (d ∷ es) (q ∷ rs) e r run does_ = (run.0, run.1, runs_more m run.0 at s' es rs e r run.2 does_)

pub output-more : {S E R : Type 0} (m : Machine S E R) (rs : List R) (r : R) → output m (rs ++ r ∷ []) ≡ output m rs ++ m.text r
output-more m rs r = flat_map-append m.text rs (r ∷ []) ∙ ap (λ t. output m rs ++ t) (append-nil (m.text r))

-- of a machine whose events have one answer, a list of events has one run
pub one_run : {S E R : Type 0} (m : Machine S E R) → IsDetermined m → (s s' s'' : S) (es : List E) (rs qs : List R)
    → Runs m s es rs s' → Runs m s es qs s'' → (rs ≡ qs) × (s' ≡ s'')
one_run m one s s' s'' [] [] [] a b = (refl, a ∙ sym b)
one_run m one s s' s'' [] [] (q ∷ qs) a b = absurd b
one_run m one s s' s'' [] (r ∷ rs) qs a b = absurd a
one_run m one s s' s'' (e ∷ es) [] qs a b = absurd a
one_run m one s s' s'' (e ∷ es) (r ∷ rs) [] a b = absurd b
one_run {R = R} m one s s' s'' (e ∷ es) (r ∷ rs) (q ∷ qs) a b =
    let first = one s a.0 b.0 e r q a.1 b.1 in
    let rest = one_run m one b.0 s' s'' es rs qs (subst (λ u. Runs m u es rs s') first.1 a.2) b.2 in
    (ap (λ (x : R). x ∷ rs) first.0 ∙ ap (λ (xs : List R). q ∷ xs) rest.0, rest.1)

pub events-append : {E : Type 0} (asked more : List (Option E)) → events (asked ++ more) ≡ events asked ++ events more
events-append [] more = refl
events-append (None ∷ asked) more = events-append asked more
events-append (Some e ∷ asked) more = ap (λ es. e ∷ es) (events-append asked more)

-- one line more, lawful like those before it
pub all_ask_more : {S E R : Type 0} (m : Machine S E R) (asked : List (Option E)) (lines : List (List ℕ)) (a : Option E) (line : List ℕ)
    → AllAsk m asked lines → IsLawful m a line → AllAsk m (asked ++ a ∷ []) (lines ++ line ∷ [])
all_ask_more m [] [] a line all one = (one, tt)
all_ask_more m [] (l ∷ lines) a line all one = absurd all
all_ask_more m (b ∷ asked) [] a line all one = absurd all
all_ask_more m (b ∷ asked) (l ∷ lines) a line all one = (all.0, all_ask_more m asked lines a line all.1 one)

pub ended-more : (lines : List (List ℕ)) (line : List ℕ) → ended (lines ++ line ∷ []) ≡ ended lines ++ (line ++ 10 ∷ [])
ended-more lines line =
    flat_map-append (λ (l : List ℕ). l ++ 10 ∷ []) lines (line ∷ []) ∙ ap (λ t. ended lines ++ t) (append-nil (line ++ 10 ∷ []))

pub are_lines_more : (lines : List (List ℕ)) (line : List ℕ) → AreLines lines → HasNoLf line → AreLines (lines ++ line ∷ [])
are_lines_more [] line each one = (one, tt)
are_lines_more (l ∷ lines) line each one = (each.0, are_lines_more lines line each.1 one)
