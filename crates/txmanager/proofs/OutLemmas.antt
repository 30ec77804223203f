-- Who is out of a subtransaction is canceled in each later one.
use Rattle.std.proofs.Common.{◌≡◌, ℕ, ◌+◌, ◌≤◌, ◌<◌, List, [], ◌∷◌, Bool, true, Option, None, Some, arith, ap, sym, ◌∙◌, inl, inr, refl, slice_get, zero, suc, map, ◌||◌, ◌⊎◌, length}
use Rattle.std.specs.List.{AllByRecursion}
use Rattle.std.proofs.lemmas.Bool.{cases_Bool, false≢true}
use Rattle.std.proofs.lemmas.List.{length-map}
use Rattle.voters.specs.Calls.{all_canceled, unless_refused}
use Rattle.voters.specs.Marks.{canceling}
use Rattle.voters.specs.Refusals.{is_stopped, stop_refusal}
use Rattle.voters.specs.Results.{result_of, result_at, undecided_voters}
use Rattle.voters.specs.Votes.{Poll, Votes, blank, after, run, changed_at, casting}
use Rattle.voters.specs.declared.act.Act.{Act}
use Rattle.voters.specs.declared.act.Act.TheVariants as act
use Rattle.voters.specs.declared.mark.Mark.{Mark}
use Rattle.voters.specs.declared.outcome.Outcome.{Outcome}
use Rattle.voters.specs.declared.outcome.Outcome.TheVariants.{Open, Commit, Fail, Stop}
use Rattle.voters.specs.declared.sub.StopRefusal.{StopRefusal}
use Rattle.voters.proofs.KeepLemmas.{changed_there, same_index}
use Rattle.voters.proofs.StepLemmas.{outcome_stays}
use Rattle.txmanager.specs.Readings.{is_canceled, is_out_at}
use Rattle.txmanager.specs.Rounds.{TxAct, acted, after_act, after_acts, carried_over, current, is_gone, is_out, opened, out_from, out_of, stopped, without, without_all}
use Rattle.txmanager.specs.Rounds as tx
use Rattle.txmanager.proofs.CarryIntoLemmas.{there_of}

-- the subtransaction is stopped, or the voter has a cancel there
abbrev pub Settled : ℕ → Votes → Type 0
Settled v x = (x.outcome ≡ Stop) ⊎ (is_canceled (slice_get x.marks v) ≡ true)

canceled_after : (v w : ℕ) (bs : List Mark) (o : Option Mark) → slice_get bs v ≡ o → is_canceled o ≡ true → is_canceled (slice_get (changed_at w canceling bs) v) ≡ true
canceled_after v w bs None there e = absurd (false≢true e)
canceled_after v w bs (Some b) there e =
    rw (changed_there bs w v canceling b there) (elim (cases_Bool (same_index w v)) [ inl t ↦ rw t refl | inr f ↦ rw f e ])

pub stop_stays : (x : Votes) (a : Act) → x.outcome ≡ Stop → (after x a).outcome ≡ Stop
stop_stays x a e = outcome_stays x a (λ f. let g : Stop ≡ Open = sym e ∙ f in absurd (cc)) ∙ e

settled_after : (v w : ℕ) (x : Votes) → Settled v x → Settled v (after x (act.Cancel w))
settled_after v w x (inl e) = inl (stop_stays x (act.Cancel w) e)
settled_after v w x (inr e) = inr (canceled_after v w x.marks (slice_get x.marks v) refl e)

settled_without : (v w : ℕ) (x : Votes) → Settled v x → Settled v (without w x)
settled_without v w x s =
    elim (cases_Bool (is_stopped x.outcome || is_gone (slice_get x.marks w))) [
      | inl t ↦ rw t s
      | inr f ↦ rw f (settled_after v w x s)
    ]

settled_without_all : (v : ℕ) (vs : List ℕ) (x : Votes) → Settled v x → Settled v (without_all vs x)
settled_without_all v [] x s = s
settled_without_all v (w ∷ ws) x s = settled_without_all v ws (without w x) (settled_without v w x s)

stopped_is : (o : Outcome) (b : Bool) → (is_stopped o || b) ≡ true → (o ≡ Stop) ⊎ (b ≡ true)
stopped_is Stop b t = inl refl
stopped_is Open b t = inr t
stopped_is (Commit h) b t = inr t
stopped_is Fail b t = inr t

same_self : (v : ℕ) → same_index v v ≡ true
same_self zero = refl
same_self (suc v) = same_self v

canceled_now : (v : ℕ) (bs : List Mark) (b : Mark) → slice_get bs v ≡ Some b → is_canceled (slice_get (changed_at v canceling bs) v) ≡ true
canceled_now v bs b there = rw (changed_there bs v v canceling b there, same_self v) refl

gone_is : (v : ℕ) (x : Votes) → v < length x.marks → (x.outcome ≡ Stop) ⊎ (is_gone (slice_get x.marks v) ≡ true) → Settled v x
gone_is v x lt (inl e) = inl e
gone_is v x lt (inr e) =
    let b = there_of v x.marks lt in
    inr (rw b.1 (rw b.1 at e))

-- a voter of the panel that is to go is settled
settled_first : (v : ℕ) (x : Votes) → v < length x.marks → Settled v (without v x)
settled_first v x lt =
    elim (cases_Bool (is_stopped x.outcome || is_gone (slice_get x.marks v))) [
      | inl t ↦ rw t (gone_is v x lt (stopped_is x.outcome (is_gone (slice_get x.marks v)) t))
      | inr f ↦ rw f (inr (canceled_now v x.marks (there_of v x.marks lt).0 (there_of v x.marks lt).1))
    ]

-- lengths: each subtransaction has a mark for each voter

length-changed : {A : Type 0} (i : ℕ) (f : A → A) (xs : List A) → length (changed_at i f xs) ≡ length xs
length-changed i f [] = refl
length-changed zero f (x ∷ xs) = refl
length-changed (suc i) f (x ∷ xs) = ap suc (length-changed i f xs)

length-after : (x : Votes) (a : Act) → length (after x a).marks ≡ length x.marks
length-after x (act.Cast v h) = length-changed v (casting h) x.marks
length-after x (act.Cancel v) = length-changed v canceling x.marks
length-after x act.Stop = refl

length-run : (acts : List Act) (x : Votes) → length (run acts x).marks ≡ length x.marks
length-run [] x = refl
length-run (a ∷ acts) x = length-run acts (after x a) ∙ length-after x a

length-without : (v : ℕ) (x : Votes) → length (without v x).marks ≡ length x.marks
length-without v x =
    elim (cases_Bool (is_stopped x.outcome || is_gone (slice_get x.marks v))) [
      | inl t ↦ rw t refl
      | inr f ↦ rw f (length-after x (act.Cancel v))
    ]

length-without_all : (vs : List ℕ) (x : Votes) → length (without_all vs x).marks ≡ length x.marks
length-without_all [] x = refl
length-without_all (v ∷ vs) x = length-without_all vs (without v x) ∙ length-without v x

length-stopped : (o : Option StopRefusal) (x : Votes) → length (unless_refused o x act.Stop).marks ≡ length x.marks
length-stopped None x = refl
length-stopped (Some e) x = refl

-- over one panel of m voters
abbrev pub OverPanel : ℕ → List Votes → Type 0
OverPanel m xs = AllByRecursion (λ x. length x.marks ≡ m) xs

over_changed : (m i : ℕ) (f : Votes → Votes) (xs : List Votes) → ((x : Votes) → length (f x).marks ≡ length x.marks) → OverPanel m xs → OverPanel m (changed_at i f xs)
over_changed m i f [] same all = tt
over_changed m zero f (x ∷ xs) same all = (same x ∙ all.0, all.1)
over_changed m (suc i) f (x ∷ xs) same all = (all.0, over_changed m i f xs same all.1)

over_map : (m : ℕ) (f : Votes → Votes) (xs : List Votes) → ((x : Votes) → length (f x).marks ≡ length x.marks) → OverPanel m xs → OverPanel m (map f xs)
over_map m f [] same all = tt
over_map m f (x ∷ xs) same all = (same x ∙ all.0, over_map m f xs same all.1)

pub over_acted : (m : ℕ) (a : TxAct) (xs : List Votes) → OverPanel m xs → OverPanel m (acted a xs)
over_acted m (tx.Cast v h) xs all = over_changed m (current v xs) (λ x. after x (act.Cast v h)) xs (λ x. length-after x (act.Cast v h)) all
over_acted m (tx.CancelVoter v) xs all = over_changed m (current v xs) (λ x. after x (act.Cancel v)) xs (λ x. length-after x (act.Cancel v)) all
over_acted m tx.Cancel xs all = over_map m all_canceled xs (λ x. length-run (map act.Cancel (undecided_voters x)) x) all
over_acted m tx.Stop xs all = over_map m stopped xs (λ x. length-stopped (stop_refusal x) x) all

over_carried : (m n : ℕ) (xs : List Votes) → OverPanel m xs → OverPanel m (carried_over n xs)
over_carried m zero xs all = all
over_carried m (suc n) [] all = tt
over_carried m (suc n) (x ∷ xs) all =
    (all.0, over_carried m n (map (without_all (out_of x)) xs) (over_map m (without_all (out_of x)) xs (length-without_all (out_of x)) all.1))

pub over_acts : (m : ℕ) (acts : List TxAct) (xs : List Votes) → OverPanel m xs → OverPanel m (after_acts acts xs)
over_acts m [] xs all = all
over_acts m (a ∷ acts) xs all = over_acts m acts (after_act xs a) (over_carried m (length (acted a xs)) (acted a xs) (over_acted m a xs all))

pub over_opened : (poll : Poll) (n : ℕ) → OverPanel (length poll.weights) (opened poll n)
over_opened poll zero = tt
over_opened poll (suc n) = (length-map poll.weights blank, over_opened poll n)

-- who is to go is settled in each later one

-- what holds of each that is out, holds of one that is
out_at : (P : ℕ → Type 0) (x : Votes) (bs : List Mark) (i k at : ℕ) (b : Mark) → at ≡ i + k → slice_get bs k ≡ Some b → is_out (result_of x b) ≡ true → AllByRecursion P (out_from x i bs) → P at
out_at P x [] i k at b here there t all = absurd (cc)
out_at P x (c ∷ bs) i zero at b here there t all =
    let e : c ≡ b = cc in
    let z : at ≡ i = omega (arith, here) in
    let test : is_out (result_of x c) ≡ true = ap (λ (d : Mark). is_out (result_of x d)) e ∙ t in
    rw z (rw test at all).0
out_at P x (c ∷ bs) i (suc k) at b here there t all =
    elim (cases_Bool (is_out (result_of x c))) [
      | inl u ↦ out_at P x bs (i + 1) k at b (omega (arith, here)) there t (rw u at all).1
      | inr u ↦ out_at P x bs (i + 1) k at b (omega (arith, here)) there t (rw u at all)
    ]

-- the voters that are out are among the panel's
out_small : (x : Votes) (bs : List Mark) (i m : ℕ) → i + length bs ≤ m → AllByRecursion (λ v. v < m) (out_from x i bs)
out_small x [] i m le = tt
out_small x (b ∷ bs) i m le =
    let rest : AllByRecursion (λ v. v < m) (out_from x (i + 1) bs) = out_small x bs (i + 1) m (omega (arith, le)) in
    elim (cases_Bool (is_out (result_of x b))) [
      | inl t ↦ rw t (omega (arith, le), rest)
      | inr f ↦ rw f rest
    ]

settled_all : (vs : List ℕ) (x : Votes) → AllByRecursion (λ v. v < length x.marks) vs → AllByRecursion (λ v. Settled v (without_all vs x)) vs
settled_all [] x small = tt
settled_all (v ∷ vs) x small = (
  settled_without_all v vs (without v x) (settled_first v x small.0),
  settled_all vs (without v x) (rw (length-without v x) small.1),
)

length-without_each : (vs : List ℕ) (xs : List Votes) → length (map (without_all vs) xs) ≡ length xs
length-without_each vs xs = length-map xs (without_all vs)

-- each of the voters is settled
abbrev pub AllSettled : List ℕ → Votes → Type 0
AllSettled vs x = AllByRecursion (λ v. Settled v x) vs

-- who is out of one is settled in each later one
abbrev pub IsCarried : List Votes → Type 0
IsCarried [] = Unit {0}
IsCarried (x ∷ xs) = AllByRecursion (λ y. AllSettled (out_of x) y) xs × IsCarried xs

-- voters that are settled stay so
kept_settled : (vs ws : List ℕ) (x : Votes) → AllSettled vs x → AllSettled vs (without_all ws x)
kept_settled [] ws x all = tt
kept_settled (v ∷ vs) ws x all = (settled_without_all v ws x all.0, kept_settled vs ws x all.1)

kept_each : (vs ws : List ℕ) (xs : List Votes) → AllByRecursion (λ y. AllSettled vs y) xs → AllByRecursion (λ y. AllSettled vs y) (map (without_all ws) xs)
kept_each vs ws [] all = tt
kept_each vs ws (x ∷ xs) all = (kept_settled vs ws x all.0, kept_each vs ws xs all.1)

kept_over : (vs : List ℕ) (n : ℕ) (xs : List Votes) → AllByRecursion (λ y. AllSettled vs y) xs → AllByRecursion (λ y. AllSettled vs y) (carried_over n xs)
kept_over vs zero xs all = all
kept_over vs (suc n) [] all = tt
kept_over vs (suc n) (x ∷ xs) all = (all.0, kept_over vs n (map (without_all (out_of x)) xs) (kept_each vs (out_of x) xs all.1))

-- who is out of one is settled in each later one that it was taken out of
taken_out : (m : ℕ) (x : Votes) (xs : List Votes) → length x.marks ≡ m → OverPanel m xs → AllByRecursion (λ y. AllSettled (out_of x) y) (map (without_all (out_of x)) xs)
taken_out m x [] long over = tt
taken_out m x (y ∷ ys) long over = (settled_all (out_of x) y (rw over.0 (out_small x x.marks 0 m (omega (arith, long)))), taken_out m x ys long over.1)

pub carried_is : (m n : ℕ) (xs : List Votes) → length xs ≤ n → OverPanel m xs → IsCarried (carried_over n xs)
carried_is m zero [] le over = tt
carried_is m zero (x ∷ xs) le over = absurd (omega (arith, le))
carried_is m (suc n) [] le over = tt
carried_is m (suc n) (x ∷ xs) le over =
    let later = map (without_all (out_of x)) xs in (
      kept_over (out_of x) n later (taken_out m x xs over.0 over.1),
      carried_is m n later (omega (arith, le, length-without_each (out_of x) xs)) (over_map m (without_all (out_of x)) xs (length-without_all (out_of x)) over.1),
    )

settled_at : (vs : List ℕ) (xs : List Votes) (j : ℕ) (y : Votes) → AllByRecursion (λ x. AllSettled vs x) xs → slice_get xs j ≡ Some y → AllSettled vs y
settled_at vs [] j y all there = absurd (cc)
settled_at vs (x ∷ xs) zero y all there = (let e : x ≡ y = cc in rw (← e) all.0)
settled_at vs (x ∷ xs) (suc j) y all there = settled_at vs xs j y all.1 there

out_is : (x : Votes) (v : ℕ) (o : Option Mark) → slice_get x.marks v ≡ o → is_out_at (result_at x v) ≡ true → (b : Mark) × (slice_get x.marks v ≡ Some b) × (is_out (result_of x b) ≡ true)
out_is x v None there t = absurd (false≢true (rw there at t))
out_is x v (Some b) there t = (b, there, rw there at t)

-- one that is out of an earlier one is settled in a later one
in_order : (xs : List Votes) (i j v : ℕ) (x y : Votes) → IsCarried xs → i < j → slice_get xs i ≡ Some x → slice_get xs j ≡ Some y → is_out_at (result_at x v) ≡ true → Settled v y
in_order [] i j v x y is lt at_i at_j t = absurd (cc)
in_order (z ∷ zs) i zero v x y is lt at_i at_j t = absurd (omega (arith, lt))
in_order (z ∷ zs) zero (suc j) v x y is lt at_i at_j t =
    let e : z ≡ x = cc in
    let b = out_is z v (slice_get z.marks v) refl (ap (λ (w : Votes). is_out_at (result_at w v)) e ∙ t) in
    out_at (λ w. Settled w y) z z.marks 0 v v b.0 (omega arith) b.1 b.2 (settled_at (out_of z) zs j y is.0 at_j)
in_order (z ∷ zs) (suc i) (suc j) v x y is lt at_i at_j t = in_order zs i j v x y is.1 (omega (arith, lt)) at_i at_j t

pub carries : (poll : Poll) (n i j v : ℕ) (acts : List TxAct) (a : TxAct) (x y : Votes) → i < j → slice_get (after_act (after_acts acts (opened poll n)) a) i ≡ Some x → slice_get (after_act (after_acts acts (opened poll n)) a) j ≡ Some y → is_out_at (result_at x v) ≡ true → (y.outcome ≡ Stop) ⊎ (is_canceled (slice_get y.marks v) ≡ true)
carries poll n i j v acts a x y lt at_i at_j t =
    let xs = after_acts acts (opened poll n) in
    let m = length poll.weights in
    in_order (after_act xs a) i j v x y (carried_is m (length (acted a xs)) (acted a xs) (omega arith) (over_acted m a xs (over_acts m acts (opened poll n) (over_opened poll n)))) lt at_i at_j t
