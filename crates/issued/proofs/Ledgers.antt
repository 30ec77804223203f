-- The ledger that entries make, as one entry is written after the other.
use Rattle.std.proofs.Common.{◌≡◌, ◌==◌, ◌&&◌, ◌||◌, inl, inr, ℕ, Bool, true, false, cond, List, [], ◌∷◌, Option, None, Some, refl, ap, sym, ◌∙◌, subst, take, get_or, length, ◌+◌, ◌<◌, Result, Ok, Err, OnOk, OnErr}
use Rattle.std.proofs.Math.Path.{fun_ext}
use Rattle.std.proofs.lemmas.Bool.{cases_Bool, false_from_ne_true}
use Rattle.std.proofs.lemmas.Bool.Decides.{Decides-eqb}
use Rattle.std.proofs.lemmas.List.Folds.{list_any_more, list_any_at}
use Rattle.std.specs.Cmp.{Equal-is, both_tied, eq_by_cmp_equiv, nat_cmp_total}
use Rattle.std.specs.FinMap.{nat_cmp-IsAntisymmetric}
use Rattle.std.specs.List.{list_any}
use Rattle.std.specs.Option.{IsSome, option_flatten}
use Rattle.std.specs.Ordering.{is_eq, nat_cmp, ordering_then}
use Rattle.px_base.specs.declared.ids.StorageId.{StorageId}
use Rattle.px_cluster.specs.Ledger.{Ledger, Purpose, Unused, with_purpose, with_purposes}
use Rattle.px_cluster.specs.Numbers.{is_one_of}
use Rattle.genbook.specs.Changes.{numbers_of}
use Rattle.issued.specs.Draws.{Draws, Keeps, KeepsRoom, draw_cmp, draw_of, is_draw, ledger_of, room_at}
use Rattle.issued.specs.Purposes.{purpose_of}
use Rattle.issued.specs.Room.{MakesRoom}
use Rattle.issued.specs.declared.draw.Draw.{Draw}
use Rattle.issued.specs.declared.purpose.Purpose.{Purpose as Kept}

-- ---- tests of numbers

same_number : (a b : ℕ) → (a == b) ≡ true → a ≡ b
same_number a b t = (Decides-eqb a b).0 t

same_self : (n : ℕ) → (n == n) ≡ true
same_self n = (Decides-eqb n n).1 refl

-- numbers that compare alike are one
pub compare_test : (a b : ℕ) → is_eq (nat_cmp a b) ≡ (b == a)
compare_test a b =
    elim (cases_Bool (b == a)) [
      | inl t ↦ subst (λ (n : ℕ). is_eq (nat_cmp a n) ≡ (n == a)) (sym (same_number b a t))
          ((eq_by_cmp_equiv nat_cmp_total).refl a ∙ sym (same_self a))
      | inr f ↦ false_from_ne_true _ (λ alike.
          let differ : (a == a) ≡ false =
          subst (λ (n : ℕ). (n == a) ≡ false)
          (sym (nat_cmp-IsAntisymmetric a b ((Equal-is (nat_cmp a b)).0 alike))) f in
          absurd (let no : true ≡ false = sym (same_self a) ∙ differ in cc)) ∙ sym f
    ]

flipped : (a b : ℕ) → (a == b) ≡ (b == a)
flipped a b =
    elim (cases_Bool (a == b)) [
      | inl t ↦ t ∙ sym ((Decides-eqb b a).1 (sym (same_number a b t)))
      | inr f ↦ f ∙ sym (false_from_ne_true _ (λ t.
          let differ : (a == a) ≡ false =
          subst (λ (n : ℕ). (a == n) ≡ false) (same_number b a t) f in
          absurd (let no : true ≡ false = sym (same_self a) ∙ differ in cc)))
    ]

grouped : (a b c : Bool) → (a && (b && c)) ≡ (a && b && c)
grouped true b c = refl
grouped false b c = refl

-- a draw is this one where each of its numbers is
same_test : (a b c r s l : ℕ) → is_draw (draw_of a b c) (draw_of r s l)
    ≡ ((r == a) && (s == b) && (l == c))
same_test a b c r s l =
    sym (both_tied (r == a) ((s == b) && (l == c)) (nat_cmp a r)
    (ordering_then (nat_cmp b s) (nat_cmp c l)) (sym (compare_test a r))
    (both_tied (s == b) (l == c) (nat_cmp b s) (nat_cmp c l) (sym (compare_test b s))
    (sym (compare_test c l))))
    ∙ grouped (r == a) (s == b) (l == c)

both : (a b : Bool) → (a && b) ≡ true → (a ≡ true) × (b ≡ true)
both true true t = (refl, refl)
both true false t = absurd (cc)
both false b t = absurd (cc)

-- ---- one purpose written into a ledger

module _ (ledger : Ledger) (repo storage lease : ℕ) where
  -- what is said of the place that is written is said of each place that passes its test
  here : (P : ℕ → ℕ → ℕ → Type 0) → P repo storage lease → (r s l : ℕ)
      → ((r == repo) && (s == storage) && (l == lease)) ≡ true → P r s l
  here P is r s l t =
      let one = both ((r == repo) && (s == storage)) (l == lease) t in
      let two = both (r == repo) (s == storage) one.0 in
      subst (λ (n : ℕ). P n s l) (sym (same_number r repo two.0))
      (subst (λ (n : ℕ). P repo n l) (sym (same_number s storage two.1))
      (subst (λ (n : ℕ). P repo storage n) (sym (same_number l lease one.1)) is))

  -- the purpose that stands there already
  pub with_purpose-same : (purpose : Purpose) → ledger repo storage lease ≡ purpose
      → with_purpose ledger repo storage lease purpose ≡ ledger
  with_purpose-same purpose is = fun_ext (λ r. fun_ext (λ s. fun_ext (λ l.
      elim (cases_Bool ((r == repo) && (s == storage) && (l == lease))) [
        | inl t ↦ rw t (here (λ r s l. purpose ≡ ledger r s l) (sym is) r s l t)
        | inr f ↦ rw f refl
      ])))

  -- what becomes of the purpose that stands there
  pub with_purpose-changed : (change : Purpose → Purpose)
      → with_purpose ledger repo storage lease (change (ledger repo storage lease))
      ≡ with_purposes ledger repo (λ other. other == storage) lease
      (λ other purpose. change purpose)
  with_purpose-changed change = fun_ext (λ r. fun_ext (λ s. fun_ext (λ l.
      elim (cases_Bool ((r == repo) && (s == storage) && (l == lease))) [
        | inl t ↦ rw t
            (here (λ r s l. change (ledger repo storage lease) ≡ change (ledger r s l)) refl
            r s l t)
        | inr f ↦ rw f refl
      ])))

-- ---- one purpose written at more storages

module _ (ledger : Ledger) (repo lease : ℕ) (purpose : Purpose) where
  joins : (a first more c : Bool) (old : Purpose)
      → cond (a && more && c) purpose (cond (a && first && c) purpose old)
      ≡ cond (a && (first || more) && c) purpose old
  joins false first more c old = refl
  joins true true true true old = refl
  joins true true true false old = refl
  joins true true false c old = refl
  joins true false true true old = refl
  joins true false true false old = refl
  joins true false false c old = refl

  -- at one more
  pub written_further : (first later : ℕ → Bool) (storage : ℕ)
      → ((s : ℕ) → later s ≡ (first s || (s == storage)))
      → with_purpose (with_purposes ledger repo first lease (λ storage old. purpose)) repo storage
      lease purpose
      ≡ with_purposes ledger repo later lease (λ storage old. purpose)
  written_further first later storage is = fun_ext (λ r. fun_ext (λ s. fun_ext (λ l.
      rw (is s) (joins (r == repo) (first s) (s == storage) (l == lease) (ledger r s l)))))

-- ---- what is kept of one draw

module _ (draw : Draw) (kept : Option Kept) (old new : Draws) (keeps : Keeps draw kept old new)
  where
    inside : (b : Bool) (room : Option (Option Kept))
        → purpose_of (option_flatten (cond b (Some kept) room))
        ≡ cond b (purpose_of kept) (purpose_of (option_flatten room))
    inside true room = refl
    inside false room = refl

    -- it is what the lease was drawn for there
    pub ledger_of-kept : ledger_of new
        ≡ with_purpose (ledger_of old) draw.repo.0 draw.storage.0 draw.lease (purpose_of kept)
    ledger_of-kept = fun_ext (λ r. fun_ext (λ s. fun_ext (λ l.
        ap (λ room. purpose_of (option_flatten room)) (keeps (draw_of r s l))
        ∙ inside (is_draw draw (draw_of r s l)) (room_at old (draw_of r s l))
        ∙ ap (λ b. cond b (purpose_of kept) (ledger_of old r s l))
        (same_test draw.repo.0 draw.storage.0 draw.lease r s l))))

    pub room_kept : KeepsRoom old new
    room_kept q is = subst IsSome (sym (keeps q)) (either (is_draw draw q))
      where
        either : (b : Bool) → IsSome (cond b (Some kept) (room_at old q))
        either true = refl
        either false = is

-- ---- storages that are gone through

among : (number : ℕ) (storages : List StorageId)
    → is_one_of number (numbers_of storages)
    ≡ list_any (λ (storage : StorageId). storage.0 == number) storages
among number [] = refl
among number (storage ∷ storages) =
    ap (λ rest. (storage.0 == number) || rest) (among number storages)

-- one more of them
pub among_further : (storages : List StorageId) (i : ℕ) (d : StorageId) → i < length storages
    → (number : ℕ) → is_one_of number (numbers_of (take (i + 1) storages))
    ≡ (is_one_of number (numbers_of (take i storages)) || (number == (get_or storages i d).0))
among_further storages i d within number =
    among number (take (i + 1) storages)
    ∙ list_any_more (λ (storage : StorageId). storage.0 == number) storages i d within
    ∙ ap (λ first. first || ((get_or storages i d).0 == number))
    (sym (among number (take i storages)))
    ∙ ap (λ more. is_one_of number (numbers_of (take i storages)) || more)
    (flipped (get_or storages i d).0 number)

-- each is one of them
pub among_itself : (storages : List StorageId) (i : ℕ) (d : StorageId) → i < length storages
    → is_one_of (get_or storages i d).0 (numbers_of storages) ≡ true
among_itself storages i d within =
    among (get_or storages i d).0 storages
    ∙ list_any_at (λ (storage : StorageId). storage.0 == (get_or storages i d).0) storages i d
    within (same_self (get_or storages i d).0)

-- ---- room that is made

module _ (old new : Draws) (draw : Draw) where
  pub made-keeps : MakesRoom draw_cmp draw old new → KeepsRoom old new
  made-keeps (inl makes) = room_kept draw None old new makes.becomes
  made-keeps (inr had) =
      λ q is. subst (λ (draws : Draws). IsSome (room_at draws q)) (sym had.same) is

  -- nothing is seen of it
  pub made-same : MakesRoom draw_cmp draw old new → ledger_of new ≡ ledger_of old
  made-same (inl makes) =
      ledger_of-kept draw None old new makes.becomes
      ∙ with_purpose-same (ledger_of old) draw.repo.0 draw.storage.0 draw.lease Unused
      (ap (λ room. purpose_of (option_flatten room)) makes.none)
  made-same (inr had) = ap (λ (draws : Draws). ledger_of draws) had.same

-- what follows from success and from failure follows
pub either_way : {A E P O F : Type 0} (result : Result A E) → OnOk result O → OnErr result F
    → (O → P) → (F → P) → P
either_way (Ok value) ok err made kept = made ok
either_way (Err e) ok err made kept = kept err

pub on_success : {A E P O : Type 0} (result : Result A E) → OnOk result O → (O → P) → OnOk result P
on_success (Ok value) ok made = made ok
on_success (Err e) ok made = tt
