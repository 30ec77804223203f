-- An entry of the log is filled: what the log says then.
use Rattle.std.proofs.Common.{◌≡◌, ℕ, ◌+◌, ◌≤◌, ◌<◌, Option, Some, None, inl, inr, refl, sym, ◌∙◌, ap, subst, arith}
use Rattle.replica_invariant.specs.Contents.{after, Content, empty}
use Rattle.replica_invariant.specs.Invariant.{IsPushed, LogClause}
use Rattle.replica_invariant.specs.Pushes.{fill, filled}
use Rattle.replica_invariant.specs.State.{Shared}
use Rattle.push_events.proofs.Later.{Later}
use Rattle.push_events.proofs.Values.{none_some, three, value_case, value_elsewhere, value_here}

filled_is : (o : Option Content) (m : Content) → ((x : Content) → o ≡ Some x → x ≡ m)
    → filled o m ≡ Some m
filled_is None m f = refl
filled_is (Some x) m f = ap Some (f x refl)

filled_keeps : (o : Option Content) (m x : Content) → o ≡ Some x → filled o m ≡ Some x
filled_keeps None m x e = none_some (Some m ≡ Some x) e
filled_keeps (Some y) m x e = e

-- what the log says where one entry is filled
module _ (sh : Shared) (d : ℕ) (m : Content) where
  pub fill_lease : (k : ℕ) → ((fill sh d m).entry k).lease ≡ (sh.entry k).lease
  fill_lease k =
      value_case (λ x e. e.lease ≡ (sh.entry x).lease) sh.entry d
      (record {
        lease = (sh.entry d).lease;
        hash = (sh.entry d).hash;
        content = filled (sh.entry d).content m;
      }) k refl (λ n. refl)

  pub fill_hash : (k : ℕ) → ((fill sh d m).entry k).hash ≡ (sh.entry k).hash
  fill_hash k =
      value_case (λ x e. e.hash ≡ (sh.entry x).hash) sh.entry d
      (record {
        lease = (sh.entry d).lease;
        hash = (sh.entry d).hash;
        content = filled (sh.entry d).content m;
      }) k refl (λ n. refl)

  pub fill_content : (k : ℕ) (x : Content) → (sh.entry k).content ≡ Some x
      → ((fill sh d m).entry k).content ≡ Some x
  fill_content k x =
      value_case (λ y e. (sh.entry y).content ≡ Some x → e.content ≡ Some x) sh.entry d
      (record {
        lease = (sh.entry d).lease;
        hash = (sh.entry d).hash;
        content = filled (sh.entry d).content m;
      }) k (filled_keeps (sh.entry d).content m x)
      (λ n q. q)

  pub fill_other : (k : ℕ) → (k ≡ d → ⊥) → (fill sh d m).entry k ≡ sh.entry k
  fill_other k n =
      value_elsewhere sh.entry d
      (record {
        lease = (sh.entry d).lease;
        hash = (sh.entry d).hash;
        content = filled (sh.entry d).content m;
      }) k n

  pub fill_here : ((x : Content) → (sh.entry d).content ≡ Some x → x ≡ m)
      → ((fill sh d m).entry d).content ≡ Some m
  fill_here f =
      ap (λ e. e.content)
      (value_here sh.entry d
      (record {
        lease = (sh.entry d).lease;
        hash = (sh.entry d).hash;
        content = filled (sh.entry d).content m;
      })) ∙ filled_is (sh.entry d).content m f

  pub fill_later : Later sh (fill sh d m)
  fill_later =
      record {
        newest = omega arith;
        last = omega arith;
        creation = refl;
        lease = λ k b. fill_lease k;
        hash = λ k b. fill_hash k;
        content = λ k x b. fill_content k x;
        text = λ l h. refl;
      }

-- filled with what its push says, the log stays good
module _ (sh : Shared) (n l : ℕ) (m : Content) (h : LogClause sh)
    (e : (sh.entry (n + 1)).lease ≡ Some l) (q : IsPushed sh n l)
    (is : m ≡ after q.before (sh.text l (sh.entry (n + 1)).hash)) where
  abbrev sh' : Shared
  sh' = fill sh (n + 1) m

  given_other : (d : ℕ) → d ≤ sh.newest → (sh'.entry d).lease ≡ None → (sh'.entry d).content ≡ None
      → (d ≡ n + 1 → ⊥) → ⊥
  given_other d b f x z =
      h.given d b (sym (fill_lease sh (n + 1) m d) ∙ f)
      (sym (ap (λ y. y.content) (fill_other sh (n + 1) m d z)) ∙ x)

  pub here : (sh'.entry (n + 1)).content ≡ Some m
  here = fill_here sh (n + 1) m (λ x f. q.filled x f ∙ sym is)

  pushed_here : (l2 : ℕ) → (sh.entry (n + 1)).lease ≡ Some l2 → IsPushed sh' n l2
  pushed_here l2 f = let eq : l ≡ l2 = let z : Some l ≡ Some l2 = sym e ∙ f in cc in
      subst (λ y. IsPushed sh' n y) eq (record {
        last = q.last;
        before = q.before;
        was = fill_content sh (n + 1) m n q.before q.was;
        filled = λ x g. let z : Some m ≡ Some x = sym here ∙ g in
            (let w : x ≡ m = cc in w) ∙ is
            ∙ ap (λ y. after q.before (sh.text l y)) (sym (fill_hash sh (n + 1) m (n + 1)));
      })

  pushed_else : (k l2 : ℕ) → k < sh.newest → (k + 1 ≡ n + 1 → ⊥)
      → (sh.entry (k + 1)).lease ≡ Some l2 → IsPushed sh' k l2
  pushed_else k l2 b z f = let o = h.pushed k l2 b f in record {
    last = o.last;
    before = o.before;
    was = fill_content sh (n + 1) m k o.before o.was;
    filled = λ x g. o.filled x (sym (ap (λ y. y.content) (fill_other sh (n + 1) m (k + 1) z)) ∙ g)
        ∙ ap (λ y. after o.before (sh.text l2 y)) (sym (fill_hash sh (n + 1) m (k + 1)));
  }

  pub fill_log : LogClause sh'
  fill_log = record {
    creation = h.creation;
    zero_lease = fill_lease sh (n + 1) m 0 ∙ h.zero_lease;
    zero_content = λ a. fill_content sh (n + 1) m 0 empty (h.zero_content a);
    given = λ d b f x. elim (three d (n + 1)) [
      | inl lt ↦ given_other d b f x (λ z. omega (arith, lt, z))
      | inr w ↦
          elim w [
            | inl eq ↦
                none_some ⊥ (sym f ∙ fill_lease sh (n + 1) m d ∙ ap (λ y. (sh.entry y).lease) eq ∙ e)
            | inr gt ↦ given_other d b f x (λ z. omega (arith, gt, z))
          ]
    ];
    pushed = λ k l2 b f. let g : (sh.entry (k + 1)).lease ≡ Some l2 =
        sym (fill_lease sh (n + 1) m (k + 1)) ∙ f in
        elim (three k n) [
          | inl lt ↦ pushed_else k l2 b (λ z. omega (arith, lt, z)) g
          | inr w ↦
              elim w [
                | inl eq ↦
                    subst (λ y. IsPushed sh' y l2) (sym eq)
                    (pushed_here l2 (subst (λ y. (sh.entry (y + 1)).lease ≡ Some l2) eq g))
                | inr gt ↦ pushed_else k l2 b (λ z. omega (arith, gt, z)) g
              ]
        ];
  }
