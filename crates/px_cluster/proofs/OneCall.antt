-- What each call on a node determines: it is refused for one cause or done, never both, and has one
-- effect.
use Rattle.std.proofs.Common.{◌≡◌, ℕ, List, ◌∷◌, true, false, is_some, Option, None, Some, refl, sym, ap, ◌∙◌, inl, inr}
use Rattle.std.proofs.lemmas.List.Elements.{Contains-append_right}
use Rattle.std.specs.Map.{values_of}
use Rattle.px_base.specs.declared.hash.Hash.{Hash}
use Rattle.px_base.specs.declared.push.Push.{Push}
use Rattle.px_ops.specs.declared.node_refusal.NodeRefusal.{NodeRefusal}
use Rattle.px_ops.specs.declared.node_refusal.NodeRefusal.TheVariants as refusal
use Rattle.objstore.proofs.FirstLemmas.{one_first}
use Rattle.objstore.proofs.Ids.{Contains-first}
use Rattle.objstore.proofs.ReachedLemmas.{one_list}
use Rattle.objstore.proofs.WalkLemmas.{reached}
use Rattle.objstore.specs.Entries.{object_at}
use Rattle.objstore.specs.Reach.{IsClosed, Objects}
use Rattle.objstore.specs.Walk.{Walk}
use Rattle.refstore.specs.Hook.{vote_on}
use Rattle.node_calls.specs.Calls.{AbortRefuses, Aborts, ApplyRefuses, Applies, Commits, CreateRefuses, Creates, Lacks, PrepareRefuses, Prepares, RemoveRefuses, Removes, committed, new_tips, ready_under, with_coming}
use Rattle.node_calls.specs.Reads.{IsSnapshot}
use Rattle.node_calls.specs.ReplicaState.{ReadyPush, ReplicaState}
use Rattle.node_calls.specs.declared.snapshot.Snapshot.{Snapshot}
use Rattle.px_cluster.specs.Step.{ApplyRefusesAs, AppliesAs, CommitRefusesAs, CommitsAs}

-- a call that has one answer in each state, and leaves one
pub record IsOneCall {A : Type 0} (refuses : ReplicaState → NodeRefusal → Type 0)
    (does : ReplicaState → A → ReplicaState → Type 0) : Type 0 where
  pub one_refusal : (state : ReplicaState) (x y : NodeRefusal) → refuses state x → refuses state y
      → x ≡ y
  pub not_both : (state : ReplicaState) (x : NodeRefusal) (answer : A) (then_ : ReplicaState)
      → refuses state x → does state answer then_ → ⊥
  pub one_effect : (state : ReplicaState) (x y : A) (p q : ReplicaState) → does state x p
      → does state y q → (x ≡ y) × (p ≡ q)

-- two that an option is are one
one_some : {A : Type 0} (o : Option A) (x y : A) → o ≡ Some x → o ≡ Some y → x ≡ y
one_some o x y a b = let same : Some x ≡ Some y = sym a ∙ b in cc

not_none : {A : Type 0} (o : Option A) (x : A) → o ≡ None → o ≡ Some x → ⊥
not_none o x a b = let no : None ≡ Some x = sym a ∙ b in absurd (cc)

-- ---- objects that are missed

-- an object that is missed is reachable, so what leads there is not closed
not_closed : (objects : Objects) (tips : List Hash) (x : NodeRefusal) → Lacks objects tips x
    → IsClosed objects tips → ⊥
not_closed objects tips (refusal.Missing id) lacks closed =
    let walk : Walk = record { taken = lacks.taken; waiting = id ∷ lacks.waiting } in
    let stands = Contains-append_right lacks.taken (id ∷ lacks.waiting) id
    (Contains-first id lacks.waiting) in
    let some : is_some (objects id) ≡ true = closed id (reached objects tips walk lacks.walk id stands)
    in
    let none : is_some (objects id) ≡ false = ap is_some lacks.missing in
    absurd (cc)
not_closed objects tips x lacks closed = absurd lacks

-- one object is missed first
one_lack : (objects : Objects) (tips : List Hash) (x y : NodeRefusal) → Lacks objects tips x
    → Lacks objects tips y → x ≡ y
one_lack objects tips (refusal.Missing id) (refusal.Missing other) a b =
    ap refusal.Missing (one_first objects tips id other a b)
one_lack objects tips (refusal.Missing id) y a b = absurd b
one_lack objects tips x y a b = absurd a

-- ---- each call

pub one_create : (lease : ℕ) → IsOneCall (CreateRefuses lease) (Creates lease)
one_create lease = record {
  one_refusal = λ state x y a b. one_some _ x y a b;
  not_both = λ state x answer then_ a b. not_none _ x b.accepted a;
  one_effect = λ state x y p q a b. (refl, a.is ∙ sym b.is);
}

pub one_prepare : (lease : ℕ) (push : Push)
    → IsOneCall (PrepareRefuses lease push) (Prepares lease push)
one_prepare lease push = record {
  one_refusal = one;
  not_both = both;
  one_effect = λ state x y p q a b. (a.vote ∙ sym b.vote, a.is ∙ sym b.is);
}
  where
    one : (state : ReplicaState) (x y : NodeRefusal) → PrepareRefuses lease push state x
        → PrepareRefuses lease push state y → x ≡ y
    one state x y (inl a) (inl b) = one_some _ x y a b
    one state x y (inl a) (inr b) = absurd (not_none _ x b.0 a)
    one state x y (inr a) (inl b) = absurd (not_none _ y a.0 b)
    one state x y (inr a) (inr b) =
        one_lack (with_coming state push.objects) (new_tips push.updates) x y a.1 b.1

    both : (state : ReplicaState) (x : NodeRefusal) (answer : Hash) (then_ : ReplicaState)
        → PrepareRefuses lease push state x → Prepares lease push state answer then_ → ⊥
    both state x answer then_ (inl a) b = not_none _ x b.accepted a
    both state x answer then_ (inr a) b =
        not_closed (with_coming state push.objects) (new_tips push.updates) x a.1 b.closed

pub one_commit : (lease : ℕ) (hash : Option Hash)
    → IsOneCall (CommitRefusesAs lease hash) (CommitsAs lease hash)
one_commit lease None = record {
  one_refusal = λ state x y a b. absurd a;
  not_both = λ state x answer then_ a b. a;
  one_effect = λ state x y p q a b. absurd a;
}
one_commit lease (Some hash) = record {
  one_refusal = λ state x y a b. one_some _ x y a b;
  not_both = λ state x answer then_ a b. not_none _ x b.accepted a;
  one_effect = effect;
}
  where
    effect : (state : ReplicaState) (x y : Hash) (p q : ReplicaState) → Commits lease hash state x p
        → Commits lease hash state y q → (x ≡ y) × (p ≡ q)
    effect state x y p q a b =
        let same : a.push ≡ b.push =
        one_some (ready_under lease state.ready) a.push b.push a.ready b.ready in (
          a.vote ∙ ap (λ (push : ReadyPush). vote_on push.updates) same ∙ sym b.vote,
          a.is ∙ ap (λ (push : ReadyPush). committed lease push state) same ∙ sym b.is,
        )

pub one_abort : (lease : ℕ) → IsOneCall (AbortRefuses lease) (Aborts lease)
one_abort lease = record {
  one_refusal = λ state x y a b. one_some _ x y a b;
  not_both = λ state x answer then_ a b. not_none _ x b.accepted a;
  one_effect = λ state x y p q a b. (refl, a.is ∙ sym b.is);
}

pub one_remove : (lease : ℕ) → IsOneCall (RemoveRefuses lease) (Removes lease)
one_remove lease = record {
  one_refusal = λ state x y a b. one_some _ x y a b;
  not_both = λ state x answer then_ a b. not_none _ x b.accepted a;
  one_effect = λ state x y p q a b. (refl, a.is ∙ sym b.is);
}

pub one_apply : (lease : ℕ) (snapshot : Option Snapshot)
    → IsOneCall (ApplyRefusesAs lease snapshot) (AppliesAs lease snapshot)
one_apply lease None = record {
  one_refusal = λ state x y a b. absurd a;
  not_both = λ state x answer then_ a b. a;
  one_effect = λ state x y p q a b. absurd a;
}
one_apply lease (Some snapshot) = record {
  one_refusal = one;
  not_both = both;
  one_effect = λ state x y p q a b. (refl, a.is ∙ sym b.is);
}
  where
    one : (state : ReplicaState) (x y : NodeRefusal) → ApplyRefuses lease snapshot state x
        → ApplyRefuses lease snapshot state y → x ≡ y
    one state x y (inl a) (inl b) = one_some _ x y a b
    one state x y (inl a) (inr b) = absurd (not_none _ x b.0 a)
    one state x y (inr a) (inl b) = absurd (not_none _ y a.0 b)
    one state x y (inr a) (inr b) =
        one_lack (with_coming state snapshot.objects) (values_of snapshot.refs) x y a.1 b.1

    both : (state : ReplicaState) (x : NodeRefusal) (answer : Unit {0}) (then_ : ReplicaState)
        → ApplyRefuses lease snapshot state x → Applies lease snapshot state answer then_ → ⊥
    both state x answer then_ (inl a) b = not_none _ x b.accepted a
    both state x answer then_ (inr a) b =
        not_closed (with_coming state snapshot.objects) (values_of snapshot.refs) x a.1 b.closed

-- ---- snapshots

-- one snapshot is taken of a state
pub one_snapshot : (state : ReplicaState) (a b : Snapshot) → IsSnapshot state a → IsSnapshot state b
    → a ≡ b
one_snapshot state a b x y =
    let objects_of = object_at state.objects in
    let refs : a.refs ≡ b.refs = x.refs ∙ sym y.refs in
    let objects : a.objects ≡ b.objects =
    one_list objects_of (values_of state.refs) a.objects b.objects x.objects y.objects in
    λ i. record { refs = refs i; objects = objects i }
