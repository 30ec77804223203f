-- The one list of updates that a push has with a vote: that of the first move that prepares one with
-- this vote under the lease of its transaction.
use Rattle.std.proofs.Common.{◌≡◌, ◌==◌, ◌&&◌, ℕ, List, [], ◌∷◌, ◌++◌, Bool, true, false, if◌then◌else◌, Option, None, Some, refl, sym, ◌∙◌, ap, subst, inl, inr}
use Rattle.px_base.specs.Hash.{same_hash, same_hash-Decides}
use Rattle.px_base.specs.declared.ids.TxId.{TxId}
use Rattle.px_base.specs.declared.push.Push.{Push}
use Rattle.refstore.specs.Hook.{vote_on}
use Rattle.px_cluster.specs.Astray.{Move}
use Rattle.px_cluster.specs.Cluster.{Destination}
use Rattle.replica_invariant.specs.Contents.{Updates, Vote}
use Rattle.cluster_form.proofs.Lists.{bool, both_left, both_right, same_number, same_self}
use Rattle.cluster_runs.specs.Lists.{HaveOneList, IsPreparedIn, Prepared, prepared_by}

-- ---- the list

abbrev pub goes_to : Option Destination → ℕ → ℕ → Bool
goes_to None repo lease = false
goes_to (Some to) repo lease = (to.repo == repo) && (to.number == lease)

abbrev pub is_it : (ℕ → Option Destination) → ℕ → ℕ → Vote → Option Prepared → Bool
is_it pushed repo lease hash None = false
is_it pushed repo lease hash (Some prepared) =
    goes_to (pushed prepared.tx.0) repo lease && same_hash (vote_on prepared.push.updates) hash

abbrev pub updates_of : Option Prepared → Updates
updates_of None = []
updates_of (Some prepared) = prepared.push.updates

-- by where the transactions lead in the end
abbrev pub text_in : (ℕ → Option Destination) → List Move → ℕ → ℕ → Vote → Updates
text_in pushed [] repo lease hash = []
text_in pushed (move ∷ moves) repo lease hash =
    if is_it pushed repo lease hash (prepared_by move) then updates_of (prepared_by move)
    else text_in pushed moves repo lease hash

-- ---- each prepare brings it

to_is : (there : Option Destination) (repo lease : ℕ) → goes_to there repo lease ≡ true
    → (to : Destination) × (there ≡ Some to) × (to.repo ≡ repo) × (to.number ≡ lease)
to_is None repo lease is = absurd (let z : false ≡ true = is in cc)
to_is (Some to) repo lease is = (
  to,
  refl,
  same_number to.repo repo (both_left (to.repo == repo) (to.number == lease) is),
  same_number to.number lease (both_right (to.repo == repo) (to.number == lease) is),
)

both : (a b : Bool) → a ≡ true → b ≡ true → (a && b) ≡ true
both a b first second = rw first second

module _ (pushed : ℕ → Option Destination) (to : Destination) (hash : Vote) where
  -- the list comes with a push that one of the moves prepares, under this lease
  record IsFound (moves : List Move) (list : Updates) : Type 0 where
    pub tx : TxId
    pub push : Push
    pub prepared : IsPreparedIn moves tx push
    pub leads : Destination
    pub there : pushed tx.0 ≡ Some leads
    pub repo : leads.repo ≡ to.repo
    pub lease : leads.number ≡ to.number
    pub vote : vote_on push.updates ≡ hash
    pub is : list ≡ push.updates

  here : (move : Move) (moves : List Move) (prepared : Option Prepared) → prepared_by move ≡ prepared
      → is_it pushed to.repo to.number hash prepared ≡ true
      → IsFound (move ∷ moves) (updates_of prepared)
  here move moves None by is = absurd (let z : false ≡ true = is in cc)
  here move moves (Some prepared) by is =
      let leads = to_is (pushed prepared.tx.0) to.repo to.number (both_left _ _ is) in
      record {
        tx = prepared.tx;
        push = prepared.push;
        prepared = inl by;
        leads = leads.0;
        there = leads.1;
        repo = leads.2;
        lease = leads.3;
        vote = (same_hash-Decides (vote_on prepared.push.updates) hash).0 (both_right _ _ is);
        is = refl;
      }

  later : (move : Move) (moves : List Move) (list : Updates) → IsFound moves list
      → IsFound (move ∷ moves) list
  later move moves list found = record {
    tx = found.tx;
    push = found.push;
    prepared = inr found.prepared;
    leads = found.leads;
    there = found.there;
    repo = found.repo;
    lease = found.lease;
    vote = found.vote;
    is = found.is;
  }

  module _ (tx : TxId) (push : Push) (there : pushed tx.0 ≡ Some to)
      (vote : vote_on push.updates ≡ hash) where
    passes : is_it pushed to.repo to.number hash (Some (record { tx = tx; push = push })) ≡ true
    passes = both (goes_to (pushed tx.0) to.repo to.number) (same_hash (vote_on push.updates) hash)
        (ap (λ there_. goes_to there_ to.repo to.number) there
        ∙ both (to.repo == to.repo) (to.number == to.number) (same_self to.repo)
        (same_self to.number)) ((same_hash-Decides (vote_on push.updates) hash).1 vote)

    found : (moves : List Move) → IsPreparedIn moves tx push
        → IsFound moves (text_in pushed moves to.repo to.number hash)
    found [] is = absurd is
    found (move ∷ moves) is =
        elim (bool (is_it pushed to.repo to.number hash (prepared_by move))) [
          | inl holds ↦ (rw holds (here move moves (prepared_by move) refl holds))
          | inr fails ↦ (rw fails (elim is [
            | inl first ↦ absurd (let z : true ≡ false =
                sym passes ∙ ap (is_it pushed to.repo to.number hash) (sym first) ∙ fails in cc)
            | inr rest ↦
                later move moves (text_in pushed moves to.repo to.number hash) (found moves rest)
          ]))
        ]

-- two transactions never lead to one lease
abbrev pub LeadApart : (ℕ → Option Destination) → Type 0
LeadApart pushed = (one other : ℕ) (a b : Destination) → pushed one ≡ Some a
    → pushed other ≡ Some b → a.repo ≡ b.repo → a.number ≡ b.number → one ≡ other

pub one_text : (pushed : ℕ → Option Destination) (moves : List Move) → LeadApart pushed
    → HaveOneList moves → (tx : TxId) (push : Push) (to : Destination) → pushed tx.0 ≡ Some to
    → IsPreparedIn moves tx push
    → push.updates ≡ text_in pushed moves to.repo to.number (vote_on push.updates)
one_text pushed moves apart premise tx push to there is =
    let first = found pushed to (vote_on push.updates) tx push there refl moves is in
    let number : first.tx.0 ≡ tx.0 =
    apart first.tx.0 tx.0 first.leads to first.there there first.repo first.lease in
    let same : first.tx ≡ tx = (λ i. record { 0 = number i }) in
    premise tx push first.push is
    (subst (λ t. IsPreparedIn moves t first.push) same first.prepared) (sym first.vote)
    ∙ sym first.is

-- ---- what is prepared in a part of a list

pub prepared_before : (moves more : List Move) (tx : TxId) (push : Push)
    → IsPreparedIn moves tx push → IsPreparedIn (moves ++ more) tx push
prepared_before [] more tx push is = absurd is
prepared_before (move ∷ moves) more tx push (inl is) = inl is
prepared_before (move ∷ moves) more tx push (inr is) = inr (prepared_before moves more tx push is)

pub prepared_after : (moves more : List Move) (tx : TxId) (push : Push)
    → IsPreparedIn more tx push → IsPreparedIn (moves ++ more) tx push
prepared_after [] more tx push is = is
prepared_after (move ∷ moves) more tx push is = inr (prepared_after moves more tx push is)
