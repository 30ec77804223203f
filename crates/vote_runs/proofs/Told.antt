-- A collect that issues a commit.
use Rattle.std.proofs.Common.{◌≡◌, ◌==◌, ◌&&◌, ◌⊎◌, ℕ, List, Option, None, Some, refl, sym, ◌∙◌, ap, inl, inr}
use Rattle.px_base.specs.declared.hash.Hash.{Hash}
use Rattle.px_base.specs.declared.ids.TxId.{TxId}
use Rattle.px_ops.specs.declared.op.Op.TheVariants as op
use Rattle.txmanager.specs.Voting.{Voting, collect_answer}
use Rattle.px_cluster.specs.Acknowledged.{event_refusal, op_reply}
use Rattle.px_cluster.specs.Astray.{Happens, Move}
use Rattle.px_cluster.specs.Casts.{member_named}
use Rattle.px_cluster.specs.Cluster.{Cluster}
use Rattle.px_cluster.specs.Core.{OpenPush, push_of, voting}
use Rattle.px_cluster.specs.Events.{Answer, Event, Replied, Voted}
use Rattle.px_cluster.specs.Events as event
use Rattle.px_cluster.specs.Issues.{issues_commit, issues_commit_at, told_hash}
use Rattle.px_cluster.specs.Ledger.{Ledger, Purpose, commit_in, with_commit}
use Rattle.cluster_form.proofs.Lists.{both_left, both_right, choose, same_number}
use Rattle.vote_runs.specs.Commits.{IsOut}
use Rattle.vote_runs.proofs.Purposes.{by_hash}

-- it was not refused; and of an open push, whose member it is that is named, the hash was told
pub record IsTold (old : Cluster) (tx : TxId) (voter : List ℕ) (sub repo storage lease : ℕ)
    (hash : Hash) : Type 0 where
  pub first : sub ≡ 1
  pub push : OpenPush
  pub turn : push_of old.core tx ≡ Some push
  pub vote : Voting
  pub there : voting old.core tx ≡ Some vote
  pub of_repo : push.repo ≡ repo
  pub of_lease : push.lease ≡ lease
  pub named : member_named push vote voter ≡ Some storage
  pub told : told_hash (collect_answer voter sub vote) ≡ Some hash

-- the move is that collect
pub record IsCollect (old : Cluster) (move : Move) (repo storage lease : ℕ) (hash : Hash) : Type 0
  where
    pub tx : TxId
    pub voter : List ℕ
    pub sub : ℕ
    pub is : move ≡ Happens (event.Asks (op.Collect tx voter sub))
        (Replied (op_reply old (op.Collect tx voter sub)))
    pub none : event_refusal old (op.Collect tx voter sub) ≡ None
    pub told : IsTold old tx voter sub repo storage lease hash

module _ (old : Cluster) where
  -- each commit that is out then was out before, or was issued in that way
  abbrev pub Adds : (ℕ → ℕ → ℕ → Hash → Type 0) → Ledger → Type 0
  Adds Issued ledger = (r s l : ℕ) (hash : Hash) → commit_in (ledger r s l) ≡ Some hash
      → IsOut old r s l hash ⊎ Issued r s l hash

  -- what a collect issues
  pub collected : (tx : TxId) (voter : List ℕ) (sub : ℕ) (push : Option OpenPush)
      (vote : Option Voting) → push_of old.core tx ≡ push → voting old.core tx ≡ vote
      → Adds (IsTold old tx voter sub) (issues_commit old voter sub push vote).ledger
  collected tx voter sub None vote turn there r s l hash = λ is. inl is
  collected tx voter sub (Some push) None turn there r s l hash = λ is. inl is
  collected tx voter sub (Some push) (Some vote) turn there r s l hash =
      choose (λ (c : Cluster). commit_in (c.ledger r s l) ≡ Some hash
      → IsOut old r s l hash ⊎ IsTold old tx voter sub r s l hash) (sub == 1)
      (issues_commit_at old push (member_named push vote voter)
      (told_hash (collect_answer voter sub vote))) old
      (λ holds. at (same_number sub 1 holds) (member_named push vote voter)
      (told_hash (collect_answer voter sub vote)) refl refl) (λ fails is. inl is)
    where
      at : sub ≡ 1 → (storage : Option ℕ) (issued : Option Hash)
          → member_named push vote voter ≡ storage
          → told_hash (collect_answer voter sub vote) ≡ issued
          → commit_in ((issues_commit_at old push storage issued).ledger r s l) ≡ Some hash
          → IsOut old r s l hash ⊎ IsTold old tx voter sub r s l hash
      at first None issued named told = λ is. inl is
      at first (Some storage) None named told = λ is. inl is
      at first (Some storage) (Some issued) named told =
          choose (λ (p : Purpose). commit_in p ≡ Some hash
          → IsOut old r s l hash ⊎ IsTold old tx voter sub r s l hash)
          ((r == push.repo) && (s == storage) && (l == push.lease))
          (with_commit issued (old.ledger r s l)) (old.ledger r s l)
          (λ here is. elim (by_hash issued (old.ledger r s l) hash is) [
            | inl before ↦ inl before
            | inr same ↦ inr (let both = both_left ((r == push.repo) && (s == storage))
                (l == push.lease) here in record {
                  first = first;
                  push = push;
                  turn = turn;
                  vote = vote;
                  there = there;
                  of_repo = sym (same_number r push.repo (both_left (r == push.repo) (s == storage) both));
                  of_lease = sym (same_number l push.lease
                      (both_right ((r == push.repo) && (s == storage)) (l == push.lease) here));
                  named = named ∙ ap (λ n. let o : Option ℕ = Some n in o)
                      (sym (same_number s storage (both_right (r == push.repo) (s == storage) both)));
                  told = told ∙ ap (λ h. let o : Option Hash = Some h in o) same;
                })
          ]) (λ elsewhere is. inl is)
