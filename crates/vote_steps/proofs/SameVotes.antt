-- Votes of a transaction that change, and nothing that is seen of any repository by it.
use Rattle.std.proofs.Common.{◌≡◌, ◌==◌, ℕ, List, [], ◌∷◌, true, false, Option, None, Some, if◌then◌else◌, refl, sym, ◌∙◌, ap, inl, inr, find, map}
use Rattle.std.specs.Option.{option_map}
use Rattle.px_base.specs.declared.ids.TxId.{TxId}
use Rattle.txmanager.proofs.RegistryLemmas.{other_with}
use Rattle.txmanager.specs.Registry.{Registry, transaction_at, with_transaction}
use Rattle.txmanager.specs.Voting.{Voting}
use Rattle.px_cluster.specs.Core.{Core, OpenPush, push_of, turn_of, voting}
use Rattle.replica_invariant.specs.State.{OpenPush as SeenPush}
use Rattle.cluster_form.specs.Form.{HasForm}
use Rattle.cluster_form.proofs.Lists.{bool, if_kept, other_number, same_number}
use Rattle.cluster_form.proofs.Registries.{found_set}
use Rattle.cluster_history.specs.Goes.{GoesOn}
use Rattle.cluster_history.specs.History.{Whole}
use Rattle.cluster_history.specs.Seen.{seen_push, seen_turn, vote_or_none}
use Rattle.cluster_history.proofs.OneRepository.{none_goes}
use Rattle.vote_steps.proofs.Turns.{turn_is}

-- ---- marks of a cancel and a stop

-- a mark leaves the transaction and the repository, and what is seen
pub record KeepsSeen (mark : OpenPush → OpenPush) : Type 0 where
  pub tx : (push : OpenPush) → (mark push).tx ≡ push.tx
  pub repo : (push : OpenPush) → (mark push).repo ≡ push.repo
  pub seen : (push : OpenPush) (vote : Voting) → seen_push (mark push) vote ≡ seen_push push vote

-- the push of one transaction is marked
abbrev pub marked_at : TxId → (OpenPush → OpenPush) → OpenPush → OpenPush
marked_at tx mark push = if push.tx.0 == tx.0 then mark push else push

-- so does the mark of one transaction
pub keeps_at : (tx : TxId) (mark : OpenPush → OpenPush) → KeepsSeen mark
    → KeepsSeen (marked_at tx mark)
keeps_at tx mark keeps = record {
  tx = λ push. if_kept (λ (p : OpenPush). p.tx) (push.tx.0 == tx.0) (mark push) push
      (keeps.tx push);
  repo = λ push. if_kept (λ (p : OpenPush). p.repo) (push.tx.0 == tx.0) (mark push) push
      (keeps.repo push);
  seen = λ push vote. if_kept (λ (p : OpenPush). seen_push p vote) (push.tx.0 == tx.0) (mark push)
      push (keeps.seen push vote);
}

-- the turn of a repository is found among the marked pushes
pub found_marked : (mark : OpenPush → OpenPush) → KeepsSeen mark → (repo : ℕ)
    → (pushes : List OpenPush) → find (λ (p : OpenPush). p.repo == repo) (map mark pushes)
    ≡ option_map mark (find (λ (p : OpenPush). p.repo == repo) pushes)
found_marked mark keeps repo [] = refl
found_marked mark keeps repo (push ∷ pushes) = elim (bool (push.repo == repo)) [
  | inl holds ↦ (let also : ((mark push).repo == repo) ≡ true =
      ap (λ n. n == repo) (keeps.repo push) ∙ holds in
      rw also (rw holds refl))
  | inr fails ↦ (let also : ((mark push).repo == repo) ≡ false =
      ap (λ n. n == repo) (keeps.repo push) ∙ fails in
      rw also (rw fails (found_marked mark keeps repo pushes)))
]

-- nothing is marked
pub found_unmarked : (push : Option OpenPush) → push ≡ option_map (λ p. p) push
found_unmarked None = refl
found_unmarked (Some push) = refl

-- ---- the votes of a transaction change

module _ (old : Whole) (form : HasForm old.cluster) (tx : TxId) (vote now : Voting)
    (there : voting old.cluster.core tx ≡ Some vote) where
  abbrev core : Core
  core = old.cluster.core

  abbrev registry : Registry
  registry = with_transaction core.transactions tx (Some now)

  abbrev with_pushes : List OpenPush → Whole
  with_pushes pushes = record old {
    cluster = record old.cluster {
      core = record core { transactions = registry; pushes = pushes };
    };
  }

  -- an open push of another transaction has the votes that it had
  pub other_vote : (push : OpenPush) → (push.tx ≡ tx → ⊥)
      → transaction_at registry push.tx ≡ voting core push.tx
  other_vote push differs = other_with core.transactions tx push.tx (Some now) differs

  module _ (looks : (push : OpenPush) → push_of core tx ≡ Some push
      → seen_push push now ≡ seen_push push vote) where
    -- each push is seen with the votes that it had
    same_votes : (push : OpenPush) → push_of core push.tx ≡ Some push
        → seen_push push (vote_or_none (transaction_at registry push.tx))
        ≡ seen_push push (vote_or_none (voting core push.tx))
    same_votes push named = elim (bool (push.tx.0 == tx.0)) [
      | inl holds ↦ (let same : push.tx ≡ tx = ap (λ n. let t : TxId = record { 0 = n } in t)
          (same_number push.tx.0 tx.0 holds) in
          ap (λ o. seen_push push (vote_or_none o))
          (ap (transaction_at registry) same ∙ found_set tx.0 core.transactions vote now there)
          ∙ looks push (ap (push_of core) (sym same) ∙ named)
          ∙ sym (ap (λ o. seen_push push (vote_or_none o)) (ap (voting core) same ∙ there)))
      | inr fails ↦ ap (λ o. seen_push push (vote_or_none o)) (other_vote push
          (λ same. other_number push.tx.0 tx.0 fails (ap (λ (t : TxId). t.0) same)))
    ]

    module _ (mark : OpenPush → OpenPush) (keeps : KeepsSeen mark) (pushes : List OpenPush)
        (marked : (repo : ℕ) → find (λ (p : OpenPush). p.repo == repo) pushes
        ≡ option_map mark (turn_of core repo)) where
      abbrev new : Whole
      new = with_pushes pushes

      -- each turn is seen as it was
      same_turn : (repo : ℕ) → seen_turn new.cluster.core (turn_of new.cluster.core repo)
          ≡ seen_turn core (turn_of core repo)
      same_turn repo = ap (seen_turn new.cluster.core) (marked repo) ∙ by (turn_of core repo) refl
        where
          by : (push : Option OpenPush) → turn_of core repo ≡ push
              → seen_turn new.cluster.core (option_map mark push) ≡ seen_turn core push
          by None is = refl
          by (Some push) is = ap (λ (p : SeenPush). let o : Option SeenPush = Some p in o)
              (ap (λ t. seen_push (mark push) (vote_or_none (transaction_at registry t)))
              (keeps.tx push)
              ∙ keeps.seen push (vote_or_none (transaction_at registry push.tx))
              ∙ same_votes push (turn_is core form.core repo push is).1.named)

      -- so nothing is seen of the change
      pub unseen_goes : GoesOn old new
      unseen_goes = none_goes old new refl (λ repo book known. record {
        admitted = refl;
        node = λ storage. refl;
        ledger = refl;
        entry = refl;
        text = refl;
        floor = refl;
        level = refl;
        had = refl;
        read_at = refl;
        job = λ storage. refl;
        turn = same_turn repo;
      })
