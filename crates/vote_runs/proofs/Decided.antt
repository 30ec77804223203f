-- What is issued under the lease of a push is the commit of the hash that its prepared phase decided for.
use Rattle.std.proofs.Common.{◌≡◌, ◌<◌, ◌≤◌, ◌+◌, ◌==◌, ◌⊎◌, ℕ, List, [], ◌∷◌, ◌++◌, true, Option, None, Some, refl, sym, ◌∙◌, ap, subst, inl, inr, arith}
use Rattle.node_calls.specs.ReplicaState.{NodeState}
use Rattle.px_base.specs.declared.hash.Hash.{Hash}
use Rattle.px_base.specs.declared.ids.TxId.{TxId}
use Rattle.px_ops.specs.declared.op.Op.{Op}
use Rattle.px_ops.specs.declared.op.Op.TheVariants as op
use Rattle.txmanager.specs.Readings.{outcome_in}
use Rattle.txmanager.specs.Voting.{Voting}
use Rattle.voters.specs.declared.outcome.Outcome.TheVariants.{Commit, Open}
use Rattle.px_cluster.proofs.Growing.{left}
use Rattle.px_cluster.specs.Astray.{Move, Moves, MovesOn}
use Rattle.px_cluster.specs.Book.{Repository}
use Rattle.px_cluster.specs.Cluster.{Cluster, Destination, starting_with}
use Rattle.px_cluster.specs.Core.{OpenPush, push_of, repository, voting}
use Rattle.px_cluster.specs.Ids.{repo_id}
use Rattle.px_cluster.specs.Issues.{issues, issues_begin}
use Rattle.px_cluster.specs.Ledger.{Creation, Deleting, Fencing, Purpose, Pushing, Unused, Updating, commit_in}
use Rattle.px_cluster.specs.Ops.{left_by}
use Rattle.px_cluster.specs.Pushes.{beginning}
use Rattle.cluster_form.proofs.FormKept.{form_always}
use Rattle.cluster_form.proofs.Lists.{all_find, same_number, some_is}
use Rattle.cluster_form.proofs.Panels.{panel_is}
use Rattle.cluster_form.proofs.PushRoutes.{pushed_by, value_case}
use Rattle.cluster_form.proofs.Uses.{uses_kept}
use Rattle.cluster_form.proofs.WithinLists.{later_there}
use Rattle.cluster_form.specs.Always.{IsKept}
use Rattle.cluster_form.specs.Drawn.{is_used}
use Rattle.cluster_form.specs.Form.{HasForm}
use Rattle.cluster_form.specs.Routes.{goes_to}
use Rattle.cluster_form.specs.Turns.{IsTurn, IsVoteOf}
use Rattle.cluster_form.specs.Within.{IsPushWithin}
use Rattle.vote_runs.specs.Acts.{IsOfPoll, WasOnRecord}
use Rattle.vote_runs.specs.Commits.{IsOut, OpenPushesCommitWhatTheyDecided}
use Rattle.vote_runs.proofs.Issued.{commit_issued}
use Rattle.vote_runs.proofs.Told.{IsCollect}
use Rattle.vote_runs.proofs.Named as named
use Rattle.vote_runs.proofs.Outcomes.{fixed_stays}
use Rattle.vote_runs.proofs.Registers.{itself as no_act}
use Rattle.vote_runs.proofs.Transactions.{goes_on_by_acts, moves_both, transactions_are_of_polls}

-- ---- where the effects of pushes go

-- a lease that was not drawn yet
abbrev IsAnew : Cluster → Destination → Type 0
IsAnew old to = (book : Repository) → repository old.core to.repo ≡ Some book
    → book.last < to.number

-- no lease is forgotten, and a push goes where it went, or has a lease that was drawn since
record IsSince (old new : Cluster) : Type 0 where
  books : (repo : ℕ) (book : Repository) → repository old.core repo ≡ Some book
      → (now : Repository) × (repository new.core repo ≡ Some now) × (book.last ≤ now.last)
  sent : (tx : ℕ) (to : Destination) → new.pushed tx ≡ Some to
      → (old.pushed tx ≡ Some to) ⊎ IsAnew old to

-- no move
itself : (old : Cluster) → IsSince old old
itself old = record {
  books = λ repo book there. (book, there, omega arith);
  sent = λ tx to there. inl there;
}

module _ (old : Cluster) where
  -- a push that begins
  begun_sent : (c : Cluster) (repo : ℕ) (book : Repository) → repository c.core repo ≡ Some book
      → IsSince old c → (tx : ℕ) (to : Destination)
      → (issues_begin c repo (Some book)).pushed tx ≡ Some to
      → (old.pushed tx ≡ Some to) ⊎ IsAnew old to
  begun_sent c repo book at is tx to there =
      elim (value_case c.pushed (c.core.last_tx + 1) (goes_to (beginning c.core repo book)) tx to
      there) [
        | inl now ↦ inr (λ before known.
            let number = ap (λ (d : Destination). d.number) (sym now.1) in
            let later = is.books to.repo before known in
            let same = some_is later.0 book (sym later.1
            ∙ ap (λ (d : Destination). repository c.core d.repo) (sym now.1) ∙ at) in
            let last = ap (λ (b : Repository). b.last) same in
            let grown = later.2 in omega (arith, number, last, grown))
        | inr before ↦ is.sent tx to before
      ]

  -- each operation
  sent_by : (c : Cluster) (asked : Op) → IsSince old c → ((issues c asked).pushed ≡ c.pushed)
      ⊎ ((repo : ℕ) × (book : Repository) × (repository c.core repo ≡ Some book)
      × (asked ≡ op.Begin (repo_id repo))) → (tx : ℕ) (to : Destination)
      → (issues c asked).pushed tx ≡ Some to → (old.pushed tx ≡ Some to) ⊎ IsAnew old to
  sent_by c asked is (inl same) tx to there = is.sent tx to (ap (λ f. f tx) (sym same) ∙ there)
  sent_by c asked is (inr begun) tx to there =
      begun_sent c begun.0 begun.1 begun.2 is tx to
      (subst (λ (known : Option Repository). (issues_begin c begun.0 known).pushed tx ≡ Some to)
      begun.2 (subst (λ (o : Op). (issues c o).pushed tx ≡ Some to) begun.3 there))

  -- and each move
  since_kept : IsKept (IsSince old)
  since_kept = uses_kept (IsSince old)
      (λ c new core uses pushed worked is. record {
        books = λ repo book there. let now = is.books repo book there in
            (now.0, ap (λ k. repository k repo) core ∙ now.1, now.2);
        sent = λ tx to there. is.sent tx to (ap (λ f. f tx) (sym pushed) ∙ there);
      })
      (λ c asked none is. record {
        books = λ repo book there. let now = is.books repo book there in
            let later = later_there c.core.repositories (left_by c.core asked).repositories
            (left c.core asked).0 repo now.0 now.1 in
            let first = now.2 in let then_ = later.2.last in
            (later.0, later.1, omega (arith, first, then_));
        sent = sent_by c asked is (pushed_by c asked);
      })
      (λ c is. record { books = is.books; sent = is.sent })

-- ---- after each move

-- whatever is out under the lease of a push whose transaction is on record is its decision
abbrev AreDecided : Cluster → Type 0
AreDecided cluster = (tx : TxId) (to : Destination) (vote : Voting) (storage : ℕ) (hash : Hash)
    → cluster.pushed tx.0 ≡ Some to → voting cluster.core tx ≡ Some vote
    → IsOut cluster to.repo storage to.number hash → outcome_in 0 vote.subs ≡ Some (Commit hash)

-- a lease with a commit is used
used_by : (p : Purpose) (hash : Hash) → commit_in p ≡ Some hash → is_used p ≡ true
used_by Unused hash is = absurd (let none : None ≡ Some hash = is in cc)
used_by (Creation made) hash is = refl
used_by (Pushing begun commit answered_) hash is = refl
used_by (Updating job source generation kept answered_) hash is = refl
used_by (Deleting job answered_) hash is = refl
used_by (Fencing last) hash is = refl

module _ (old new : Cluster) (move : Move) (form : HasForm old) (moves : Moves old move new) where
  -- under a lease that was not drawn nothing is issued
  none_out : (to : Destination) (storage : ℕ) (hash : Hash) → IsAnew old to
      → (IsOut old to.repo storage to.number hash)
      ⊎ (IsCollect old move to.repo storage to.number hash) → ⊥
  none_out to storage hash anew (inl out) =
      let drawn = form.leases.uses to.repo storage to.number
      (used_by (old.ledger to.repo storage to.number) hash out) in
      let above = anew drawn.home.book drawn.home.there in
      let within = drawn.drawn in omega (arith, above, within)
  none_out to storage hash anew (inr collect) =
      let push = collect.told.push in
      let within : IsPushWithin old.core.repositories push =
      (all_find (IsPushWithin old.core.repositories) (λ (p : OpenPush). p.tx.0 == collect.tx.0)
      old.core.pushes push form.core.within.pushes collect.told.turn).0 in
      let above = anew within.book
      (ap (repository old.core) (sym collect.told.of_repo) ∙ within.there) in
      let lease = within.lease in
      let same = collect.told.of_lease in omega (arith, above, lease, same)

  -- a collect for the lease of a push is of its transaction
  collected : (tx : TxId) (to : Destination) (before : Voting) (storage : ℕ) (hash : Hash)
      → old.pushed tx.0 ≡ Some to → voting old.core tx ≡ Some before
      → IsCollect old move to.repo storage to.number hash
      → outcome_in 0 before.subs ≡ Some (Commit hash)
  collected tx to before storage hash sent there collect =
      let push = collect.told.push in
      let goes = all_find (λ (p : OpenPush). old.pushed p.tx.0 ≡ Some (goes_to p))
      (λ (p : OpenPush). p.tx.0 == collect.tx.0) old.core.pushes push form.routes.pushes.open_
      collect.told.turn in
      let same : push.tx.0 ≡ tx.0 = form.routes.pushes.apart push.tx.0 tx.0 (goes_to push) to goes.0
      sent collect.told.of_repo collect.told.of_lease in
      let number : collect.tx.0 ≡ tx.0 = sym (same_number push.tx.0 collect.tx.0 goes.1) ∙ same in
      let vote : collect.told.vote ≡ before = some_is collect.told.vote before
      (sym collect.told.there
      ∙ ap (λ n. voting old.core (let t : TxId = record { 0 = n } in t)) number ∙ there) in
      subst (λ (v : Voting). outcome_in 0 v.subs ≡ Some (Commit hash)) vote
      (named.decided old new move to.repo storage to.number hash form moves collect)

  -- so what is out after the move was decided before it
  decided_before : AreDecided old → (tx : TxId) (to : Destination) (before : Voting) (storage : ℕ)
      (hash : Hash) → old.pushed tx.0 ≡ Some to → voting old.core tx ≡ Some before
      → (IsOut old to.repo storage to.number hash)
      ⊎ (IsCollect old move to.repo storage to.number hash)
      → outcome_in 0 before.subs ≡ Some (Commit hash)
  decided_before decided tx to before storage hash sent there (inl out) =
      decided tx to before storage hash sent there out
  decided_before decided tx to before storage hash sent there (inr collect) =
      collected tx to before storage hash sent there collect

  -- and is decided after it
  decided_after : AreDecided old
      → ((tx : TxId) (vote : Voting) → voting old.core tx ≡ Some vote → IsOfPoll vote)
      → AreDecided new
  decided_after decided polls tx to vote storage hash sent there out =
      let issued = commit_issued old move new moves to.repo storage to.number hash out in
      elim ((since_kept old old new move (itself old) moves).sent tx.0 to sent) [
        | inl before ↦ (let was : WasOnRecord old tx vote =
            goes_on_by_acts (move ∷ []) old new tx vote form (new, moves, refl)
            (form.routes.pushes.each tx.0 to before).given there in
            fixed_stays was.before vote 0 (Commit hash) (polls tx was.before was.there) was.led
            (λ same. let z : Commit hash ≡ Open = same in absurd (cc))
            (decided_before decided tx to was.before storage hash before was.there issued))
        | inr anew ↦ absurd (none_out to storage hash anew issued)
      ]

-- ---- over a run

module _ (node : ℕ → NodeState) where
  -- move by move
  decided_on : (moves done : List Move) (old new : Cluster)
      → MovesOn (starting_with node) done old → AreDecided old → MovesOn old moves new
      → AreDecided new
  decided_on [] done old new reached decided is = subst AreDecided (sym is) decided
  decided_on (move ∷ moves) done old new reached decided is =
      decided_on moves (done ++ move ∷ []) is.0 new
      (moves_both done (move ∷ []) (starting_with node) old is.0 reached (is.0, is.1, refl))
      (decided_after old is.0 move (form_always node done old reached) is.1 decided
      (λ tx vote there. transactions_are_of_polls node done old tx vote reached there)) is.2

  -- where no push began yet
  none_decided : AreDecided (starting_with node)
  none_decided tx to vote storage hash sent there out =
      absurd (let none : None ≡ Some to = sent in cc)

-- so of each open push
open_decided : (node : ℕ → NodeState) (moves : List Move) (new : Cluster) (tx : TxId)
    (push : OpenPush) (vote : Voting) (storage : ℕ) (hash : Hash)
    → MovesOn (starting_with node) moves new → push_of new.core tx ≡ Some push
    → voting new.core tx ≡ Some vote → IsOut new push.repo storage push.lease hash
    → outcome_in 0 vote.subs ≡ Some (Commit hash)
open_decided node moves new tx push vote storage hash is turn there out =
    let form = form_always node moves new is in
    let goes = all_find (λ (p : OpenPush). new.pushed p.tx.0 ≡ Some (goes_to p))
    (λ (p : OpenPush). p.tx.0 == tx.0) new.core.pushes push form.routes.pushes.open_ turn in
    decided_on node moves [] (starting_with node) new refl (none_decided node) is tx (goes_to push)
    vote storage hash
    (ap new.pushed (sym (same_number push.tx.0 tx.0 goes.1)) ∙ goes.0) there out

-- .. whose vote is one of its members
pub open_pushes_commit_what_they_decided : OpenPushesCommitWhatTheyDecided
open_pushes_commit_what_they_decided node moves new tx push vote storage hash is turn there out =
    let storages = new.core.storages in
    let found = all_find (IsTurn storages new.core.transactions new.core.last_tx)
    (λ (p : OpenPush). p.tx.0 == tx.0) new.core.pushes push
    (form_always node moves new is).core.turns.each turn in
    let same : found.0.vote ≡ vote = some_is found.0.vote vote (sym found.0.registered
    ∙ ap (λ n. voting new.core (let t : TxId = record { 0 = n } in t))
    (same_number push.tx.0 tx.0 found.1) ∙ there) in
    named.named_by_quorum storages push.members vote vote hash
    (subst (IsVoteOf storages push.members) same found.0.sound)
    (panel_is storages push.members found.0.some) (no_act vote)
    (open_decided node moves new tx push vote storage hash is turn there out)
