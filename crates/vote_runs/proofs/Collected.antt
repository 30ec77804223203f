-- What a collect that issues a commit answered, and of whom.
use Rattle.std.proofs.Common.{◌≡◌, ◌==◌, ℕ, zero, suc, List, [], ◌∷◌, true, Option, None, Some, Result, Ok, Err, refl, sym, ◌∙◌, ap, subst, inl, inr, get_or, map, position, slice_get}
use Rattle.std.proofs.lemmas.List.Quantifiers.{position-Some}
use Rattle.px_base.specs.declared.hash.Hash.{Hash}
use Rattle.px_base.specs.declared.ids.TxId.{TxId}
use Rattle.px_base.specs.declared.voter.Voter.{Voter}
use Rattle.px_ops.specs.declared.op.Op.TheVariants as op
use Rattle.px_ops.specs.declared.reply.Reply.TheVariants as reply
use Rattle.txmanager.specs.Registry.{answer_at, transaction_at}
use Rattle.txmanager.specs.Voting.{Voting, collect_answer}
use Rattle.txmanager.specs.declared.refusal.TxRefusal.{TxRefusal}
use Rattle.voters.specs.Panel.{same_name}
use Rattle.voters.specs.Verdict.{Standing}
use Rattle.voters.specs.declared.voter_result.VoterResult.{VoterResult}
use Rattle.voters.specs.declared.voter_result.VoterResult.TheVariants as result
use Rattle.px_cluster.specs.Acknowledged.{op_reply}
use Rattle.px_cluster.specs.Astray.{Happens, Move}
use Rattle.px_cluster.specs.Casts.{member_at}
use Rattle.px_cluster.specs.Cluster.{Cluster}
use Rattle.px_cluster.specs.Core.{Core, OpenPush, name_of}
use Rattle.px_cluster.specs.Events.{Replied}
use Rattle.px_cluster.specs.Events as event
use Rattle.px_cluster.specs.Issues.{told_hash}
use Rattle.px_cluster.specs.Members.{panel_of, voter_with}
use Rattle.px_cluster.specs.Numbers.{is_one_of}
use Rattle.px_cluster.specs.Ops.{answer_of, collected, told}
use Rattle.cluster_form.proofs.FormKept.{form_always}
use Rattle.cluster_form.proofs.Lists.{all_find, bytes_same, same_number, same_self, some_is}
use Rattle.cluster_form.proofs.OneOf.{or_later}
use Rattle.cluster_form.specs.Form.{HasForm}
use Rattle.cluster_form.specs.Turns.{IsTurn, IsVoteOf, panel_for}
use Rattle.vote_runs.specs.Commits.{CommitsAreIssuedByCollects, IsIssuedBy}
use Rattle.vote_runs.proofs.Issued.{commit_issued}
use Rattle.vote_runs.proofs.Told.{IsCollect}

-- ---- voters have the names of members

-- the storage is a member, and has the name
pub record IsNamed (core : Core) (members_ : List ℕ) (name : List ℕ) (storage : ℕ) : Type 0 where
  pub member : is_one_of storage members_ ≡ true
  pub called : name ≡ name_of core storage

module _ (core : Core) (d : Voter) where
  -- the voter at a place has the name of the member there
  abbrev IsNamedAt : List Voter → List ℕ → Type 0
  IsNamedAt voters members_ = (place storage : ℕ) → slice_get members_ place ≡ Some storage
      → (is_one_of storage members_ ≡ true) × ((get_or voters place d).name ≡ name_of core storage)

  -- one voter more in front
  named_more : (weight m : ℕ) (ms : List ℕ) (voters : List Voter) → IsNamedAt voters ms
      → IsNamedAt (voter_with core weight m ∷ voters) (m ∷ ms)
  named_more weight m ms voters named zero storage is =
      let same = some_is m storage is in
      (rw same (rw (same_self storage) refl), ap (name_of core) same)
  named_more weight m ms voters named (suc place) storage is =
      let rest = named place storage is in
      (or_later (m == storage) (is_one_of storage ms) rest.0, rest.1)

  -- voters of one weight
  named_each : (weight : ℕ) (ms : List ℕ) → IsNamedAt (map (voter_with core weight) ms) ms
  named_each weight [] place storage is = absurd (let none : None ≡ Some storage = is in cc)
  named_each weight (m ∷ ms) place storage is =
      named_more weight m ms (map (voter_with core weight) ms) (named_each weight ms) place storage is

  -- .. and the whole panel
  named_in_panel : (ms : List ℕ) → IsNamedAt (panel_of core ms).voters ms
  named_in_panel [] place storage is = absurd (let none : None ≡ Some storage = is in cc)
  named_in_panel (m ∷ ms) place storage is =
      named_more _ m ms (map (voter_with core 1) ms) (named_each 1 ms) place storage is

-- so the member that is named has that name
member_has_name : (core : Core) (ms name : List ℕ) (storage : ℕ) (place : Option ℕ)
    → position (same_name name) (panel_of core ms).voters ≡ place
    → member_at ms place ≡ Some storage → IsNamed core ms name storage
member_has_name core ms name storage None at is = absurd (let none : None ≡ Some storage = is in cc)
member_has_name core ms name storage (Some place) at is =
    let d : Voter = record { name = []; weight = 0 } in
    let named = named_in_panel core d ms place storage is in
    let passes = (position-Some (same_name name) (panel_of core ms).voters place d at).1 in
    record {
      member = named.0;
      called = sym (bytes_same (get_or (panel_of core ms).voters place d).name name passes) ∙ named.1;
    }

-- ---- the answer

-- who is told a hash is committed, with a verdict of that hash
verdict_of : (found : Result VoterResult TxRefusal) (hash : Hash) → told_hash found ≡ Some hash
    → (verdict : Standing) × (found ≡ Ok (result.Committed verdict)) × (verdict.hash ≡ hash)
verdict_of (Ok (result.Committed verdict)) hash is =
    (verdict, refl, some_is verdict.hash hash is)
verdict_of (Ok result.Open) hash is = absurd (let none : None ≡ Some hash = is in cc)
verdict_of (Ok result.Failed) hash is = absurd (let none : None ≡ Some hash = is in cc)
verdict_of (Ok result.Canceled) hash is = absurd (let none : None ≡ Some hash = is in cc)
verdict_of (Ok result.Stopped) hash is = absurd (let none : None ≡ Some hash = is in cc)
verdict_of (Err why) hash is = absurd (let none : None ≡ Some hash = is in cc)

module _ (old : Cluster) (move : Move) (repo storage lease : ℕ) (hash : Hash) (form : HasForm old)
    (is : IsCollect old move repo storage lease hash) where
  abbrev pub push : OpenPush
  push = is.told.push

  abbrev pub vote : Voting
  vote = is.told.vote

  -- the push has a turn, with a vote of its members
  turn : IsTurn old.core.storages old.core.transactions old.core.last_tx push
      × ((push.tx.0 == is.tx.0) ≡ true)
  turn = all_find (IsTurn old.core.storages old.core.transactions old.core.last_tx)
      (λ (p : OpenPush). p.tx.0 == is.tx.0) old.core.pushes push form.core.turns.each is.told.turn

  -- it is the one that was asked
  same_vote : turn.0.vote ≡ vote
  same_vote = some_is turn.0.vote vote (sym turn.0.registered
      ∙ ap (λ n. transaction_at old.core.transactions (let tx : TxId = record { 0 = n } in tx))
      (same_number push.tx.0 is.tx.0 turn.1) ∙ is.told.there)

  -- so that is a vote of the members
  pub vote_of_members : IsVoteOf old.core.storages push.members vote
  vote_of_members = subst (IsVoteOf old.core.storages push.members) same_vote turn.0.sound

  -- of whom there are some
  pub some_members : IsTurn old.core.storages old.core.transactions old.core.last_tx push
  some_members = turn.0

  -- the verdict that was answered
  pub verdict : (verdict : Standing)
      × (collect_answer is.voter is.sub vote ≡ Ok (result.Committed verdict))
      × (verdict.hash ≡ hash)
  verdict = verdict_of (collect_answer is.voter is.sub vote) hash is.told.told

  -- .. and the reply
  pub reply_is : op_reply old (op.Collect is.tx is.voter is.sub)
      ≡ reply.Counted is.sub (result.Committed verdict.0)
  reply_is = ap (λ r. told r (answer_of old.core (op.Collect is.tx is.voter is.sub))) is.none
      ∙ ap (λ v. collected is.sub (answer_at v is.tx (collect_answer is.voter is.sub)))
      is.told.there
      ∙ ap (collected is.sub) verdict.1

  -- who was asked for has the name of the member
  pub named : IsNamed old.core push.members is.voter storage
  named = member_has_name old.core push.members is.voter storage
      (position (same_name is.voter) (panel_for old.core.storages push.members).voters) same_panel
      (ap (λ voters. member_at push.members (position (same_name is.voter) voters))
      (sym vote_of_members.voters) ∙ is.told.named)
    where
      -- a panel is by the storages alone
      same_voters : (ms : List ℕ)
          → (panel_of old.core ms).voters ≡ (panel_for old.core.storages ms).voters
      same_voters [] = refl
      same_voters (m ∷ ms) = refl

      same_panel : position (same_name is.voter) (panel_of old.core push.members).voters
          ≡ position (same_name is.voter) (panel_for old.core.storages push.members).voters
      same_panel = ap (position (same_name is.voter)) (same_voters push.members)

  -- so the commit was issued by that collect
  unfoldable pub issued_by : IsIssuedBy old move repo storage lease hash
  issued_by = record {
    tx = is.tx;
    voter = is.voter;
    verdict = verdict.0;
    asked = is.is ∙ ap (λ r. Happens (event.Asks (op.Collect is.tx is.voter is.sub)) (Replied r))
        reply_is
        ∙ ap (λ n. Happens (event.Asks (op.Collect is.tx is.voter n))
        (Replied (reply.Counted n (result.Committed verdict.0)))) is.told.first;
    names = verdict.2;
    push = push;
    turn = is.told.turn;
    of_repo = is.told.of_repo;
    of_lease = is.told.of_lease;
    member = named.member;
    called = named.called;
  }

-- each commit of each run was
pub commits_are_issued_by_collects : CommitsAreIssuedByCollects
commits_are_issued_by_collects node moves old new move repo storage lease hash first is out before =
    elim (commit_issued old move new is repo storage lease hash out) [
      | inl earlier ↦ absurd (before earlier)
      | inr collect ↦ issued_by old move repo storage lease hash (form_always node moves old first)
          collect
    ]
