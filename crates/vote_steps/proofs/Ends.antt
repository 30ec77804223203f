-- Withdrawals, cancels and stops: nothing is seen of them.
use Rattle.std.proofs.Common.{◌≡◌, ◌==◌, ℕ, List, [], ◌∷◌, true, false, Option, None, Some, refl, sym, ◌∙◌, ap, subst, find, length, map}
use Rattle.std.specs.Option.{option_map}
use Rattle.px_base.specs.declared.ids.TxId.{TxId}
use Rattle.px_base.specs.declared.voter.Voter.{Voter}
use Rattle.txmanager.specs.Chain.{IsChain}
use Rattle.txmanager.specs.Registry.{with_changed, with_transaction}
use Rattle.txmanager.specs.Rounds.{TxAct, Cancel, CancelVoter, Stop, after_act}
use Rattle.txmanager.specs.VoterCalls.{after_cancel_voter, cancel_answer_by, cancel_voter_answer}
use Rattle.txmanager.specs.Voting.{Voting, after_cancel, after_stop, done, number_of, stop_answer, unless_err, with_act, with_act_by}
use Rattle.txmanager.specs.declared.refusal.TxRefusal.TheVariants.{NotAVoter}
use Rattle.voters.specs.Results.{voted_in}
use Rattle.voters.specs.Votes.{Votes}
use Rattle.px_cluster.specs.Casts.{is_committed_in}
use Rattle.px_cluster.specs.Core.{Core, OpenPush, push_of, turn_of, voting, with_push_changed}
use Rattle.px_cluster.specs.Numbers.{place_in}
use Rattle.px_cluster.specs.Ops.{with_voting}
use Rattle.px_cluster.specs.Refusals.{refusal_in}
use Rattle.cluster_form.specs.Form.{HasForm}
use Rattle.cluster_form.specs.Turns.{IsVoteOf}
use Rattle.cluster_form.proofs.Induction.{first_none}
use Rattle.cluster_form.proofs.Lists.{some_is}
use Rattle.cluster_history.specs.Goes.{GoesOn}
use Rattle.cluster_history.specs.History.{Whole}
use Rattle.cluster_history.specs.Seen.{has_voted_in, seen_push}
use Rattle.cluster_history.proofs.Frame.{same_functions, same_push}
use Rattle.vote_steps.specs.Steps.{CancelGoesOn, StopGoesOn, WithdrawalGoesOn}
use Rattle.vote_steps.proofs.Accepted.{asked_at, led_on, never_refused, two_of}
use Rattle.vote_steps.proofs.OtherActs.{SameTold, casts, other_act}
use Rattle.vote_steps.proofs.SameVotes.{KeepsSeen, found_marked, found_unmarked, keeps_at, marked_at, unseen_goes}
use Rattle.vote_steps.proofs.Turns.{push_is}

-- ---- what is seen of a push after an act that is no cast

-- a storage is told as it was
told_so : (place : Option ℕ) (old new : Votes) → SameTold old new
    → is_committed_in place (Some new) ≡ is_committed_in place (Some old)
told_so None old new same = refl
told_so (Some voter) old new same = same.told voter

-- and has voted as it had
voted_so : (place : Option ℕ) (old new : Votes)
    → ((voter : ℕ) → voted_in voter new ≡ voted_in voter old)
    → has_voted_in place (Some new) ≡ has_voted_in place (Some old)
voted_so None old new same = refl
voted_so (Some voter) old new same = same voter

module _ (push : OpenPush) (voters : List Voter) (act : TxAct) (plain : casts act ≡ false) where
  abbrev by : List Votes → Voting
  by subs = record { voters = voters; subs = subs }

  -- of two subtransactions
  seen_of_two : (first second : Votes) → IsChain (first ∷ second ∷ [])
      → seen_push push (by (after_act (first ∷ second ∷ []) act))
      ≡ seen_push push (by (first ∷ second ∷ []))
  seen_of_two first second chain =
      let acted = other_act first second chain act plain in
      ap (λ subs. seen_push push (by subs)) acted.is
      ∙ same_push (seen_push push (by (acted.first ∷ acted.second ∷ [])))
      (seen_push push (by (first ∷ second ∷ []))) refl refl refl acted.same.hash
      (same_functions _ _ (λ storage.
      told_so (place_in push.members storage) first acted.first acted.same))
      (same_functions _ _ (λ storage.
      voted_so (place_in push.members storage) second acted.second acted.voted))

  -- .. which a push has
  seen_same : (subs : List Votes) → IsChain subs → length subs ≡ 2
      → seen_push push (by (after_act subs act)) ≡ seen_push push (by subs)
  seen_same subs chain two =
      let parts = two_of subs two in
      subst (λ xs. IsChain xs → seen_push push (by (after_act xs act)) ≡ seen_push push (by xs))
      (sym parts.2) (seen_of_two parts.0 parts.1) chain

-- ---- a transaction after such an act

module _ (old : Whole) (form : HasForm old.cluster) (tx : TxId) (vote : Voting) (act : TxAct)
    (plain : casts act ≡ false) (there : voting old.cluster.core tx ≡ Some vote) where
  abbrev core : Core
  core = old.cluster.core

  -- its push is seen as it was
  looks_same : (push : OpenPush) → push_of core tx ≡ Some push
      → seen_push push (with_act vote act) ≡ seen_push push vote
  looks_same push named =
      let found = push_is core form.core tx push named in
      let same : found.1.vote ≡ vote = some_is found.1.vote vote
      (sym found.1.registered ∙ ap (voting core) found.0 ∙ there) in
      let is = subst (IsVoteOf core.storages push.members) same found.1.sound in
      seen_same push vote.voters act plain vote.subs is.chain is.phases

  -- the transaction is another, and so may be the marks of its push
  acted_goes : (mark : OpenPush → OpenPush) → KeepsSeen mark → (pushes : List OpenPush)
      → ((repo : ℕ) → find (λ (p : OpenPush). p.repo == repo) pushes
      ≡ option_map mark (turn_of core repo))
      → (becomes : Voting → Voting) → becomes vote ≡ with_act vote act
      → GoesOn old (record old {
        cluster = record old.cluster {
          core = record core {
            transactions = with_changed core.transactions tx becomes;
            pushes = pushes;
          };
        };
      })
  acted_goes mark keeps pushes marked becomes is = subst (λ (now : Option Voting).
      GoesOn old (record old {
        cluster = record old.cluster {
          core = record core {
            transactions = with_transaction core.transactions tx now;
            pushes = pushes;
          };
        };
      })) (sym (ap (option_map becomes) there ∙ ap (λ v. let o : Option Voting = Some v in o) is))
      (unseen_goes old form tx vote (with_act vote act) there looks_same mark keeps pushes marked)

-- ---- the three operations

-- a withdrawal that is not refused is of a voter
withdrawn : (name : List ℕ) (vote : Voting) (voter : Option ℕ) → number_of name vote ≡ voter
    → refusal_in (cancel_answer_by name vote.subs voter) ≡ None
    → (number : ℕ) × (after_cancel_voter name vote ≡ with_act vote (CancelVoter number))
withdrawn name vote None is accepted = never_refused (NotAVoter name) accepted
withdrawn name vote (Some number) is accepted = (
  number,
  ap (λ o. unless_err (cancel_answer_by name vote.subs o) vote (with_act_by vote o CancelVoter)) is
      ∙ led_on (cancel_answer_by name vote.subs (Some number)) vote
      (with_act vote (CancelVoter number)) accepted,
)

-- any withdrawal
pub a_withdrawal_goes_on : WithdrawalGoesOn
a_withdrawal_goes_on tx name old sound none =
    let asked = asked_at old.cluster.core tx (cancel_voter_answer name) (first_none _ _ none) in
    let done_ = withdrawn name asked.vote (number_of name asked.vote) refl asked.accepted in
    acted_goes old sound.form tx asked.vote (CancelVoter done_.0) refl asked.there (λ push. push)
    (record { tx = λ push. refl; repo = λ push. refl; seen = λ push vote. refl })
    old.cluster.core.pushes (λ repo. found_unmarked (turn_of old.cluster.core repo))
    (after_cancel_voter name) done_.1

module _ (mark : OpenPush → OpenPush) (keeps : KeepsSeen mark) (tx : TxId) (old : Whole)
    (form : HasForm old.cluster) (vote : Voting) (act : TxAct) (plain : casts act ≡ false)
    (there : voting old.cluster.core tx ≡ Some vote) where
  -- an act on the whole transaction marks its push
  marked_goes : (becomes : Voting → Voting) → becomes vote ≡ with_act vote act
      → GoesOn old (record old {
        cluster = record old.cluster {
          core = with_push_changed tx mark (with_voting tx becomes old.cluster.core);
        };
      })
  marked_goes becomes is = acted_goes old form tx vote act plain there (marked_at tx mark)
      (keeps_at tx mark keeps) (map (marked_at tx mark) old.cluster.core.pushes)
      (λ repo. found_marked (marked_at tx mark) (keeps_at tx mark keeps) repo
      old.cluster.core.pushes) becomes is

-- any cancel
pub a_cancel_goes_on : CancelGoesOn
a_cancel_goes_on tx old sound none =
    let asked = asked_at old.cluster.core tx done (first_none _ _ none) in
    marked_goes (λ push. record push { canceled = true })
    (record { tx = λ push. refl; repo = λ push. refl; seen = λ push vote. refl }) tx old sound.form
    asked.vote Cancel refl asked.there after_cancel refl

-- any stop
pub a_stop_goes_on : StopGoesOn
a_stop_goes_on tx old sound none =
    let asked = asked_at old.cluster.core tx stop_answer (first_none _ _ none) in
    marked_goes (λ push. record push { stopped = true })
    (record { tx = λ push. refl; repo = λ push. refl; seen = λ push vote. refl }) tx old sound.form
    asked.vote Stop refl asked.there after_stop
    (led_on (stop_answer asked.vote) asked.vote (with_act asked.vote Stop) asked.accepted)
