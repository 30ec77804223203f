-- The lists of updates with a vote stay what they are, at every move.
use Rattle.std.proofs.Common.{◌≡◌, ◌==◌, ℕ, List, Bool, true, false, if◌then◌else◌, Option, None, Some, refl}
use Rattle.px_base.specs.Hash.{same_hash}
use Rattle.px_base.specs.declared.hash.Hash.{Hash}
use Rattle.px_base.specs.declared.phase.Phase.{Phase}
use Rattle.px_base.specs.declared.phase.Phase.TheVariants.{Prepared, Committed}
use Rattle.px_ops.specs.declared.booking.Booking.{Booking}
use Rattle.px_ops.specs.declared.booking.Booking.TheVariants.{Absent, At, Doubt}
use Rattle.px_ops.specs.declared.job.Job.{Job}
use Rattle.px_ops.specs.declared.job.JobKind.{JobKind}
use Rattle.px_ops.specs.declared.job.JobKind.TheVariants.{Update, Delete}
use Rattle.px_ops.specs.declared.op.Op.{Op}
use Rattle.px_ops.specs.declared.op.Op.TheVariants as op
use Rattle.px_ops.specs.declared.refusal.Refusal.{Refusal}
use Rattle.px_cluster.specs.Acknowledged.{event_refusal}
use Rattle.px_cluster.specs.Astray.{GoesAstray, Happens, IsLost, Move}
use Rattle.px_cluster.specs.Book.{Repository, booking_on, is_absent}
use Rattle.px_cluster.specs.Casts.{member_named}
use Rattle.px_cluster.specs.Cluster.{Cluster}
use Rattle.px_cluster.specs.Core.{OpenPush, job_at, push_of, repository, voting}
use Rattle.px_cluster.specs.Creating.{found}
use Rattle.px_cluster.specs.Effects.{Effect, Location, effect_of, source_of}
use Rattle.px_cluster.specs.Events.{Answer, Event}
use Rattle.px_cluster.specs.Events as event
use Rattle.px_cluster.specs.Ops.{unless_refused}
use Rattle.px_cluster.specs.Pushes.{prepared_outcome}
use Rattle.px_cluster.specs.Repairs.{settled_as}
use Rattle.px_cluster.specs.Step.{settling}
use Rattle.txmanager.specs.VoterCalls.{after_cast}
use Rattle.txmanager.specs.Voting.{Voting}
use Rattle.voters.specs.declared.outcome.Outcome.{Outcome}
use Rattle.voters.specs.declared.outcome.Outcome.TheVariants as outcome
use Rattle.cluster_form.proofs.Lists.{choose}
use Rattle.cluster_history.specs.History.{History, Whole, with_floor}
use Rattle.cluster_history.specs.Remembered.{after_asking, after_effect, by_commit_vote, by_confirmation, by_creation, by_delivery, by_doubt, by_end, by_op, by_outcomes, by_reading, by_vote, history_after, history_of_move, if_known, is_refused, with_floor_of}

-- the history has the lists that the first has
abbrev HasTextOf : History → History → Type 0
HasTextOf old new = new.text ≡ old.text

known : {A : Type 0} (old : History) (there : Option A) (then_ : A → History)
    → ((x : A) → HasTextOf old (then_ x)) → HasTextOf old (if_known old there then_)
known old None then_ keeps = refl
known old (Some x) then_ keeps = keeps x

either : (old : History) (test : Bool) (one other : History) → HasTextOf old one
    → HasTextOf old other → HasTextOf old (if test then one else other)
either old test one other first second =
    choose (HasTextOf old) test one other (λ holds. first) (λ fails. second)

-- ---- votes

outcomes : (old : History) (push : OpenPush) (newest : ℕ) (before now : Outcome)
    → HasTextOf old (by_outcomes old push newest before now)
outcomes old push newest outcome.Open (outcome.Commit hash) = refl
outcomes old push newest (outcome.Commit before) now = refl
outcomes old push newest before now = refl

doubt : (old : History) (push : OpenPush) (storage : ℕ) (booking : Booking)
    → HasTextOf old (by_doubt old push storage booking)
doubt old push storage Absent = refl
doubt old push storage (At held) = refl
doubt old push storage (Doubt lease was due) =
    either old (lease == push.lease) (with_floor old push.repo storage due.0) old refl refl

confirmation : (old : History) (push : OpenPush) (book : Repository) (storage : Option ℕ)
    → HasTextOf old (by_confirmation old push book storage)
confirmation old push book None = refl
confirmation old push book (Some storage) = doubt old push storage (booking_on book storage)

commit_vote : (old : History) (push : OpenPush) (book : Repository) (storage : Option ℕ)
    (hash : Hash) (before : Outcome)
    → HasTextOf old (by_commit_vote old push book storage hash before)
commit_vote old push book storage hash (outcome.Commit decided) =
    either old (same_hash decided hash) (by_confirmation old push book storage) old
    (confirmation old push book storage) refl
commit_vote old push book storage hash before = refl

vote : (old : History) (push : OpenPush) (book : Repository) (name : List ℕ) (phase : Phase)
    (hash : Hash) (voting_ : Voting) → HasTextOf old (by_vote old push book name phase hash voting_)
vote old push book name Prepared hash voting_ = outcomes old push book.newest
    (prepared_outcome voting_) (prepared_outcome (after_cast name Prepared hash voting_))
vote old push book name Committed hash voting_ =
    commit_vote old push book (member_named push voting_ name) hash (prepared_outcome voting_)

-- ---- operations

end : (old : History) (job : Job) (kind : JobKind) → HasTextOf old (by_end old job kind)
end old job Update = refl
end old job Delete = refl

floor_of : (old : History) (repo storage : ℕ) (booking : Booking)
    → HasTextOf old (with_floor_of old repo storage booking)
floor_of old repo storage Absent = refl
floor_of old repo storage (At held) = refl
floor_of old repo storage (Doubt lease was due) = refl

creation : (old : History) (next : ℕ) (there : Option ℕ) → HasTextOf old (by_creation old next there)
creation old next None = refl
creation old next (Some repo) = refl

by_operation : (old : History) (c : Cluster) (asked : Op) → HasTextOf old (by_op old c asked)
by_operation old c (op.Create virt path factor) = creation old _ (found c.core virt path)
by_operation old c (op.Enrol repo storage lease) = known old (repository c.core repo.0) _
    (λ book. either old (is_absent (booking_on book storage.0)) (with_floor old repo.0 storage.0 0)
    old refl refl)
by_operation old c (op.Cast tx name phase hash) = known old (push_of c.core tx) _
    (λ push. known old (voting c.core tx) _ (λ voting_. known old (repository c.core push.repo) _
    (λ book. vote old push book name phase hash voting_)))
by_operation old c (op.Ack job lease true) =
    known old (job_at c.core job.0) _ (λ queued. end old queued queued.kind)
by_operation old c (op.Ack job lease false) = refl
by_operation old c (op.Accept repo storage lease) =
    known old (repository c.core repo.0) _ (λ book. refl)
by_operation old c (op.Settle repo storage lease last) = known old (repository c.core repo.0) _
    (λ book. floor_of old repo.0 storage.0 (settled_as last (booking_on book storage.0)))
by_operation old c other = refl

asking : (whole : Whole) (asked : Op) → HasTextOf whole.history (after_asking whole asked)
asking whole asked = by (event_refusal whole.cluster asked)
  where
    by : (refusal : Option Refusal) → HasTextOf whole.history
        (unless_refused refusal whole.history (by_op whole.history whole.cluster asked))
    by None = by_operation whole.history whole.cluster asked
    by (Some why) = refl

-- ---- deliveries

reading : (old : History) (effect : Effect) (source : Option Location)
    → HasTextOf old (by_reading old effect source)
reading old effect None = refl
reading old effect (Some source) = refl

delivery : (old : History) (c : Cluster) (happened : Event) (effect : Effect)
    → HasTextOf old (by_delivery old c happened effect)
delivery old c (event.TakeSnapshot job lease) effect =
    reading old effect (source_of c job (Some effect))
delivery old c other effect = refl

done : (whole : Whole) (happened : Event) (effect : Option Effect)
    → HasTextOf whole.history (after_effect whole happened effect)
done whole happened None = refl
done whole happened (Some effect) = delivery whole.history whole.cluster happened effect

event_text : (whole : Whole) (happened : Event) (answer : Answer)
    → HasTextOf whole.history (history_after whole happened answer)
event_text whole (event.Asks asked) answer = asking whole asked
event_text whole (event.Settled repo storage lease) answer =
    asking whole (settling whole.cluster repo storage lease)
event_text whole happened answer = either whole.history (is_refused answer) whole.history
    (after_effect whole happened (effect_of whole.cluster happened)) refl
    (done whole happened (effect_of whole.cluster happened))

pub text_remains : (whole : Whole) (move : Move)
    → (history_of_move whole move).text ≡ whole.history.text
text_remains whole (Happens happened answer) = event_text whole happened answer
text_remains whole (GoesAstray happened) =
    done whole happened (effect_of whole.cluster happened)
text_remains whole (IsLost storage test) = refl
