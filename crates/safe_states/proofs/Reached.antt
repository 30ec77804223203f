-- Each event keeps the invariant, so every state that events lead to has it.
use Rattle.replica_invariant.specs.Invariant.{Invariant}
use Rattle.replica_invariant.specs.State.{State}
use Rattle.push_events.proofs.Begin.{begin_keeps}
use Rattle.push_events.proofs.Commit.{commit_keeps}
use Rattle.push_events.proofs.Confirm.{confirm_keeps}
use Rattle.push_events.proofs.Create.{create_keeps, first_create_keeps}
use Rattle.push_events.proofs.Storages.{admit_keeps, assign_keeps}
use Rattle.push_events.proofs.Decide.{decide_keeps}
use Rattle.push_events.proofs.Issue.{issue_keeps}
use Rattle.push_events.proofs.Join.{join_keeps}
use Rattle.push_events.proofs.Make.{make_keeps}
use Rattle.push_events.proofs.Untouched.{appear_keeps}
use Rattle.push_events.proofs.Votes.{votes_keep}
use Rattle.push_events.proofs.Small.{abort_keeps, enrol_keeps, finish_keeps, lose_keeps, prepare_keeps}
use Rattle.job_events.proofs.Apply.{apply_keeps}
use Rattle.job_events.proofs.Jobs.{drop_keeps, end_update_keeps, fail_keeps, plan_keeps}
use Rattle.job_events.proofs.ManyJobs.{many_jobs}
use Rattle.job_events.proofs.Remove.{remove_keeps}
use Rattle.job_events.proofs.Snapshot.{snapshot_keeps}
use Rattle.job_events.proofs.Take.{take_update_keeps}
use Rattle.job_events.proofs.TakeDelete.{take_delete_keeps}
use Rattle.repair_events.proofs.Accept.{accept_keeps}
use Rattle.repair_events.proofs.FenceAnswer.{fence_answer_keeps}
use Rattle.repair_events.proofs.FenceBegin.{fence_begin_keeps}
use Rattle.repair_events.proofs.Missed.{fence_miss_keeps}
use Rattle.repair_events.proofs.Settle.{settle_keeps}
use Rattle.safe_states.specs.Happens.{Aborts, Accepts, Admits, AnswersFence, Appears, Applies, Assigns, Begins, Commits, Confirms, Creates, Decides, DrawsFence, Drops, EndsUpdate, Enrols, EventKeeps, Fails, Finishes, Goes, Happens, IsReached, Issues, Joins, Loses, Makes, MissesFence, Plans, Prepares, Queues, ReachedKeeps, Reads, Removes, Settles, Starts, TakesDelete, TakesUpdate, Votes}

happens_keeps : (old new : State) → Happens old new → Invariant old → Invariant new
happens_keeps _ _ (Creates old chosen c) i = create_keeps old chosen i c
happens_keeps _ _ (Makes old s l b a c w) i = make_keeps old s l b a i c w
happens_keeps _ _ (Enrols old s c) i = enrol_keeps old s i c
happens_keeps _ _ (Admits old) i = admit_keeps old i
happens_keeps _ _ (Appears old s node u f) i = appear_keeps old s node i u f
happens_keeps _ _ (Assigns old chosen some known) i = assign_keeps old chosen i some known
happens_keeps _ _ (Begins old members c) i = begin_keeps old members i c
happens_keeps _ _ (Prepares old s l u c) i = prepare_keeps old s l u i c
happens_keeps _ _ (Aborts old s l c) i = abort_keeps old s l i c
happens_keeps _ _ (Loses old s) i = lose_keeps old s i
happens_keeps _ _ (Decides old p told h c) i = decide_keeps old p told h i c
happens_keeps _ _ (Joins old p v h c) i = join_keeps old p v h i c
happens_keeps _ _ (Issues old p v h x a c) i = issue_keeps old p v h x a i c
happens_keeps _ _ (Commits old s l n h b a p c w) i = commit_keeps old s l n h b a p i c w
happens_keeps _ _ (Confirms old p v h c) i = confirm_keeps old p v h i c
happens_keeps _ _ (Votes old p cast t more) i = votes_keep old p cast i t more
happens_keeps _ _ (Finishes old) i = finish_keeps old i
happens_keeps _ _ (Plans old t j c) i = plan_keeps old t j i c
happens_keeps _ _ (Drops old t) i = drop_keeps old t i
happens_keeps _ _ (Fails old t j x e n) i = fail_keeps old t j x i e n
happens_keeps _ _ (Queues old jobs fits) i = many_jobs old jobs i fits
happens_keeps _ _ (TakesUpdate old t s c) i = take_update_keeps old t s i c
happens_keeps _ _ (TakesDelete old t c) i = take_delete_keeps old t i c
happens_keeps _ _ (Reads old t l s g k x a c) i = snapshot_keeps old t l s g k x a i c
happens_keeps _ _ (Applies old t l s g k m b a c) i = apply_keeps old t l s g k m b a i c
happens_keeps _ _ (Removes old t l b a c) i = remove_keeps old t l b a i c
happens_keeps _ _ (EndsUpdate old t j l s x c) i = end_update_keeps old t j l s x i c
happens_keeps _ _ (DrawsFence old t o c) i = fence_begin_keeps old t o i c
happens_keeps _ _ (AnswersFence old t l f o c) i = fence_answer_keeps old t l f o i c
happens_keeps _ _ (MissesFence old t l f o c) i = fence_miss_keeps old t l f o i c
happens_keeps _ _ (Settles old s answer l was due g c) i = settle_keeps old s answer l was due g i c
happens_keeps _ _ (Accepts old s c) i = accept_keeps old s i c

pub each_event_keeps_the_invariant : EventKeeps
each_event_keeps_the_invariant = happens_keeps

reached : (state : State) → IsReached state → Invariant state
reached _ (Starts node text admitted chosen f c) = first_create_keeps node text admitted chosen f c
reached _ (Goes old new r e) = happens_keeps old new e (reached old r)

pub every_state_has_the_invariant : ReachedKeeps
every_state_has_the_invariant = reached
