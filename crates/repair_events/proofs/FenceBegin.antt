-- A lease is drawn for fencing.
use Rattle.std.proofs.Common.{◌≡◌, ℕ, ◌+◌, ◌≤◌, Option, Some, None, false, inl, inr, refl, sym, ◌∙◌, ap, arith}
use Rattle.replica_invariant.specs.Invariant.{Invariant, SourceClause}
use Rattle.replica_invariant.specs.Jobs.{draw_at, with_job}
use Rattle.replica_invariant.specs.Purposes.{Fencing, Purpose, Pushing, Updating}
use Rattle.replica_invariant.specs.Repairs.{CanFence, fence_drawn, FenceBeginKeeps}
use Rattle.replica_invariant.specs.ReplicaClauses.{FitsEffect, JobClause, ReplicaClauses}
use Rattle.replica_invariant.specs.State.{Job, Replica, Shared, State, with_value}
use Rattle.job_events.proofs.Jobs.{with_job_ok}
use Rattle.job_events.proofs.Take.{draw_event}
use Rattle.push_events.proofs.Draw.{drawn_ok}
use Rattle.push_events.proofs.Later.{replica_later}
use Rattle.push_events.proofs.Purposes.{push_over, IsUpdate}
use Rattle.push_events.proofs.Values.{none_some, value_case, value_here}
use Rattle.replica_invariant.specs.Creations.{drawn}

module _ (st : State) (t : ℕ) (o : Option Job) (i : Invariant st) (c : CanFence st t o) where
  abbrev r : Replica
  r = st.replica t

  abbrev l : ℕ
  l = st.shared.last + 1

  abbrev purpose : Purpose
  purpose = Fencing None

  abbrev sh : Shared
  sh = record st.shared { last = l }

  h : ReplicaClauses sh (with_job r None)
  h = with_job_ok sh r None
      (replica_later st.shared sh r
      (record {
        newest = omega arith;
        last = omega arith;
        creation = refl;
        lease = λ d b. refl;
        hash = λ d b. refl;
        content = λ d x b e. e;
        text = λ a b. refl;
      }) (i.replicas t))
      (λ k e. none_some (JobClause st.shared.newest r.kept r.purpose r.booking r.floor k) e)

  drawn_replica : ReplicaClauses sh (drawn (with_job r None) l purpose)
  drawn_replica =
      drawn_ok sh (with_job r None) l purpose h refl (omega (arith, (i.replicas t).lease.kept))
      (omega (arith, i.log.creation)) refl refl
      (λ m x a q. absurd (let z : Fencing None ≡ Pushing m x a = q in cc))
      (λ g q. none_some (g ≤ sh.newest) q)
      (λ e q. none_some (FitsEffect (with_job r None) l e) q) (λ m x q. none_some ⊥ q)
      (λ j k a b. none_some ⊥ a)
      (λ a g x b q. absurd (let z : Fencing None ≡ Updating a g x b = q in cc))
      (λ x q. let z : Fencing None ≡ Fencing (Some x) = q in let w : None ≡ Some x = cc in
      none_some ⊥ w)

  jobs : (j : Job) → o ≡ Some j
      → JobClause sh.newest l (with_value r.purpose l purpose) r.booking r.floor j
  jobs j e = elim c.job [
    | inl n ↦
        none_some (JobClause sh.newest l (with_value r.purpose l purpose) r.booking r.floor j)
        (sym n ∙ e)
    | inr w ↦ let q : r.job ≡ Some j = sym w.0 ∙ e in let v = (i.replicas t).job j q in
        record {
          generation = v.generation;
          deleting = v.deleting;
          running = λ k s. absurd (w.1 j k q s);
        }
  ]

  keeps : Invariant (draw_at st t (fence_drawn r l o))
  keeps = draw_event st t (fence_drawn r l o) i
      (with_job_ok sh (drawn (with_job r None) l purpose) o drawn_replica jobs) c.known
      (λ p e. none_some (p.members t ≡ false) (sym c.turn ∙ e)) refl
      (λ a. c.booking
      (sym (ap (λ v. v.booking) (value_here st.replica t (fence_drawn r l o))) ∙ a t))
      (λ k a g. value_case
      (λ v d. IsUpdate d a g → SourceClause st.replica t a g) r.purpose l purpose k
      (λ q. absurd (let w : Fencing None ≡ Updating a g (q.0) (q.1) = q.2 in cc))
      (λ z q. i.source t k a g (q.0) (q.1) (q.2)))
      (push_over r.purpose l purpose
      (λ w q. absurd (let z : Fencing None ≡ Pushing w (q.0) (q.1) = q.2 in cc)))

pub fence_begin_keeps : FenceBeginKeeps
fence_begin_keeps st t o i c = keeps st t o i c
