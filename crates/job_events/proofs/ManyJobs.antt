-- The jobs of all replicas are changed at once.
use Rattle.std.proofs.Common.{◌≡◌, ◌<◌, Option, None, Some, refl, sym, ◌∙◌, inl, inr, arith}
use Rattle.replica_invariant.specs.ManyJobs.{IdleJobsFit, JobsKeep, OldJobsFit, PlannedJobsFit}
use Rattle.replica_invariant.specs.State.{Job, Running, Waiting}
use Rattle.push_events.proofs.Values.{none_some, three}
use Rattle.job_events.proofs.Jobs.{floorless, with_job_member, with_job_ok}

no_job : (o : Option Job) → ((j : Job) → o ≡ Some j → ⊥) → o ≡ None
no_job None f = refl
no_job (Some j) f = absurd (f j refl)

pub many_jobs : JobsKeep
many_jobs st o i fits = record {
  source = λ t l a g x b e. let v = i.source t l a g x b e in
      record { other = v.other; floor = v.floor };
  shape = record {
    some = i.shape.some;
    known = i.shape.known;
    fresh = λ x b. let f = i.shape.fresh x b in record {
      kept = f.kept;
      booking = f.booking;
      floor = f.floor;
      level = f.level;
      had = f.had;
      purpose = f.purpose;
      job = no_job (o x) (λ j e. omega (arith, b, (fits x j e).known));
    };
  };
  log = i.log;
  replicas = λ x. with_job_ok st.shared (st.replica x) (o x) (i.replicas x)
      (λ j e. (fits x j e).clause);
  blank = λ a. let b = i.blank a in record {
    newest = b.newest;
    creation = b.creation;
    some = b.some;
    idle = b.idle;
    floor = b.floor;
    job = λ x. no_job (o x) (λ j e. (fits x j e).some a);
  };
  turn = λ p e. let t = i.turn p e in record {
    some = t.some;
    undecided = t.undecided;
    told = t.told;
    named = t.named;
    decided = t.decided;
    member = λ x q. with_job_member p (p.told x) (p.cast x) (st.replica x) (o x) (t.member x q);
    first = t.first;
  };
}

pub old_jobs_fit : OldJobsFit
old_jobs_fit st s j i e = record {
  clause = (i.replicas s).job j e;
  known = below;
  some = λ a. none_some ⊥ (sym ((i.blank a).job s) ∙ e);
}
  where
    below : s < st.admitted
    below = elim (three s st.admitted) [
      | inl lt ↦ lt
      | inr v ↦ elim v [
        | inl eq ↦ none_some (s < st.admitted) (sym (i.shape.fresh s (omega (arith, eq))).job ∙ e)
        | inr gt ↦ none_some (s < st.admitted) (sym (i.shape.fresh s (omega (arith, gt))).job ∙ e)
      ]
    ]

pub idle_jobs_fit : IdleJobsFit
idle_jobs_fit st s j x not f = record {
  clause = record {
    generation = f.clause.generation;
    deleting = f.clause.deleting;
    running = λ l e. absurd (not l e);
  };
  known = f.known;
  some = f.some;
}

pub planned_jobs_fit : PlannedJobsFit
planned_jobs_fit st s j i c = record {
  clause = record {
    generation = (let g = c.generation in omega (arith, g));
    running = λ l q. absurd (let z : Waiting ≡ Running l = sym c.waits ∙ q in cc);
    deleting = λ u f. c.target_ u
        (floorless st.shared (st.replica s) (i.replicas s) (st.replica s).booking refl f);
  };
  known = c.known;
  some = λ a. c.some.1 (a (c.some.0));
}
