-- The walk goes on; its end, and its first id without an object.
use Rattle.std.proofs.Common.{◌≡◌, ◌+◌, ◌≤◌, [], ◌∷◌, ◌++◌, length, sym, ap, ◌∙◌, subst, arith}
use Rattle.std.proofs.lemmas.List.{length-append}
use Rattle.objstore.specs.Entries.{object_in}
use Rattle.objstore.specs.Missing.{IsMissed}
use Rattle.objstore.specs.Reach.{Objects, links_in}
use Rattle.objstore.specs.Walk.{Walk, empty, all_queued, IsWalk, AllFound}
use Rattle.objstore.proofs.WalkLemmas.{IsWalk-begins, IsWalk-next, AllFound-begins, AllFound-next, told_as, told_missed, closed_at_end}
use Rattle.objstore.proofs.QueuedLemmas.{taken-all_queued}
use Rattle.objstore.proofs.BoundLemmas.{taken_few}
use Rattle.objstore.proofs.store.Store.closed.Goals as goal

pub loop-id-init : goal.loop-id-init
loop-id-init c =
    let objects = object_in c.args.self.now c.args.extra.now in
    let tips = c.args.tips.now in
    let begins : c.push_all.new.self ≡ all_queued empty tips =
    c.in_ok-push_all.ensures ∙ ap (λ (w : Walk). all_queued w tips) c.new-queue.ensures in
    record {
      walk = subst (IsWalk objects tips) (sym begins) (IsWalk-begins objects tips);
      found = subst (λ (w : Walk). AllFound objects w.taken) (sym begins)
          (AllFound-begins objects tips);
    }

pub returns-in_err-follow_in-clause-missing : goal.returns-in_err-follow_in-clause-missing
returns-in_err-follow_in-clause-missing c =
    let objects = object_in c.args.self.now c.args.extra.now in
    told_as (IsMissed objects c.args.tips.now) c.from_residual-in_err-follow_in.result _
    c.from_residual-in_err-follow_in.ensures.1
    (told_missed objects c.args.tips.now c.loop-id.queue c.in-Some.id c.take.new.self.waiting _
    c.loop-id.invariant.walk c.in-Some.ensures.0 c.loop-id.invariant.found
    c.in_err-follow_in.ensures.missing)

module _ (c : goal.In_ok-follow_in) where
  -- the objects of both stores
  abbrev objects : Objects
  objects = object_in c.args.self.now c.args.extra.now

  -- the queue is that of the walk
  walks : IsWalk objects c.args.tips.now c.follow_in.new.queue
  walks =
      subst (IsWalk objects c.args.tips.now) (sym c.in_ok-follow_in.ensures.queue)
      (IsWalk-next objects c.args.tips.now c.loop-id.queue c.take.new.self c.in-Some.id
      c.loop-id.invariant.walk c.in-Some.ensures.0 c.in-Some.ensures.1)

  -- one id more was taken
  longer : c.follow_in.new.queue.taken ≡ c.loop-id.queue.taken ++ c.in-Some.id ∷ []
  longer = ap (λ (w : Walk). w.taken) c.in_ok-follow_in.ensures.queue
      ∙ taken-all_queued c.take.new.self (links_in (objects c.in-Some.id))
      ∙ c.in-Some.ensures.1

  -- and each that was taken has an object
  finds : AllFound objects c.follow_in.new.queue.taken
  finds =
      AllFound-next objects c.args.tips.now c.loop-id.queue.taken c.follow_in.new.queue.taken
      c.in-Some.id c.loop-id.invariant.found c.in_ok-follow_in.ensures.found longer

  -- so there were no more than there are objects
  few : length c.follow_in.new.queue.taken ≤ length c.args.self.now + length c.args.extra.now
  few = taken_few c.args.self.now c.args.extra.now c.args.tips.now c.follow_in.new.queue walks finds

pub loop-id-preserved : goal.loop-id-preserved
loop-id-preserved c = record { walk = walks c; found = finds c }

pub loop-id-smaller : goal.loop-id-smaller
loop-id-smaller c =
    omega (
      arith,
      few c,
      ap length (longer c),
      length-append c.loop-id.queue.taken (c.in-Some.id ∷ []),
    )

pub returns-clause-ok : goal.returns-clause-ok
returns-clause-ok c =
    closed_at_end (object_in c.args.self.now c.args.extra.now) c.args.tips.now c.loop-id.queue
    c.loop-id.invariant.walk c.in_default.ensures.0 c.loop-id.invariant.found
