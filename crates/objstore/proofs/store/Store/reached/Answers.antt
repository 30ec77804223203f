-- The walk goes on, one id at a time.
use Rattle.std.proofs.Common.{◌≡◌, ◌+◌, ◌≤◌, [], ◌∷◌, ◌++◌, length, sym, ap, ◌∙◌, subst, arith}
use Rattle.std.specs.List.{filter_map}
use Rattle.std.proofs.lemmas.List.{length-append}
use Rattle.objstore.specs.Entries.{object_at}
use Rattle.objstore.specs.Reach.{Objects, links_in}
use Rattle.objstore.specs.Walk.{Walk, empty, all_queued, IsWalk}
use Rattle.objstore.proofs.BoundLemmas.{all_links, all_few}
use Rattle.objstore.proofs.QueuedLemmas.{taken-all_queued}
use Rattle.objstore.proofs.ReachedLemmas.{filter_map-more}
use Rattle.objstore.proofs.WalkLemmas.{IsWalk-begins, IsWalk-next}
use Rattle.objstore.proofs.store.Store.reached.Goals as goal

pub loop-id-init : goal.loop-id-init
loop-id-init c =
    let objects : Objects = object_at c.args.self.now in
    let begins : c.push_all.new.self ≡ all_queued empty c.args.tips.now =
    c.in_ok-push_all.ensures ∙ ap (λ (w : Walk). all_queued w c.args.tips.now) c.new-queue.ensures in
    let none : c.push_all.new.self.taken ≡ [] =
    ap (λ (w : Walk). w.taken) begins ∙ taken-all_queued empty c.args.tips.now in
    record {
      walk = subst (IsWalk objects c.args.tips.now) (sym begins)
          (IsWalk-begins objects c.args.tips.now);
      are = c.new-found.ensures ∙ ap (filter_map objects) (sym none);
    }

module _ (c : goal.In_ok-follow) where
  -- the queue is that of the walk
  walks : IsWalk (object_at c.args.self.now) c.args.tips.now c.follow.new.queue
  walks =
      subst (IsWalk (object_at c.args.self.now) c.args.tips.now) (sym c.in_ok-follow.ensures.queue)
      (IsWalk-next (object_at c.args.self.now) c.args.tips.now c.loop-id.queue c.take.new.self
      c.in-Some.id c.loop-id.invariant.walk c.in-Some.ensures.0 c.in-Some.ensures.1)

  -- one id more was taken
  longer : c.follow.new.queue.taken ≡ c.loop-id.queue.taken ++ c.in-Some.id ∷ []
  longer = ap (λ (w : Walk). w.taken) c.in_ok-follow.ensures.queue
      ∙ taken-all_queued c.take.new.self (links_in (object_at c.args.self.now c.in-Some.id))
      ∙ c.in-Some.ensures.1

  few : length c.follow.new.queue.taken
      ≤ length c.args.tips.now + length (all_links c.args.self.now)
  few = all_few c.args.self.now c.args.tips.now c.follow.new.queue walks

pub loop-id-smaller : goal.loop-id-smaller
loop-id-smaller c =
    omega (
      arith,
      few c,
      ap length (longer c),
      length-append c.loop-id.queue.taken (c.in-Some.id ∷ []),
    )

pub loop-id-preserved : goal.loop-id-preserved
loop-id-preserved c = record {
  walk = walks c;
  are = c.in_ok-follow.ensures.found
      ∙ filter_map-more (object_at c.args.self.now) c.loop-id.queue.taken
      c.follow.new.queue.taken c.in-Some.id c.loop-id.found c.loop-id.invariant.are (longer c);
}
