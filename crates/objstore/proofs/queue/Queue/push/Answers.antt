-- An id that stood there leaves the queue as it is; another one comes to its end.
use Rattle.std.proofs.Common.{◌≡◌, ◌++◌, [], ◌∷◌, true, false, cond, List, length, sym, ap, ◌∙◌, arith}
use Rattle.std.proofs.lemmas.Bool.{not-true, not-false}
use Rattle.std.proofs.lemmas.List.{length-append}
use Rattle.px_base.specs.declared.hash.Hash.{Hash}
use Rattle.objstore.specs.Entries.{is_id, is_among}
use Rattle.objstore.specs.Walk.{Walk, queued}
use Rattle.objstore.proofs.QueueLemmas.{part_taken, queued-again, queued-first, is_among-more}
use Rattle.objstore.proofs.queue.Queue.push.Goals as goal

pub returns-then-not-branch : goal.returns-then-not-branch
returns-then-not-branch c =
    let ids = c.self.inside.ids.items in
    let stood : is_among c.args.id ids ≡ true =
    sym (c.self.invariant.seen c.args.id)
    ∙ not-false _ (sym c.in_ok-insert.ensures.added ∙ c.if-not-branch.true) in
    ap (part_taken c.self.inside.taken) c.reserve.ensures.items
    ∙ queued-again c.self.inside.taken ids c.args.id stood
    ∙ ap (λ (walk : Walk). queued walk c.args.id) c.self.view_is

-- what the list of ids is then
longer : (c : goal.After-push_reserved)
    → c.push_reserved.new.self.items ≡ c.self.inside.ids.items ++ c.args.id ∷ []
longer c =
    c.push_reserved.ensures.items
    ∙ ap (λ (ids : List Hash). ids ++ c.args.id ∷ []) c.reserve.ensures.items

pub invariant_of-self-2 : goal.invariant_of-self-2
invariant_of-self-2 c = record {
  within = omega (
    arith,
    c.self.invariant.within,
    ap length (longer c),
    length-append c.self.inside.ids.items (c.args.id ∷ []),
  );
  seen = λ q. c.in_ok-insert.ensures.updates.0 q
      ∙ ap (cond (is_id c.args.id q) true) (c.self.invariant.seen q)
      ∙ is_among-more q c.args.id c.self.inside.ids.items
      ∙ ap (is_among q) (sym (longer c));
}

pub returns : goal.returns
returns c =
    let ids = c.self.inside.ids.items in
    let missing : is_among c.args.id ids ≡ false =
    sym (c.self.invariant.seen c.args.id)
    ∙ not-true _ (sym c.in_ok-insert.ensures.added ∙ c.if-not-branch.false) in
    ap (part_taken c.self.inside.taken) (longer c)
    ∙ queued-first c.self.inside.taken ids c.args.id c.self.invariant.within missing
    ∙ ap (λ (walk : Walk). queued walk c.args.id) c.self.view_is
