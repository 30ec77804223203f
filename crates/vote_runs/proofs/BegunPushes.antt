-- A push that begins has its turn, and a transaction that nothing was done on yet.
use Rattle.std.proofs.Common.{◌≡◌, ◌<◌, ◌==◌, ℕ, List, [], ◌∷◌, ◌++◌, Option, None, Some, refl, sym, ◌∙◌, ap, subst, inl, inr, find, arith}
use Rattle.std.specs.List.{AllByRecursion}
use Rattle.px_ops.specs.declared.op.Op.TheVariants as op
use Rattle.px_ops.specs.declared.push.Begun.{Begun}
use Rattle.px_ops.specs.declared.refusal.Refusal.{Refusal}
use Rattle.px_ops.specs.declared.reply.Reply.{Reply}
use Rattle.px_ops.specs.declared.reply.Reply.TheVariants as reply
use Rattle.txmanager.specs.Voting.{voting_on}
use Rattle.px_cluster.specs.Acknowledged.{done_in, event_refusal}
use Rattle.px_cluster.specs.Book.{Repository}
use Rattle.px_cluster.specs.Cluster.{Cluster}
use Rattle.px_cluster.specs.Core.{Core, OpenPush, repository}
use Rattle.px_cluster.specs.Events.{Replied}
use Rattle.px_cluster.specs.Ops.{about, answer_of, told, unless_refused}
use Rattle.px_cluster.specs.Pushes.{beginning, begun_at, begun_reply}
use Rattle.cluster_form.proofs.FormKept.{form_always}
use Rattle.cluster_form.proofs.Lists.{bool, same_number, same_self}
use Rattle.cluster_form.proofs.Registries.{found_registered}
use Rattle.cluster_form.specs.Turns.{AreTurns, IsTurn, panel_for}
use Rattle.vote_runs.specs.Complete.{HasBegun, PushesBeginUntouched}

-- a push whose number was not given before is found behind the others
found_behind : (core : Core) (pushes : List OpenPush) (push : OpenPush)
    → core.last_tx < push.tx.0
    → AllByRecursion (IsTurn core.storages core.transactions core.last_tx) pushes
    → find (λ (p : OpenPush). p.tx.0 == push.tx.0) (pushes ++ push ∷ []) ≡ Some push
found_behind core [] push later turns = rw (same_self push.tx.0) refl
found_behind core (first ∷ pushes) push later turns = elim (bool (first.tx.0 == push.tx.0)) [
  | inl holds ↦ absurd (let same = same_number first.tx.0 push.tx.0 holds in
      let given = turns.0.given in omega (arith, same, given, later))
  | inr fails ↦ (rw fails (found_behind core pushes push later turns.1))
]

-- what begins is as it should be
begun_so : (core : Core) (repo : ℕ) (there : Option Repository) (begun : Begun) → AreTurns core
    → about there (λ book. begun_reply core (beginning core repo book) book) ≡ reply.Begun begun
    → HasBegun (begun_at repo there core) begun
begun_so core repo None begun turns is = absurd (cc)
begun_so core repo (Some book) begun turns is =
    let push = beginning core repo book in
    record {
      push = push;
      tx = cc;
      untouched = record {
        turn = found_behind core core.pushes push (omega arith) turns.each;
        vote = voting_on (panel_for core.storages push.members) 1;
        there = found_registered core.last_tx core.transactions turns.numbers push.tx refl
            (voting_on (panel_for core.storages push.members) 1);
        subs = refl;
      };
    }

-- a push that is told is no refusal
not_refused : (why : Option Refusal) (answer : Reply) (begun : Begun)
    → Replied (reply.Begun begun) ≡ Replied (told why answer)
    → (why ≡ None) × (answer ≡ reply.Begun begun)
not_refused None answer begun is = (refl, cc)
not_refused (Some why) answer begun is = absurd (cc)

-- in every run
pub pushes_begin_untouched : PushesBeginUntouched
pushes_begin_untouched node moves old new repo begun before is =
    let asked = op.Begin repo in
    let parts = not_refused (event_refusal old asked) (answer_of old.core asked) begun is.replied in
    subst (λ (c : Cluster). HasBegun c.core begun)
    (sym (is.leads ∙ ap (λ why. unless_refused why old (done_in old asked)) parts.0))
    (begun_so old.core repo.0 (repository old.core repo.0) begun
    (form_always node moves old before).core.turns parts.1)
