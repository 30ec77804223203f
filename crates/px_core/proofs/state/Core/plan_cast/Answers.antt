use Rattle.std.proofs.Common.{◌≡◌, ◌∙◌, ◌<◌, ◌-◌, ◌^◌, ℕ, Some, ap, rules, subst, sym}
use Rattle.px_cluster.specs.Book.{Repository}
use Rattle.px_cluster.specs.Core.{Core, push_of, repository, voting}
use Rattle.genbook.specs.Books.{on_book}
use Rattle.px_core.specs.Parts.{core_with}
use Rattle.px_core.proofs.OpenPushes.{open_push}
use Rattle.px_core.proofs.state.Core.plan_cast.Goals as goal

pub unreachable-requires : goal.unreachable-requires
unreachable-requires c =
    let core = core_with c.self.inside.book c.self.inside.health.up c.self.inside.votes
    c.self.inside.last c.self.inside.turns c.self.inside.reads.items c.self.inside.queue in
    let push = c.args.push.now in
    let found : push_of core push.tx ≡ Some push = subst (λ (known : Core).
    push_of known push.tx ≡ Some push) (sym c.self.view_is) c.requires in
    let is = open_push core c.self.invariant push.tx push found in
    let there : on_book c.self.inside.book c.repo.result.0 ≡ Some is.book =
    ap (λ (n : ℕ). repository core n) c.repo.ensures ∙ is.there in
    search (rules, there)

pub book_cast-requires : goal.book_cast-requires
book_cast-requires c =
    let core = core_with c.self.inside.book c.self.inside.health.up c.self.inside.votes
    c.self.inside.last c.self.inside.turns c.self.inside.reads.items c.self.inside.queue in
    let push = c.args.push.now in
    let found : push_of core push.tx ≡ Some push = subst (λ (known : Core).
    push_of known push.tx ≡ Some push) (sym c.self.view_is) c.requires in
    let is = open_push core c.self.invariant push.tx push found in
    let there : repository core push.repo ≡ Some c.in-Some-repository.known.now =
    ap (λ (n : ℕ). repository core n) (sym c.repo.ensures) ∙ search rules in
    let voted : voting core push.tx ≡ Some c.in-Some.before.now = search rules in
    record {
      left = λ open_. subst (λ (e : Repository). e.newest < 2 ^ 64 - 1)
          (sym c.in_ok-entry-in-Ok.ensures)
          (is.left c.in-Some-repository.known.now c.in-Some.before.now there voted open_);
    }
