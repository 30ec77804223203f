use Rattle.std.proofs.Common.{◌≤◌, ℕ, IfSome, slice_get, subst, sym}
use Rattle.std.proofs.lemmas.List.{length-set}
use Rattle.genbook.specs.Books.{Books, IsNamedAs}
use Rattle.px_cluster.specs.Book.{Repository}
use Rattle.genbook.proofs.Found.{found_after, ready_after}
use Rattle.genbook.proofs.book.Book.put.Goals as goal

pub invariant_of-self : goal.invariant_of-self
invariant_of-self c = (
  c.self.invariant.0,
  found_after c.self.inside.paths.entries c.self.inside.repositories.items c.args.repo.0 c.args.entry c.self.invariant.1
      (subst (λ (b : Books). IfSome (slice_get b.repositories c.args.repo.0) (λ (before : Repository). IsNamedAs before c.args.entry)) (sym c.self.view_is) c.requires.named),
  ready_after c.self.inside.ready c.self.inside.paths.entries c.self.inside.repositories.items c.args.repo.0 c.args.entry _ c.self.invariant.2,
  c.self.invariant.3,
  c.self.invariant.4,
  subst (λ (n : ℕ). n ≤ 100000) (sym (length-set c.self.inside.repositories.items c.args.repo.0 c.args.entry)) c.self.invariant.5,
)
