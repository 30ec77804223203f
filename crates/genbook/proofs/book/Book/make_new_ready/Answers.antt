use Rattle.std.proofs.Common.{◌≡◌, ◌≤◌, ◌<◌, None, Some, List, ℕ, length, rules, sym, subst}
use Rattle.std.specs.Prelude.{vec_capacity}
use Rattle.px_cluster.specs.Book.{Repository}
use Rattle.px_cluster.specs.Creating.{found}
use Rattle.genbook.specs.Books.{Books, core_of}
use Rattle.genbook.specs.Index.{PutsAt, number_at}
use Rattle.genbook.proofs.Creations.{made_ready}
use Rattle.genbook.proofs.book.Book.make_new_ready.Goals as goal

pub invariant_of-self-2 : goal.invariant_of-self-2
invariant_of-self-2 c =
    let old = c.self.inside.paths.entries in
    let new = c.put.new.paths.entries in
    let now = c.reserve.new.self.items in
    let virt = c.args.virt.now in
    let path = c.args.path.now in
    let is : c.len.result ≡ length now = search rules in
    let fits : length now < vec_capacity c.reserve.new.self = search rules in
    let few = subst (λ (rs : List Repository). length rs < 100000) (sym c.reserve.ensures.items)
    (subst (λ (b : Books). length b.repositories < 100000) (sym c.self.view_is) c.requires.left) in
    let none = subst (λ (b : Books). found (core_of b) virt path ≡ None) (sym c.self.view_is) c.requires.new in
    let puts = subst (λ (p : List ℕ). PutsAt old new virt p c.len.result) c.in_ok-key.ensures.value c.in_ok-put.ensures.ok in
    let made = made_ready old new c.self.inside.repositories.items now virt path c.len.result (vec_capacity c.reserve.new.self)
    c.self.invariant.1 c.reserve.ensures.items none puts is fits few in (
      c.self.invariant.0,
      made.0,
      (made.1.0, subst (λ (p : List ℕ). number_at new virt p ≡ Some (length now)) (sym c.in_ok-path.ensures.value) made.1.1, few),
      c.self.invariant.3,
      tt,
      subst (λ (rs : List Repository). length rs ≤ 100000) (sym c.reserve.ensures.items) c.self.invariant.5,
    )
