use Rattle.std.proofs.Common.{◌≡◌, ◌<◌, ◌≤◌, ◌++◌, ℕ, List, length, map, take, drop, rules, ap, sym, subst, ◌∙◌}
use Rattle.std.specs.Prelude.{vec_capacity}
use Rattle.std.proofs.lemmas.List.{length-map, places}
use Rattle.px_cluster.specs.Book.{Repository, Storage}
use Rattle.px_cluster.specs.Creating.{with_storage}
use Rattle.genbook.specs.Admissions.{Awaits}
use Rattle.genbook.specs.Books.{Books}
use Rattle.genbook.specs.Index.{AreFound, AreNamed}
use Rattle.genbook.specs.Longer.{longer_for}
use Rattle.genbook.proofs.Admissions.{found_lengthened, named_longer, next_is_there}
use Rattle.genbook.proofs.book.Book.admit.Goals as goal

pub invariant_of-self : goal.invariant_of-self
invariant_of-self c =
    let awaits = subst (λ (b : Books). Awaits b c.args.admission) (sym c.self.view_is) c.requires in
    let names = c.self.inside.names.entries in
    let storages = c.self.inside.storages.items in
    let repositories = c.self.inside.repositories.items in
    let next = next_is_there c.self.inside.ready names storages (vec_capacity c.self.inside.storages) c.args.admission.name
    c.self.invariant.4 awaits.next in
    let whole : take c.self.inside.repositories.len (c.lengthen.new.repositories ++ drop (length c.lengthen.new.repositories) repositories)
    ≡ c.lengthen.new.repositories = search (rules, places) in
    let virt = c.args.admission.virt in
    let fits = awaits.longer ∙ ap (map (longer_for virt (length storages))) (sym c.deref_mut.ensures.value) in
    let is = whole ∙ c.lengthen.ensures virt (length storages) fits
    ∙ ap (map (with_storage virt (length storages))) c.deref_mut.ensures.value in
    let few : length c.push_reserved.new.self.items < 4294967296 = search (rules, awaits.left) in (
      subst (λ (ss : List Storage). AreNamed names ss) (sym c.push_reserved.ensures.items)
          (named_longer names storages (record { virt = c.args.admission.virt; name = c.args.admission.name }) c.self.invariant.0 next.1),
      subst (λ (rs : List Repository). AreFound c.self.inside.paths.entries rs) (sym is)
          (found_lengthened c.self.inside.paths.entries repositories c.args.admission.virt (length storages) c.self.invariant.1),
      tt,
      few,
      tt,
      subst (λ (n : ℕ). n ≤ 100000) (sym (ap length is ∙ length-map repositories (with_storage virt (length storages)))) c.self.invariant.5,
    )
