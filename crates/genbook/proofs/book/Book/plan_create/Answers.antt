use Rattle.std.proofs.Common.{◌≡◌, ◌+◌, List, ℕ, Option, length, unwrap_or, ap, ap₂, subst, ◌∙◌}
use Rattle.px_cluster.specs.Book.{Repository, Storage, storages_of}
use Rattle.px_cluster.specs.Core.{repository}
use Rattle.px_cluster.specs.Creating.{assigned_for, before_create, created_on, found, is_at_path, number_for, unmade}
use Rattle.px_cluster.specs.Numbers.{first_of, places_of}
use Rattle.genbook.specs.Books.{Books, core_of}
use Rattle.genbook.specs.Changes.{numbers_of}
use Rattle.genbook.specs.Creations.{IsReadyFor}
use Rattle.genbook.proofs.Creations.{first_assigned, fits_made}
use Rattle.genbook.proofs.book.Book.plan_create.Goals as goal

known : (c : goal.In_ok-make_ready) → c.repository_at-known.result ≡ found (core_of c.args.self.now) c.args.virt.now c.args.path.now
known c =
    c.repository_at-known.ensures
    ∙ ap (λ (rs : List Repository). first_of (places_of (is_at_path c.args.virt.now c.args.path.now) rs)) c.deref.ensures.value
    ∙ ap (λ (b : Books). found (core_of b) c.args.virt.now c.args.path.now) c.self.view_is

number : (c : goal.In_ok-make_ready) → c.number_for-number.result ≡ number_for (core_of c.args.self.now) c.args.virt.now c.args.path.now
number c =
    c.number_for-number.ensures ∙ ap (λ (o : Option ℕ). unwrap_or o (length c.args.self.now.repositories)) (known c)

before : (c : goal.In_ok-make_ready) → c.in_ok-entry.entry ≡ before_create (core_of c.args.self.now) c.args.virt.now c.args.path.now
before c =
    let core = core_of c.args.self.now in
    c.in_ok-entry.ensures ∙ ap (λ (n : ℕ). unwrap_or (repository core n) (unmade core c.args.virt.now c.args.path.now)) (number c)

assigned : (c : goal.In_ok-make_ready) → numbers_of c.in_ok-assigned.assigned ≡ assigned_for (core_of c.args.self.now) c.args.virt.now c.args.factor
assigned c =
    let found_now = c.in_ok-storages.ensures.found ∙ ap (λ (ss : List Storage). storages_of ss c.args.virt.now) c.deref-2.ensures.value
    ∙ ap (λ (b : Books). storages_of b.storages c.args.virt.now) c.self.view_is in
    ap numbers_of c.in_ok-assigned.ensures
    ∙ first_assigned c.args.self.now c.args.virt.now c.args.factor c.in_ok-storages.storages found_now

pub returns-clause-ok : goal.returns-clause-ok
returns-clause-ok c = record {
  number = number c;
  lease = c.in_ok-lease.ensures.value ∙ ap (λ (r : Repository). r.last + 1) (before c);
  assigned = assigned c;
  entry = c.in_ok-lease.ensures.ok ∙ ap₂ (λ (ns : List ℕ) (r : Repository). created_on ns r) (ap numbers_of c.as_slice-2.ensures ∙ assigned c) (before c);
}

pub returns-clause-fits : goal.returns-clause-fits
returns-clause-fits c =
    fits_made (core_of c.args.self.now) c.args.virt.now c.args.path.now c.args.factor _ (returns-clause-ok c) c.make_ready.new.self c.make_ready.ensures.same
    (subst (λ (o : Option ℕ). IsReadyFor o c.args.virt.now c.args.path.now c.make_ready.new.self.ready) (known c) c.in_ok-make_ready.ensures.ready)
