use Rattle.std.proofs.Common.{◌≡◌, ◌≤◌, ◌<◌, List, ℕ, length, rules, ap, sym, subst, ◌∙◌}
use Rattle.std.proofs.lemmas.List.{length-set}
use Rattle.std.specs.Prelude.{vec_capacity}
use Rattle.px_cluster.specs.Book.{Repository}
use Rattle.genbook.specs.Books.{Books, core_of}
use Rattle.genbook.specs.Index.{AreFound}
use Rattle.genbook.proofs.Creations.{becomes, longer_few, with_created-is}
use Rattle.genbook.proofs.book.Book.create.Goals as goal

pub invariant_of-self : goal.invariant_of-self
invariant_of-self c =
    let made = becomes c.self.inside.paths.entries c.args.self.now (vec_capacity c.self.inside.repositories) c.args.creation
    c.self.inside.repositories.items c.self.inside.ready c.self.invariant.1 c.self.invariant.2
    (ap (λ (b : Books). b.repositories) c.self.view_is) (ap (λ (b : Books). b.ready) c.self.view_is) c.requires in
    let len : c.len.result ≡ length c.self.inside.repositories.items = search rules in
    let within = subst (λ (n : ℕ). c.args.creation.repo.0 < n) len c.if-number-len.true in
    let few = subst (λ (n : ℕ). n ≤ 100000)
    (sym (length-set c.self.inside.repositories.items c.args.creation.repo.0 c.args.creation.entry)) c.self.invariant.5 in
    (c.self.invariant.0, made.stands_found within, tt, c.self.invariant.3, tt, few)

pub push_reserved-requires : goal.push_reserved-requires
push_reserved-requires c =
    let made = becomes c.self.inside.paths.entries c.args.self.now (vec_capacity c.self.inside.repositories) c.args.creation
    c.self.inside.repositories.items c.self.inside.ready c.self.invariant.1 c.self.invariant.2
    (ap (λ (b : Books). b.repositories) c.self.view_is) (ap (λ (b : Books). b.ready) c.self.view_is) c.requires in
    let len : c.len.result ≡ length c.self.inside.repositories.items = search rules in
    let past = subst (λ (n : ℕ). n ≤ c.args.creation.repo.0) len c.if-number-len.false in
    subst (λ (n : ℕ). n < vec_capacity c.self.inside.repositories) (sym len ∙ c.len.ensures) (made.comes_fits past)

pub invariant_of-self-else-number-len : goal.invariant_of-self-else-number-len
invariant_of-self-else-number-len c =
    let made = becomes c.self.inside.paths.entries c.args.self.now (vec_capacity c.self.inside.repositories) c.args.creation
    c.self.inside.repositories.items c.self.inside.ready c.self.invariant.1 c.self.invariant.2
    (ap (λ (b : Books). b.repositories) c.self.view_is) (ap (λ (b : Books). b.ready) c.self.view_is) c.requires in
    let len : c.len.result ≡ length c.self.inside.repositories.items = search rules in
    let past = subst (λ (n : ℕ). n ≤ c.args.creation.repo.0) len c.if-number-len.false in
    let same = sym c.push_reserved.ensures.items in
    let few = subst (λ (rs : List Repository). length rs ≤ 100000) same
    (longer_few c.self.inside.repositories.items c.args.creation.entry (made.comes_few past)) in
    (c.self.invariant.0, subst (λ (rs : List Repository). AreFound c.self.inside.paths.entries rs) same (made.comes_found past), tt, c.self.invariant.3, tt, few)

pub returns-clause-entry : goal.returns-clause-entry
returns-clause-entry c =
    let made = becomes c.self.inside.paths.entries c.args.self.now (vec_capacity c.self.inside.repositories) c.args.creation
    c.self.inside.repositories.items c.self.inside.ready c.self.invariant.1 c.self.invariant.2
    (ap (λ (b : Books). b.repositories) c.self.view_is) (ap (λ (b : Books). b.ready) c.self.view_is) c.requires in
    let len : c.len.result ≡ length c.self.inside.repositories.items = search rules in
    let past = subst (λ (n : ℕ). n ≤ c.args.creation.repo.0) len c.if-number-len.false in
    c.push_reserved.ensures.items ∙ made.comes_is past

pub returns-clause-ok : goal.returns-clause-ok
returns-clause-ok c virt path factor is =
    returns-clause-entry c ∙ with_created-is (core_of c.args.self.now) virt path factor c.args.creation is
