use Rattle.std.proofs.Common.{◌≡◌, ◌<◌, None, length, rules, sym, subst}
use Rattle.std.specs.Prelude.{vec_capacity}
use Rattle.px_cluster.specs.Creating.{has_name}
use Rattle.px_cluster.specs.Numbers.{first_of, places_of}
use Rattle.genbook.specs.Books.{Books}
use Rattle.genbook.proofs.Admissions.{made_next}
use Rattle.genbook.proofs.book.Book.make_storage_ready.Goals as goal

pub invariant_of-self-2 : goal.invariant_of-self-2
invariant_of-self-2 c =
    let now = c.reserve.new.self.items in
    let name = c.args.name.now in
    let is : c.len.result ≡ length now = search rules in
    let fits : length now < vec_capacity c.reserve.new.self = search rules in
    let few : length now < 4294967296 = search rules in
    let none = subst (λ (b : Books). first_of (places_of (has_name name) b.storages) ≡ None) (sym c.self.view_is) c.requires.new in
    let made = made_next c.self.inside.names.entries c.put_name.new.names.entries c.self.inside.storages.items now name c.len.result
    (vec_capacity c.reserve.new.self) c.self.invariant.0 c.reserve.ensures.items none c.in_ok-put_name.ensures.ok is fits in
    (made.0, c.self.invariant.1, tt, few, made.1, c.self.invariant.5)
