-- A read that is routed goes to a replica that is booked at newest.
use Rattle.std.proofs.Common.{◌≡◌, ◌==◌, ◌<◌, ◌%◌, ℕ, Bool, true, false, List, length, unwrap_or, Option, None, Some, refl, sym, ◌∙◌, ap, subst, arith}
use Rattle.std.specs.List.{AllByRecursion}
use Rattle.std.specs.Option.{option_or}
use Rattle.std.proofs.lemmas.Nat.{mod_below}
use Rattle.std.proofs.lemmas.Option.{slice_get-get_or}
use Rattle.px_base.specs.declared.ids.Gen.{Gen}
use Rattle.px_ops.specs.declared.booking.Booking.{Booking as BookedSo}
use Rattle.px_ops.specs.declared.booking.Booking.TheVariants as booking
use Rattle.px_ops.specs.declared.op.Op.TheVariants as op
use Rattle.px_ops.specs.declared.refusal.Refusal.{Refusal}
use Rattle.px_ops.specs.declared.refusal.Refusal.TheVariants as refusal
use Rattle.px_ops.specs.declared.reply.Reply.{Reply}
use Rattle.px_ops.specs.declared.reply.Reply.TheVariants as reply
use Rattle.px_cluster.specs.Acknowledged.{op_reply}
use Rattle.px_cluster.specs.Book.{Replica, Repository, booking_in, booking_on, is_at, is_newest}
use Rattle.px_cluster.specs.Core.{Core, is_current, is_up, name_of, repository, turn_of}
use Rattle.px_cluster.specs.Events.{Replied}
use Rattle.px_cluster.specs.Ids.{gen}
use Rattle.px_cluster.specs.Ops.{about, told}
use Rattle.px_cluster.specs.Reads.{current, no_route, read_refusal, read_reply, reads_of, routed_to}
use Rattle.px_cluster.specs.Refusals.{cause}
use Rattle.cluster_form.specs.Books.{IsDense}
use Rattle.cluster_form.proofs.FormKept.{form_always}
use Rattle.cluster_form.proofs.Lists.{all_got, both_left, both_right, other_number, same_number}
use Rattle.job_steps.proofs.Newest.{IsFound, all_filtered, each_on}
use Rattle.cluster_runs.proofs.Conditions.{gen_is}
use Rattle.cluster_runs.proofs.Quiet.{dense_is}
use Rattle.cluster_runs.specs.Later.{IsRouted, ReadsGoToCurrentReplicas}

at_newest : (newest : ℕ) (booked : BookedSo) → is_at newest booked ≡ true
    → booked ≡ booking.At (gen newest)
at_newest newest booking.Absent is = absurd (let z : false ≡ true = is in cc)
at_newest newest (booking.At held) is =
    ap booking.At (gen_is held (gen newest) (same_number held.0 newest is))
at_newest newest (booking.Doubt lease was due) is = absurd (let z : false ≡ true = is in cc)

module _ (core : Core) (book : Repository) (dense : IsDense core.storages book) where
  -- it is up, and its replica is booked at newest
  abbrev pub IsCurrentOn : ℕ → Type 0
  IsCurrentOn storage = (is_up core storage ≡ true)
      × (booking_on book storage ≡ booking.At (gen book.newest))

  each_current : AllByRecursion IsCurrentOn (current core book)
  each_current = all_filtered (IsFound book.replicas) IsCurrentOn (is_current core book)
      (λ r found passes. (
        both_left (is_up core r.storage) (is_newest book r) passes,
        ap (λ (o : Option Replica). booking_in o) found ∙ at_newest book.newest r.booking
            (both_right (is_up core r.storage) (is_newest book r) passes),
      )) book.replicas (each_on core.storages book dense)

  -- the turn of a read comes to one of them
  pub routed : (repo : ℕ) → (length (current core book) == 0) ≡ false
      → IsCurrentOn (routed_to core repo book)
  routed repo some =
      let storages = current core book in
      let turn = reads_of core repo % length storages in
      let within : turn < length storages =
      mod_below (reads_of core repo) (length storages)
      (let differs = other_number (length storages) 0 some in omega (arith, differs)) in
      let at = slice_get-get_or storages turn 0 within in
      subst (λ (o : Option ℕ). IsCurrentOn (unwrap_or o 0)) (sym at)
      (all_got IsCurrentOn storages turn _ each_current at)

-- what is answered with a route was not refused
not_refused : (refused : Bool) (why : Refusal) (answer : Reply) (name : List ℕ) (told_ : Gen)
    → told (option_or (cause refused why) None) answer ≡ reply.Route name told_
    → (refused ≡ false) × (answer ≡ reply.Route name told_)
not_refused true why answer name told_ is =
    absurd (let z : reply.Refused why ≡ reply.Route name told_ = is in cc)
not_refused false why answer name told_ is = (refl, is)

routed_by : (core : Core) (repo : ℕ) (name : List ℕ) (told_ : Gen) (there : Option Repository)
    → ((book : Repository) → repository core repo ≡ Some book → IsDense core.storages book)
    → repository core repo ≡ there
    → told (option_or (read_refusal core repo there) None) (about there (read_reply core repo))
    ≡ reply.Route name told_ → IsRouted core repo name told_
routed_by core repo name told_ None dense at is =
    absurd (let z : reply.Refused refusal.UnknownRepo ≡ reply.Route name told_ = is in cc)
routed_by core repo name told_ (Some book) dense at is =
    let answered = not_refused (length (current core book) == 0)
    (no_route core book (turn_of core repo)) (read_reply core repo book) name told_ is in
    let goes = routed core book (dense book at) repo answered.0 in
    let same : reply.Route (name_of core (routed_to core repo book)) (gen book.newest)
    ≡ reply.Route name told_ = answered.1 in
    let newest : gen book.newest ≡ told_ = cc in
    let called : name_of core (routed_to core repo book) ≡ name = cc in
    record {
      book = book;
      there = at;
      newest = sym newest;
      storage = routed_to core repo book;
      called = sym called;
      up = goes.0;
      booked = goes.1 ∙ ap booking.At newest;
    }

pub reads_go_to_current_replicas : ReadsGoToCurrentReplicas
reads_go_to_current_replicas node moves old new repo name told_ before asked =
    let form = form_always node moves old before in
    let answer : Replied (reply.Route name told_) ≡ Replied (op_reply old (op.RouteRead repo)) =
    asked.replied in
    let is : op_reply old (op.RouteRead repo) ≡ reply.Route name told_ = cc in
    routed_by old.core repo.0 name told_ (repository old.core repo.0)
    (λ book there. dense_is old repo.0 book form there) refl is
