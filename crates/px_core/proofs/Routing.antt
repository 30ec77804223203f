-- A read goes where the rule sends it, to a storage that is known.
use Rattle.std.proofs.Common.{◌≡◌, ◌∙◌, ◌<◌, ◌==◌, ◌&&◌, ◌%◌, ℕ, zero, suc, List, [], ◌∷◌, false, Option, None, Some, refl, sym, ap, subst, inl, inr, length, slice_get, unwrap_or, arith}
use Rattle.std.specs.List.{AllByRecursion}
use Rattle.std.proofs.lemmas.Bool.Decides.{nat_tests}
use Rattle.std.proofs.lemmas.Nat.{mod_below}
use Rattle.px_base.specs.declared.ids.Gen.{Gen}
use Rattle.px_base.specs.declared.ids.StorageId.{StorageId}
use Rattle.px_ops.specs.declared.refusal.Refusal.{Refusal}
use Rattle.px_ops.specs.declared.refusal.Refusal.TheVariants as refusal
use Rattle.px_ops.specs.declared.reply.Reply.TheVariants as reply
use Rattle.px_cluster.specs.Book.{Repository}
use Rattle.px_cluster.specs.Core.{Core, OpenPush, is_current, name_of, repository, turn_of, voting}
use Rattle.px_cluster.specs.Ids.{gen, storage_id}
use Rattle.px_cluster.specs.Ops.{about}
use Rattle.px_cluster.specs.Pushes.{count_newest}
use Rattle.px_cluster.specs.Reads.{current, is_decided, no_route, read_refusal, read_reply, reads_of, routed_to}
use Rattle.cluster_form.proofs.Lists.{bool}
use Rattle.router.specs.Reads as by_router
use Rattle.router.specs.declared.read_route.PushUnderway.{PushUnderway}
use Rattle.router.specs.declared.read_route.ReadRoute.{ReadRoute}
use Rattle.router.specs.declared.read_route.ReadRoute.TheVariants.{InFlight, NoCurrentReplica, Route}
use Rattle.px_core.specs.Routing.{underway_in}
use Rattle.px_core.specs.Sound.{IsSound}
use Rattle.px_core.proofs.Planning.{of_where, replicas_known}

-- the one of a place is such as all are
one_such : (P : ℕ → Type 0) (numbers : List ℕ) (place : ℕ) → AllByRecursion P numbers
    → place < length numbers → P (unwrap_or (slice_get numbers place) 0)
one_such P [] place all within = absurd (omega (arith, within))
one_such P (n ∷ ns) zero all within = all.0
one_such P (n ∷ ns) (suc place) all within =
    one_such P ns place all.1 (omega (arith, within))

-- a number that is not 0 is above it
some_there : (n : ℕ) → (n == 0) ≡ false → 0 < n
some_there n is = grind (arith, nat_tests, is)

-- where a read goes, or that it is refused so
abbrev pub Leads : Core → ℕ → Repository → ReadRoute → Type 0
Leads core repo book (Route storage generation) =
    (read_refusal core repo (Some book) ≡ None) × (storage ≡ storage_id (routed_to core repo book))
    × (storage.0 < length core.storages) × (generation ≡ gen book.newest)
Leads core repo book (InFlight tx) =
    read_refusal core repo (Some book) ≡ Some (refusal.InFlight tx)
Leads core repo book (NoCurrentReplica newest count) =
    read_refusal core repo (Some book) ≡ Some (refusal.NoCurrentReplica newest count)

module _ (core : Core) (sound : IsSound core) (repo : ℕ) (book : Repository)
    (there : repository core repo ≡ Some book) where
  -- each current storage is known
  current_known : AllByRecursion (λ n. n < length core.storages) (current core book)
  current_known = of_where (λ n. n < length core.storages) (is_current core book) book.replicas
      (replicas_known core sound repo book there)

  -- .. and so is the one whose turn it is
  one_known : (length (current core book) == 0) ≡ false
      → routed_to core repo book < length core.storages
  one_known some = one_such (λ n. n < length core.storages) (current core book)
      (reads_of core repo % length (current core book)) current_known
      (mod_below (reads_of core repo) (length (current core book))
      (some_there (length (current core book)) some))

  -- no storage is current
  nowhere : (turn : Option OpenPush) → read_refusal core repo (Some book)
      ≡ Some (no_route core book turn) → Leads core repo book (by_router.no_route book
      (underway_in core turn))
  nowhere None refused = refused
  nowhere (Some push) refused = elim (bool (is_decided (voting core push.tx)
      && (count_newest book == 0))) [
        | inl holds ↦ rw holds (rw holds at refused)
        | inr fails ↦ rw fails (rw fails at refused)
      ]

  -- the way of the router is that of the rule
  leads : Leads core repo book (by_router.read_route core book (reads_of core repo)
      (underway_in core (turn_of core repo)))
  leads = elim (bool (length (current core book) == 0)) [
    | inl none ↦ rw none (nowhere (turn_of core repo) (rw none refl))
    | inr some ↦ rw some (rw some refl, refl, one_known some, refl)
  ]

-- .. also where the router was asked over the parts of the core
pub led : (parts core : Core) → parts ≡ core → IsSound parts → (repo : ℕ) (book : Repository)
    → repository core repo ≡ Some book → (route : ReadRoute) (reads : ℕ)
    (push : Option PushUnderway) → reads ≡ reads_of core repo
    → push ≡ underway_in core (turn_of core repo)
    → route ≡ by_router.read_route parts book reads push → Leads core repo book route
led parts core same sound repo book there route reads push reads_are push_is is =
    subst (Leads core repo book) (sym (is ∙ (λ i. by_router.read_route (same i) book (reads_are i)
    (push_is i)))) (leads core (subst IsSound same sound) repo book there)

-- a read of a repository that is on record is refused by the cause that its entry gives
pub read_refused : (core : Core) (repo : ℕ) (book : Repository) (why : Option Refusal)
    → repository core repo ≡ Some book → read_refusal core repo (Some book) ≡ why
    → read_refusal core repo (repository core repo) ≡ why
read_refused core repo book why there is = rw there is

-- .. and else is answered so
pub read_answer : (core : Core) (repo : ℕ) (book : Repository) (storage : StorageId)
    (generation : Gen) (name : List ℕ) → repository core repo ≡ Some book
    → storage ≡ storage_id (routed_to core repo book) → generation ≡ gen book.newest
    → name ≡ name_of core storage.0
    → reply.Route name generation ≡ about (repository core repo) (read_reply core repo)
read_answer core repo book storage generation name there to newest named =
    rw there (λ i. reply.Route
    ((named ∙ ap (λ (s : StorageId). name_of core s.0) to) i) (newest i))
