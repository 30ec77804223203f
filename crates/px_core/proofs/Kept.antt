-- Each operation that the core has keeps it sound.
use Rattle.std.proofs.Common.{◌≡◌, ◌≤◌, ◌<◌, ◌+◌, ◌-◌, ◌^◌, ◌&&◌, ◌++◌, ℕ, not, List, [], ◌∷◌, Bool, true, false, Option, None, Some, refl, sym, ap, subst, inl, inr, length, nat_lt, arith}
use Rattle.std.specs.Option.{option_map}
use Rattle.std.proofs.lemmas.Bool.Decides.{nat_tests}
use Rattle.px_ops.specs.declared.job.Job.{Job}
use Rattle.px_ops.specs.declared.job.JobKind.{JobKind}
use Rattle.px_ops.specs.declared.job.JobKind.TheVariants.{Update, Delete}
use Rattle.px_ops.specs.declared.op.Op.{Op}
use Rattle.px_ops.specs.declared.op.Op.TheVariants as op
use Rattle.px_ops.specs.declared.refusal.Refusal.{Refusal}
use Rattle.px_ops.specs.declared.refusal.Refusal.TheVariants as refusal
use Rattle.px_base.specs.declared.hash.Hash.{Hash}
use Rattle.px_base.specs.declared.ids.TxId.{TxId}
use Rattle.px_base.specs.declared.phase.Phase.{Phase}
use Rattle.txmanager.specs.VoterCalls.{after_cast}
use Rattle.txmanager.specs.Voting.{Voting}
use Rattle.px_cluster.specs.Book.{Repository, Storage, is_of, storages_of}
use Rattle.px_cluster.specs.Casts.{booked_by, cast_on, with_cast_booked}
use Rattle.px_cluster.specs.Core.{Core, OpenPush, empty, job_at, push_of, repository, turn_of, voting, with_book_changed, with_repository_by}
use Rattle.px_cluster.specs.Creating.{admit_refusal, found, has_name, with_created}
use Rattle.px_cluster.specs.Ids.{storage_id}
use Rattle.px_cluster.specs.Jobs.{ended_job, with_end_booked, without_job, without_running}
use Rattle.px_cluster.specs.Numbers.{first_of, places_from, places_of}
use Rattle.px_cluster.specs.Ops.{left_by, next_core, refusal_of, unless_refused}
use Rattle.px_cluster.specs.Pushes.{begin_refusal, begun_at, read_only, turn_taken}
use Rattle.px_cluster.specs.Refusals.{cause, generations_spent, leases_spent}
use Rattle.px_cluster.specs.Taking.{Drop, Next, PassOver, Take, Taking, dequeued, dequeued_by, next_job, taken_in}
use Rattle.cluster_form.specs.Form.{IsFormed}
use Rattle.cluster_form.proofs.LeftKept.{at_first, kept_by_ops}
use Rattle.cluster_form.proofs.Lists.{bool, both_left, bytes_same}
use Rattle.cluster_form.proofs.Places.{places_more}
use Rattle.cluster_form.proofs.PushLists.{pushes_left}
use Rattle.cluster_form.proofs.TurnsKept.{first_holds, not_caused}
use Rattle.cluster_form.specs.Left.{AreLeft}
use Rattle.px_core.specs.Few.{AreFew}
use Rattle.px_core.specs.Sound.{AreBegun, IsSound}

-- ---- storages

length_more : {A : Type 0} (xs : List A) (x : A) → length (xs ++ x ∷ []) ≡ length xs + 1
length_more [] x = refl
length_more (y ∷ ys) x = let rest = length_more ys x in omega (arith, rest)

length_none : {A : Type 0} (xs : List A) → length (xs ++ []) ≡ length xs
length_none [] = refl
length_none (y ∷ ys) = let rest = length_none ys in omega (arith, rest)

-- where the virtual storage has not 64 storages yet
few_more : (core : Core) (virt name : List ℕ) → admit_refusal core virt name ≡ None → AreFew core
    → (other : List ℕ) → length (storages_of
    (core.storages ++ record { virt = virt; name = name } ∷ []) other) ≤ 64
few_more core virt name none few other =
    let storage : Storage = record { virt = virt; name = name } in
    let more = places_more (is_of other) 0 core.storages storage in
    let as_many = ap (λ (ns : List ℕ). length ns) more in
    elim (bool (is_of other storage)) [
      | inl holds ↦ (let room = first_holds (option_map (λ n. refusal.StorageExists (storage_id n))
          (first_of (places_of (has_name name) core.storages))) (full ∷ []) none in
          let within = not_caused (not (nat_lt (length (storages_of core.storages virt)) 64
          && nat_lt (length core.storages) (2 ^ 32 - 1))) refusal.TooManyStorages
          (first_holds full [] room.1).0 in
          let below = both_left (nat_lt (length (storages_of core.storages virt)) 64)
          (nat_lt (length core.storages) (2 ^ 32 - 1)) (holds_not _ within) in
          let same = ap (λ (v : List ℕ). length (storages_of core.storages v))
          (bytes_same virt other holds) in
          let one = length_more (places_from 0 (is_of other) core.storages)
          (0 + length core.storages) in
          let now : length (storages_of (core.storages ++ storage ∷ []) other)
          ≡ length (places_from 0 (is_of other) core.storages ++ (0 + length core.storages) ∷ []) =
          rw holds at as_many in
          grind (arith, nat_tests, same, one, now, below))
      | inr fails ↦ (let now : length (storages_of (core.storages ++ storage ∷ []) other)
          ≡ length (places_from 0 (is_of other) core.storages ++ []) = rw fails at as_many in
          let none_more = length_none (places_from 0 (is_of other) core.storages) in
          let before = few other in omega (arith, now, none_more, before))
    ]
  where
    full : Option Refusal
    full = cause (not (nat_lt (length (storages_of core.storages virt)) 64
        && nat_lt (length core.storages) (2 ^ 32 - 1))) refusal.TooManyStorages

    holds_not : (b : Bool) → not b ≡ false → b ≡ true
    holds_not true is = refl
    holds_not false is = absurd (let z : true ≡ false = is in cc)

same_by : (core : Core) (repo : ℕ) (change : Repository → Repository) (there : Option Repository)
    → (with_repository_by there repo change core).storages ≡ core.storages
same_by core repo change None = refl
same_by core repo change (Some book) = refl

same_created : (core : Core) (at : Option ℕ) (book : Repository)
    → (with_created at book core).storages ≡ core.storages
same_created core None book = refl
same_created core (Some repo) book = refl

same_begun : (core : Core) (repo : ℕ) (there : Option Repository)
    → (begun_at repo there core).storages ≡ core.storages
same_begun core repo None = refl
same_begun core repo (Some book) = refl

same_booked : (core : Core) (push : Option OpenPush) (name : List ℕ) (phase : Phase) (hash : Hash)
    (old new : Voting)
    → (with_cast_booked push name phase hash old new core).storages ≡ core.storages
same_booked core None name phase hash old new = refl
same_booked core (Some push) name phase hash old new =
    same_by core push.repo (booked_by push name phase hash old new) (repository core push.repo)

same_cast : (core : Core) (tx : TxId) (name : List ℕ) (phase : Phase) (hash : Hash)
    (vote : Option Voting) → (cast_on tx name phase hash vote core).storages ≡ core.storages
same_cast core tx name phase hash None = refl
same_cast core tx name phase hash (Some old) = same_booked (record core { transactions = _ })
    (push_of core tx) name phase hash old (after_cast name phase hash old)

same_taken : (core : Core) (job : Job) (source : Option ℕ) (now : ℕ) (there : Option Repository)
    → (taken_in there job source now core).storages ≡ core.storages
same_taken core job source now None = refl
same_taken core job source now (Some book) = refl

same_dequeued : (core : Core) (next : Option Next) (now : ℕ)
    → (dequeued next now core).storages ≡ core.storages
same_dequeued core None now = refl
same_dequeued core (Some next) now = by next.taking
  where
    by : (taking : Taking) → (dequeued_by next.job taking now core).storages ≡ core.storages
    by PassOver = refl
    by Drop = refl
    by (Take source) = same_taken core next.job source now (repository core next.job.repo.0)

same_ended : (core : Core) (good : Bool) (job : Option Job)
    → (ended_job good job core).storages ≡ core.storages
same_ended core good None = refl
same_ended core true (Some job) = by job.kind
  where
    by : (kind : JobKind)
        → (with_end_booked job kind (without_job job.number core)).storages ≡ core.storages
    by Update = same_by (without_job job.number core) job.repo.0 _ (repository core job.repo.0)
    by Delete = refl
same_ended core false (Some job) = refl

module _ (core : Core) (few : AreFew core) where
  as_before : (new : Core) → new.storages ≡ core.storages → AreFew new
  as_before new same virt =
      subst (λ (s : List Storage). length (storages_of s virt) ≤ 64) (sym same) (few virt)

  same_lifted : (repo storage : ℕ) (change : Repository → Repository)
      → (with_book_changed repo change (without_running repo storage core)).storages
      ≡ core.storages
  same_lifted repo storage change = same_by (without_running repo storage core) repo change
      (repository core repo)

  few_left : (asked : Op) → refusal_of core asked ≡ None → AreFew (left_by core asked)
  few_left (op.Admit virt name) none = few_more core virt name none few
  few_left (op.Health storage up) none = few
  few_left (op.Open threshold rounds voters) none = few
  few_left (op.Cast tx name phase hash) none = as_before
      (left_by core (op.Cast tx name phase hash))
      (same_cast core tx name phase hash (voting core tx))
  few_left (op.Withdraw tx voter) none = few
  few_left (op.Cancel tx) none = few
  few_left (op.Stop tx) none = few
  few_left (op.Collect tx voter sub) none = few
  few_left (op.Outcome tx sub) none = few
  few_left (op.Close tx) none = few
  few_left (op.Create virt path factor) none = as_before
      (left_by core (op.Create virt path factor)) (same_created core (found core virt path) _)
  few_left (op.Enrol repo storage lease) none = as_before
      (left_by core (op.Enrol repo storage lease))
      (same_by core repo.0 _ (repository core repo.0))
  few_left (op.Begin repo) none = as_before (left_by core (op.Begin repo))
      (same_begun core repo.0 (repository core repo.0))
  few_left (op.Finish tx) none = few
  few_left (op.Dequeue target now) none = as_before
      (left_by core (op.Dequeue target now)) (same_dequeued core (next_job core target.0) now)
  few_left (op.Beat job lease now) none = few
  few_left (op.Ack job lease good) none = as_before
      (left_by core (op.Ack job lease good)) (same_ended core good (job_at core job.0))
  few_left (op.Stale now span) none = few
  few_left (op.Reconcile only) none = few
  few_left (op.RouteRead repo) none = few
  few_left (op.SetFactor repo factor) none = as_before
      (left_by core (op.SetFactor repo factor)) (same_by core repo.0 _ (repository core repo.0))
  few_left (op.AcceptBegin repo storage) none = as_before
      (left_by core (op.AcceptBegin repo storage)) (same_lifted repo.0 storage.0 _)
  few_left (op.Accept repo storage lease) none = as_before
      (left_by core (op.Accept repo storage lease)) (same_lifted repo.0 storage.0 _)
  few_left (op.SettleBegin repo storage) none = as_before
      (left_by core (op.SettleBegin repo storage)) (same_lifted repo.0 storage.0 _)
  few_left (op.Settle repo storage lease last) none = as_before
      (left_by core (op.Settle repo storage lease last)) (same_lifted repo.0 storage.0 _)
  few_left (op.Booked repo) none = few
  few_left (op.Find virt path) none = few
  few_left (op.Holder repo) none = few

-- ---- pushes that began

begins_below : (core : Core) (repo : ℕ) (book : Repository)
    → begin_refusal core repo (Some book) ≡ None → book.newest < 2 ^ 64 - 1
begins_below core repo book none =
    let turn = first_holds (turn_taken (turn_of core repo)) _ none in
    let writable = first_holds (read_only core book) _ turn.1 in
    let leases = first_holds (leases_spent book.last) _ writable.1 in
    let generations = first_holds (generations_spent book.newest) _ leases.1 in
    let below = not_caused (not (nat_lt book.newest (2 ^ 64 - 1))) _ generations.0 in
    grind (arith, nat_tests, below)

begun_left : (core : Core) (asked : Op) → refusal_of core asked ≡ None → AreBegun core
    → AreBegun (left_by core asked)
begun_left core asked none begun = pushes_left (λ (push : OpenPush). push.begun < 2 ^ 64 - 1)
    (λ push canceled stopped is. is) core asked (λ repo book is begins.
    begins_below core repo book (subst (λ there. begin_refusal core repo there ≡ None) is
    (subst (λ o. refusal_of core o ≡ None) begins none))) begun

-- ---- all of it

pub kept : (core : Core) (asked : Op) → IsSound core → IsSound (next_core core asked)
kept core asked sound =
    by (refusal_of core asked) refl (kept_by_ops core asked (sound.form, sound.left))
  where
    by : (why : Option Refusal) → refusal_of core asked ≡ why
        → IsFormed (unless_refused why core (left_by core asked))
        × AreLeft (unless_refused why core (left_by core asked))
        → IsSound (unless_refused why core (left_by core asked))
    by None none both = record {
      form = both.0;
      left = both.1;
      begun = begun_left core asked none sound.begun;
      few = few_left core sound.few asked none;
    }
    by (Some why) is both = sound

-- the same of what it leaves where nothing refuses it
pub kept_done : (core : Core) (asked : Op) → refusal_of core asked ≡ None → IsSound core
    → IsSound (left_by core asked)
kept_done core asked none sound = subst (λ (why : Option Refusal).
    IsSound (unless_refused why core (left_by core asked))) none (kept core asked sound)

pub sound_at_first : IsSound empty
sound_at_first = record {
  form = at_first.0;
  left = at_first.1;
  begun = tt;
  few = λ virt. omega arith;
}
