-- Walks: all that stands in the queue is reachable, and at the end all that is reachable was taken.
use Rattle.std.proofs.Common.{◌≡◌, ℕ, zero, suc, List, [], ◌∷◌, ◌++◌, None, sym, refl, ap, ◌∙◌, subst, ◌⊎◌, ⊎_elim, append_assoc}
use Rattle.std.specs.List.{Contains, IsDistinct}
use Rattle.std.specs.Option.{IsSome}
use Rattle.std.specs.Prelude.{Result, Ok, Err, IfErr}
use Rattle.std.specs.Result.{IsErrAnd}
use Rattle.std.proofs.lemmas.List.{append-nil}
use Rattle.std.proofs.lemmas.List.Elements.{Contains-append_right, Contains-push_cases}
use Rattle.px_base.specs.declared.hash.Hash.{Hash}
use Rattle.objstore.proofs.Ids.{Contains-first, Contains-same, none_stands}
use Rattle.objstore.proofs.QueuedLemmas.{taken-all_queued, keeps_all, has_all, only_all, distinct_all}
use Rattle.objstore.specs.Entries.{is_id}
use Rattle.objstore.specs.Missing.{IsMissed}
use Rattle.objstore.specs.declared.store.ClosedFault.{ClosedFault}
use Rattle.objstore.specs.declared.store.ClosedFault.TheVariants.{Missing, Memory}
use Rattle.objstore.specs.Reach.{Objects, links_in, Leads, IsReachable, IsClosed}
use Rattle.objstore.specs.Walk.{Walk, empty, stood, all_queued, one_step, walk_after, IsWalk, AllFound, IsFirstMissing}

-- the walk in which the one in front was taken
abbrev pub front_off : List Hash → Hash → List Hash → Walk
front_off taken id waiting = record { taken = taken ++ id ∷ []; waiting = waiting }

-- the same ids have stood there
stood-front_off : (taken : List Hash) (id : Hash) (waiting : List Hash)
    → stood (front_off taken id waiting) ≡ taken ++ id ∷ waiting
stood-front_off taken id waiting = append_assoc taken (id ∷ []) waiting

-- the one in front stands there
front_stands : (taken : List Hash) (id : Hash) (waiting : List Hash)
    → Contains (taken ++ id ∷ waiting) id
front_stands taken id waiting =
    Contains-append_right taken (id ∷ waiting) id (Contains-first id waiting)

-- what holds of a cause holds of the cause that it is told as
pub told_as : {T : Type 0} (P : ClosedFault → Type 0) (result : Result T ClosedFault) (e : ClosedFault)
    → IsErrAnd result (λ told. told ≡ e) → P e → IfErr result P
told_as P (Ok value) e is holds = tt
told_as P (Err told) e is holds = subst P (sym is) holds

module _ (objects : Objects) (tips : List Hash) where
  -- ---- all that stands in the queue is reachable

  -- a path leads on to a link of its end
  Leads-on : (from : Hash) (path : List Hash) (to link : Hash) → Leads objects from path to
      → Contains (links_in (objects to)) link → Leads objects from (path ++ link ∷ []) link
  Leads-on from [] to link leads links =
      (subst (λ (p : Hash). Contains (links_in (objects p)) link) (sym leads) links, refl)
  Leads-on from (next ∷ path) to link leads links =
      (leads.0, Leads-on next path to link leads.1 links)

  -- so a link of what is reachable is reachable
  reaches_on : (id link : Hash) → IsReachable objects tips id
      → Contains (links_in (objects id)) link → IsReachable objects tips link
  reaches_on id link reach links = record {
    tip = reach.tip;
    path = reach.path ++ link ∷ [];
    begins = reach.begins;
    leads = Leads-on reach.tip reach.path id link reach.leads links;
  }

  -- a step keeps it
  reached_next : (taken waiting : List Hash)
      → ((q : Hash) → Contains (taken ++ waiting) q → IsReachable objects tips q)
      → (q : Hash) → Contains (stood (one_step objects taken waiting)) q
      → IsReachable objects tips q
  reached_next taken [] before q stands = before q stands
  reached_next taken (id ∷ waiting) before q stands =
      ⊎_elim (λ was. before q (Contains-same q (stood-front_off taken id waiting) was))
      (λ links. reaches_on id q (before id (front_stands taken id waiting)) links)
      (only_all (front_off taken id waiting) (links_in (objects id)) q stands)

  -- so it is true after any number of steps
  reached_after : (n : ℕ) (q : Hash) → Contains (stood (walk_after objects tips n)) q
      → IsReachable objects tips q
  reached_after zero q stands =
      ⊎_elim (λ none. absurd (none_stands q none))
      (λ begins. record { tip = q; path = []; begins = begins; leads = refl })
      (only_all empty tips q stands)
  reached_after (suc n) q stands =
      let walk = walk_after objects tips n in
      reached_next walk.taken walk.waiting (reached_after n) q stands

  -- and of every walk of the tips
  pub reached : (walk : Walk) → IsWalk objects tips walk → (q : Hash) → Contains (stood walk) q
      → IsReachable objects tips q
  reached walk is q stands =
      reached_after is.steps q (Contains-same q (ap stood (sym is.is)) stands)

  -- ---- at the end all that is reachable was taken

  -- a step keeps what stood there
  keeps_next : (taken waiting : List Hash) (q : Hash) → Contains (taken ++ waiting) q
      → Contains (stood (one_step objects taken waiting)) q
  keeps_next taken [] q stands = stands
  keeps_next taken (id ∷ waiting) q stands =
      keeps_all (front_off taken id waiting) (links_in (objects id)) q
      (Contains-same q (sym (stood-front_off taken id waiting)) stands)

  -- each tip stands there
  tips_stand : (n : ℕ) (q : Hash) → Contains tips q → Contains (stood (walk_after objects tips n)) q
  tips_stand zero q begins = has_all empty tips q begins
  tips_stand (suc n) q begins =
      let walk = walk_after objects tips n in
      keeps_next walk.taken walk.waiting q (tips_stand n q begins)

  -- the links of what was taken stand there
  abbrev LinksStand : Walk → Type 0
  LinksStand walk = (id q : Hash) → Contains walk.taken id → Contains (links_in (objects id)) q
      → Contains (stood walk) q

  -- a step keeps it
  links_next : (taken waiting : List Hash) → LinksStand (record { taken = taken; waiting = waiting })
      → LinksStand (one_step objects taken waiting)
  links_next taken [] before id q was links = before id q was links
  links_next taken (front ∷ waiting) before id q was links =
      let walk : Walk = front_off taken front waiting in
      let came = links_in (objects front) in
      ⊎_elim
      (λ earlier. keeps_all walk came q
      (Contains-same q (sym (stood-front_off taken front waiting)) (before id q earlier links)))
      (λ e. has_all walk came q
      (subst (λ (p : Hash). Contains (links_in (objects p)) q) (sym e) links))
      (Contains-push_cases taken front id (Contains-same id (taken-all_queued walk came) was))

  -- so it is true after any number of steps
  links_stand : (n : ℕ) → LinksStand (walk_after objects tips n)
  links_stand zero id q was links =
      absurd (none_stands id (Contains-same id (taken-all_queued empty tips) was))
  links_stand (suc n) id q was links =
      let walk = walk_after objects tips n in
      links_next walk.taken walk.waiting (links_stand n) id q was links

  module _ (n : ℕ) (over : (walk_after objects tips n).waiting ≡ []) where
    -- where none waits, all that stood there was taken
    all_off : stood (walk_after objects tips n) ≡ (walk_after objects tips n).taken
    all_off =
        let walk = walk_after objects tips n in
        ap (λ (ids : List Hash). walk.taken ++ ids) over ∙ append-nil walk.taken

    -- and so was all that it leads to
    path_taken : (from : Hash) (path : List Hash) (to : Hash)
        → Contains (walk_after objects tips n).taken from → Leads objects from path to
        → Contains (walk_after objects tips n).taken to
    path_taken from [] to was leads =
        subst (λ (p : Hash). Contains (walk_after objects tips n).taken p) leads was
    path_taken from (next ∷ path) to was leads =
        path_taken next path to (Contains-same next all_off (links_stand n from next was leads.0))
        leads.1

    -- so all that is reachable was taken
    all_taken : (id : Hash) → IsReachable objects tips id
        → Contains (walk_after objects tips n).taken id
    all_taken id reach =
        path_taken reach.tip reach.path id
        (Contains-same reach.tip all_off (tips_stand n reach.tip reach.begins)) reach.leads

  -- where none waits, all that is reachable was taken
  pub taken_at_end : (walk : Walk) → IsWalk objects tips walk → walk.waiting ≡ [] → (id : Hash)
      → IsReachable objects tips id → Contains walk.taken id
  taken_at_end walk is over id reach =
      Contains-same id (ap (λ (w : Walk). w.taken) is.is)
      (all_taken is.steps (ap (λ (w : Walk). w.waiting) is.is ∙ over) id reach)

  -- where none waits and all that was taken has an object, all that is reachable has one
  pub closed_at_end : (walk : Walk) → IsWalk objects tips walk → walk.waiting ≡ []
      → AllFound objects walk.taken → IsClosed objects tips
  closed_at_end walk is over found id reach = found id (taken_at_end walk is over id reach)

  -- ---- no id stands there twice

  -- a step keeps it
  distinct_next : (taken waiting : List Hash) → IsDistinct is_id (taken ++ waiting)
      → IsDistinct is_id (stood (one_step objects taken waiting))
  distinct_next taken [] distinct = distinct
  distinct_next taken (id ∷ waiting) distinct =
      distinct_all (front_off taken id waiting) (links_in (objects id))
      (subst (IsDistinct is_id) (sym (stood-front_off taken id waiting)) distinct)

  -- so it is true after any number of steps
  distinct_after : (n : ℕ) → IsDistinct is_id (stood (walk_after objects tips n))
  unfolding IsDistinct
  distinct_after zero = distinct_all empty tips tt
  distinct_after (suc n) =
      let walk = walk_after objects tips n in
      distinct_next walk.taken walk.waiting (distinct_after n)

  -- and of every walk of the tips
  pub distinct_walk : (walk : Walk) → IsWalk objects tips walk → IsDistinct is_id (stood walk)
  distinct_walk walk is =
      subst (λ (w : Walk). IsDistinct is_id (stood w)) is.is (distinct_after is.steps)

  -- ---- how the walk goes on

  -- it begins with the tips, each once
  pub IsWalk-begins : IsWalk objects tips (all_queued empty tips)
  IsWalk-begins = record { steps = zero; is = refl }

  -- and none was taken then
  pub AllFound-begins : AllFound objects (all_queued empty tips).taken
  AllFound-begins id was =
      absurd (none_stands id (Contains-same id (taken-all_queued empty tips) was))

  -- the one in front is taken, and its links come to the back
  pub IsWalk-next : (walk after : Walk) (id : Hash) → IsWalk objects tips walk
      → walk.waiting ≡ id ∷ after.waiting → after.taken ≡ walk.taken ++ id ∷ []
      → IsWalk objects tips (all_queued after (links_in (objects id)))
  IsWalk-next walk after id is front longer = record {
    steps = suc is.steps;
    is = ap (λ (w : Walk). one_step objects w.taken w.waiting) is.is
        ∙ ap (one_step objects walk.taken) front
        ∙ ap (λ (ids : List Hash). all_queued (record { taken = ids; waiting = after.waiting })
        (links_in (objects id))) (sym longer);
  }

  -- all that was taken has an object, where the one in front has one
  pub AllFound-next : (taken after : List Hash) (id : Hash) → AllFound objects taken
      → IsSome (objects id) → after ≡ taken ++ id ∷ [] → AllFound objects after
  AllFound-next taken after id found has longer q was =
      ⊎_elim (λ earlier. found q earlier) (λ e. subst (λ (p : Hash). IsSome (objects p)) e has)
      (Contains-push_cases taken id q (Contains-same q longer was))

  -- where the one in front has none, it is the first missing one, and reachable
  pub front_is_missing : (walk : Walk) (id : Hash) (waiting : List Hash) → IsWalk objects tips walk
      → walk.waiting ≡ id ∷ waiting → AllFound objects walk.taken → objects id ≡ None
      → IsFirstMissing objects tips id × IsReachable objects tips id
  front_is_missing walk id waiting is front found missing = (
    record {
      taken = walk.taken;
      waiting = waiting;
      walk = subst (λ (ids : List Hash).
          IsWalk objects tips (record { taken = walk.taken; waiting = ids })) front is;
      found = found;
      missing = missing;
    },
    reached walk is id
        (Contains-same id (ap (λ (ids : List Hash). walk.taken ++ ids) (sym front))
        (front_stands walk.taken id waiting)),
  )

  -- so where the walk ends for this cause, or memory wants, the cause is told
  pub told_missed : (walk : Walk) (id : Hash) (waiting : List Hash) (e : ClosedFault)
      → IsWalk objects tips walk → walk.waiting ≡ id ∷ waiting → AllFound objects walk.taken
      → (e ≡ Memory) ⊎ (e ≡ Missing id) × (objects id ≡ None) → IsMissed objects tips e
  told_missed walk id waiting e is front found cause = ⊎_elim
      (λ wanted. subst (IsMissed objects tips) (sym wanted) tt)
      (λ misses. subst (IsMissed objects tips) (sym misses.0)
      (front_is_missing walk id waiting is front found misses.1))
      cause
