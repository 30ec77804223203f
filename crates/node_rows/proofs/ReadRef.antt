-- One row of table 7 more: a reference of a repository.
use Rattle.std.proofs.Common.{◌≡◌, ◌<◌, ℕ, List, [], ◌∷◌, true, false, cond, Bool, Option, Some, None, IsSome, is_some, refl, sym, ap, ◌∙◌, subst, ◌⊎◌, ⊎_elim, inl, inr, arith}
use Rattle.std.specs.Cmp.{nat_cmp_total}
use Rattle.std.specs.List.{AllByRecursion}
use Rattle.std.specs.Map.{keys_of}
use Rattle.std.specs.Option.{option_map}
use Rattle.std.specs.Ordering.{is_eq}
use Rattle.std.proofs.lemmas.Bool.{cases_Bool, cond-false, cond-true, false≢true, or_left, or_right}
use Rattle.std.proofs.lemmas.Cmp.{tied_itself}
use Rattle.std.proofs.lemmas.Map.Entries.{length-keys_of}
use Rattle.px_base.specs.Hash.{IsHash}
use Rattle.px_base.specs.RefList.{References, is_name, name_cmp, ref_at}
use Rattle.px_base.specs.declared.hash.Hash.{Hash}
use Rattle.objstore.specs.Entries.{object_at}
use Rattle.refstore.proofs.Least.{all_among, there_from_among}
use Rattle.refstore.proofs.Names.{names_laws, one_name}
use Rattle.refstore.specs.Updates.{is_among}
use Rattle.px_keeper.proofs.ReadRows.{below_is_read, below_next, found_where}
use Rattle.px_keeper.specs.Keeper.{IsNext}
use Rattle.px_keeper.specs.Reading.{is_read, is_up_to, read_so_far}
use Rattle.px_keeper.specs.Row.{Rows, row_at, row_key}
use Rattle.px_keeper.specs.declared.row_key.RowKey.{RowKey}
use Rattle.node_rows.proofs.KeyLemmas.{IsCut-cut, cut-under}
use Rattle.node_rows.proofs.LawfulReplicas.{IsLawful-changes, unready_changes}
use Rattle.node_rows.proofs.OneRef.{Fits-creation, IsRefList-created, done, fits_apart, fits_few, fits_some, ref_at-created}
use Rattle.node_calls.proofs.OptionLemmas.{none_mapped, some_mapped}
use Rattle.node_rows.proofs.ReadHeld.{IsHeldBy-held, held_by_row, held_path}
use Rattle.node_rows.proofs.ReadRows.{first_bad, next_has_none, read_more, row_exact}
use Rattle.node_rows.proofs.RowLemmas.{IsRow-same, named_or_same}
use Rattle.node_rows.specs.BadRow.{IsFirstBad, IsGood, IsRefRow, StandsBefore, object, reference, replica}
use Rattle.node_calls.specs.Lawful.{IsLawfulReplica}
use Rattle.node_calls.specs.ReplicaState.{Changes, NodeState, ReplicaState}
use Rattle.node_rows.specs.Reading.{IsReadTo, RefComes, with_ref}
use Rattle.node_rows.specs.Rows.{cut, ref_row, replica_row, row_of, under}

-- names under one path are in the order of their keys
name_cmp-under : (path one two : List ℕ)
    → name_cmp (under path one) (under path two) ≡ name_cmp one two
name_cmp-under [] one two = refl
name_cmp-under (b ∷ path) one two = rw (tied_itself nat_cmp_total b) (name_cmp-under path one two)

-- what holds of each that is among the names holds of all
all_from_each : (P : List ℕ → Type 0) (names : List (List ℕ))
    → ((q : List ℕ) → is_among q names ≡ true → P q) → AllByRecursion P names
all_from_each P [] each = tt
all_from_each P (name ∷ names) each = (
  each name (or_left _ _ (names_laws.refl name)),
  all_from_each P names (λ q among. each q (or_right _ _ among)),
)

-- ---- a repository that has one reference more

module _ (old : NodeState) (key value path name : List ℕ) (id : Hash)
    (comes : RefComes old key value path name id) (lawful : IsLawfulReplica (old path)) where
  -- the references that it had
  abbrev refs : References
  refs = (old path).refs

  -- the name has the id then, and each other what it had
  created : (q : List ℕ)
      → ref_at (done refs name id lawful.refs) q ≡ cond (is_name name q) (Some id) (ref_at refs q)
  created = ref_at-created refs name id lawful.refs (fits_some refs name id lawful.refs comes.fits)

  -- so each id is a hash
  ids_more : (q : List ℕ) (h : Hash) → ref_at (done refs name id lawful.refs) q ≡ Some h
      → IsHash h
  ids_more q h is = at (is_name name q) (sym (created q) ∙ is)
    where
      at : (b : Bool) → cond b (Some id) (ref_at refs q) ≡ Some h → IsHash h
      at true is =
          let same : id ≡ h = cc in
          subst IsHash same comes.hash
      at false is = lawful.ids q h is

  -- it has what a repository may have
  IsLawfulReplica-ref : IsLawfulReplica (with_ref name id (old path))
  IsLawfulReplica-ref = record {
    fence = lawful.fence;
    last = lawful.last;
    refs = IsRefList-created refs name id lawful.refs comes.fits comes.named;
    ids = ids_more;
    store = lawful.store;
    small = lawful.small;
    empty = λ free. absurd (false≢true (sym free ∙ comes.held));
  }

  module _ (new : NodeState) (changes : Changes old new path (with_ref name id (old path))) where
    -- the row is that of the reference
    row_of_ref : row_of new (row_key 7 key) ≡ Some value
    row_of_ref = ap (ref_row new) comes.parts
        ∙ ap (λ (p : ReplicaState). option_map (λ (h : Hash). h.0) (ref_at p.refs name)) changes.here
        ∙ ap (option_map (λ (h : Hash). h.0)) (created name
        ∙ cond-true (is_name name name) (Some id) (ref_at refs name) (names_laws.refl name))
        ∙ sym (ap Some comes.is)

    -- and each other row is as it was
    rest_of_ref : (row : RowKey) → (row_key 7 key ≡ row) ⊎ (row_of new row ≡ row_of old row)
    rest_of_ref = named_or_same old new path changes.others (λ row. row_key 7 key ≡ row)
        (inr (ap replica_row changes.here))
        (λ q. ⊎_elim
        (λ same. inl (ap (row_key 7) ((IsCut-cut key (path, name) comes.parts).key_is
        ∙ ap (under path) (one_name name q same))))
        (λ differs. inr (ap (λ (p : ReplicaState). ref_at p.refs q) changes.here ∙ created q
        ∙ cond-false (is_name name q) (Some id) (ref_at refs q) differs))
        (cases_Bool (is_name name q)))
        (λ q. inr (ap (λ (p : ReplicaState). object_at p.objects q) changes.here))

-- ---- a row that is next

module _ (rows : Rows) (last : Option (List ℕ)) (old : NodeState) (key value : List ℕ)
    (reads : IsReadTo rows 7 last old) (next : IsNext rows 7 last key value) where
  -- its name under its path, and the references there
  module _ (path name : List ℕ) (parts : cut key ≡ Some (path, name)) where
    -- the rows that were read are those of the references
    refs_read : (other : List ℕ) → read_so_far rows 7 last (row_key 7 (under path other))
        ≡ option_map (λ (h : Hash). h.0) (ref_at (old path).refs other)
    refs_read other =
        let row : RowKey = row_key 7 (under path other) in
        row_exact row (row_of old row) (read_so_far rows 7 last row)
        (λ is. absurd (omega arith)) (reads.has.are row (omega arith))
        ∙ ap (ref_row old) (cut-under path other (IsCut-cut key (path, name) parts).none)

    -- keys under the path are in the order of their names
    cmp_key : (other : List ℕ) → name_cmp (under path other) key ≡ name_cmp other name
    cmp_key other = ap (name_cmp (under path other)) (IsCut-cut key (path, name) parts).key_is
        ∙ name_cmp-under path other name

    -- a name that stands before it is a reference
    there_before : (other : List ℕ) → StandsBefore rows path name other
        → IsSome (ref_at (old path).refs other)
    there_before other stands =
        let row : RowKey = row_key 7 (under path other) in
        let read : is_up_to last (under path other) ≡ true =
        below_is_read rows 7 last key value next (under path other) stands.there
        (cmp_key other ∙ stands.before) in
        some_mapped (λ (h : Hash). h.0) (ref_at (old path).refs other)
        (ap is_some (sym (refs_read other)
        ∙ cond-true (is_read 7 last row) (row_at rows 7 (under path other)) None read)
        ∙ stands.there)

    -- and each reference has a name that stands before it
    before_there : (other : List ℕ) → IsSome (ref_at (old path).refs other)
        → StandsBefore rows path name other
    before_there other = at (ref_at (old path).refs other) refl
      where
        at : (o : Option Hash) → ref_at (old path).refs other ≡ o → IsSome o
            → StandsBefore rows path name other
        at None is there = absurd (cc)
        at (Some h) is there =
            let found = found_where (is_read 7 last (row_key 7 (under path other)))
            (row_at rows 7 (under path other)) h.0
            (refs_read other ∙ ap (option_map (λ (h : Hash). h.0)) is) in
            record {
              there = ap is_some found.1;
              before = sym (cmp_key other)
                  ∙ below_next last (under path other) key found.0 next.above;
            }

  -- the reference comes, so the row is one that a node may have
  IsRefRow-comes : (path name : List ℕ) (id : Hash) → RefComes old key value path name id
      → IsRefRow rows key value
  IsRefRow-comes path name id comes =
      let refs : References = (old path).refs in
      let lawful = (reads.has.lawful.places path).refs in
      record {
        path = path;
        name = name;
        parts = comes.parts;
        held = IsHeldBy-held rows 7 last old reads (omega arith) path comes.held;
        named = comes.named;
        id = id;
        is = comes.is;
        hash = comes.hash;
        some = fits_some refs name id lawful comes.fits;
        apart = λ other stands. fits_apart refs name id lawful comes.fits comes.named other
            (there_before path name comes.parts other stands);
        few = λ others sorted stand. fits_few refs name id lawful comes.fits comes.named others
            sorted
            (all_from_each (λ q. is_name name q ≡ false) others (λ q among.
            names_laws.symm name q
            ∙ ap is_eq (all_among (StandsBefore rows path name) others q stand among).before))
            (λ q among. there_before path name comes.parts q
            (all_among (StandsBefore rows path name) others q stand among));
      }

  -- a node may have the row, so its reference comes
  pub RefComes-row : (is : IsRefRow rows key value) → RefComes old key value is.path is.name is.id
  RefComes-row is =
      let refs : References = (old is.path).refs in
      let lawful = (reads.has.lawful.places is.path).refs in
      record {
        parts = is.parts;
        held = held_by_row rows 7 last old reads (omega arith) is.path is.held;
        named = is.named;
        is = is.is;
        hash = is.hash;
        fits = Fits-creation refs is.name is.id lawful is.some
            (none_mapped (λ (h : Hash). h.0) (ref_at refs is.name) (sym (ap (ref_row old) is.parts)
            ∙ next_has_none rows 7 last key value next old reads (omega arith)))
            (λ q there. is.apart q (before_there is.path is.name is.parts q there))
            (subst (λ (n : ℕ). n < 32768) (length-keys_of refs)
            (is.few (keys_of refs) lawful.ordered
            (all_from_each (StandsBefore rows is.path is.name) (keys_of refs) (λ q among.
            before_there is.path is.name is.parts q (there_from_among refs q among)))));
      }

  -- with the reference, the node has what was read
  pub read_ref : (new : NodeState) (path name : List ℕ) (id : Hash)
      → RefComes old key value path name id → Changes old new path (with_ref name id (old path))
      → IsReadTo rows 7 (Some key) new
  read_ref new path name id comes changes =
      let place : ReplicaState = with_ref name id (old path) in
      let lawful : IsLawfulReplica (old path) = reads.has.lawful.places path in
      read_more rows 7 last key value next old new reads
      (IsRow-same (row_key 7 key) (row_of new (row_key 7 key)) (Some value)
      (sym (row_of_ref old key value path name id comes lawful new changes)))
      (rest_of_ref old key value path name id comes lawful new changes)
      (reference refl (IsRefRow-comes path name id comes))
      (IsLawful-changes old new path place changes reads.has.lawful
      (held_path rows 7 last old reads (omega arith) path comes.held)
      (IsLawfulReplica-ref old key value path name id comes lawful))
      (unready_changes old new path place changes reads.has.unready (reads.has.unready path))

  -- a row of which no reference comes is the first bad one
  pub bad_ref : ((path name : List ℕ) (id : Hash) → ¬ (RefComes old key value path name id))
      → IsFirstBad rows (row_key 7 key)
  bad_ref none = first_bad rows 7 last key value next old reads bad
    where
      bad : IsGood rows (row_key 7 key) value → ⊥
      bad (replica is good) = absurd (omega arith)
      bad (reference is good) = none good.path good.name good.id (RefComes-row good)
      bad (object is good) = absurd (omega arith)
