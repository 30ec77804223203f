-- Each kind of object is read as it is written, and its fault stands at the first bad byte.
use Rattle.std.proofs.Common.{◌≡◌, ◌++◌, ◌<◌, ◌≤◌, ℕ, zero, suc, List, [], ◌∷◌, length, Option, Result, Ok, Err, arith, refl, ap, sym, ◌∙◌, subst}
use Rattle.std.specs.Prelude.{codes}
use Rattle.std.specs.List.{AllByRecursion, cons_option, filter_map, flat_map}
use Rattle.std.proofs.lemmas.List.{append-nil, append_assoc, length-append}
use Rattle.px_base.specs.Hash.{IsHash}
use Rattle.px_base.specs.declared.hash.Hash.{Hash}
use Rattle.px_base.specs.declared.kind.Kind.{Kind}
use Rattle.px_base.specs.declared.kind.Kind.TheVariants.{Commit, Tree, Blob, Tag}
use Rattle.object_format.specs.Grammar.{BeginsWithParent, Entry, entry_text, header_line, IsEntry, link_of, parent_line, Spells, SpellsCommit, SpellsTag, SpellsTree}
use Rattle.object_format.specs.Links.{links_at}
use Rattle.object_format.specs.Reading.{and_then, line_at, parents_at, parents_of, tag_at, with_parent}
use Rattle.object_format.specs.TreeReading.{entry_at, link_at, tree_at, tree_of}
use Rattle.object_format.proofs.Entries.{entry_reader}
use Rattle.object_format.proofs.Lines.{IsLine, IsTagHead, line_reader, tag_reader}
use Rattle.object_format.proofs.Readers.{Breaks, IsReader, left_of, same_read, Some_of}

-- a reader of whole contents
pub record IsWhole (spells : List Hash → List ℕ → Type 0) (read : List ℕ → Result (List Hash) ℕ) : Type 0 where
  pub sound : (bytes : List ℕ) (ids : List Hash) → read bytes ≡ Ok ids → spells ids bytes
  pub whole : (ids : List Hash) (bytes : List ℕ) → spells ids bytes → read bytes ≡ Ok ids
  pub fault : (bytes : List ℕ) (left : ℕ) → read bytes ≡ Err left → Breaks (Some_of spells) read bytes left

-- two lists that were read are one
pub same_links : (x y : List Hash) → (let r : Result (List Hash) ℕ = Ok x in r) ≡ Ok y → x ≡ y
same_links x y e = cc

-- ---- a head, and links that what stands behind it cannot break

-- a content that begins with a head
pub record IsHeaded (form : Hash → List ℕ → Type 0) (links : Hash → List ℕ → List Hash) (ids : List Hash) (bytes : List ℕ) : Type 0 where
  pub id : Hash
  pub front : List ℕ
  pub rest : List ℕ
  pub has : form id front
  pub parts : bytes ≡ front ++ rest
  pub linked : ids ≡ links id rest

module _ (form : Hash → List ℕ → Type 0) (read : List ℕ → Result (Hash × List ℕ) ℕ) (reader : IsReader form read)
    (links : Hash → List ℕ → List Hash) (spells : List Hash → List ℕ → Type 0)
    (to : (ids : List Hash) (bytes : List ℕ) → IsHeaded form links ids bytes → spells ids bytes)
    (from : (ids : List Hash) (bytes : List ℕ) → spells ids bytes → IsHeaded form links ids bytes) where
  abbrev headed : List ℕ → Result (List Hash) ℕ
  headed bytes = and_then (read bytes) (λ head. Ok (links head.0 head.1))

  headed_sound : (bytes : List ℕ) (ids : List Hash) → headed bytes ≡ Ok ids → spells ids bytes
  headed_sound bytes ids is = by (read bytes) refl is
    where
      by : (r : Result (Hash × List ℕ) ℕ) → read bytes ≡ r
          → (let s : Result (List Hash) ℕ = and_then r (λ head. Ok (links head.0 head.1)) in s) ≡ Ok ids → spells ids bytes
      by (Err left) e is = absurd cc
      by (Ok r) e is =
          let b = reader.sound bytes r.0 r.1 e in
          to ids bytes (record { id = r.0; front = b.front; rest = r.1; has = b.has; parts = b.parts; linked = sym (same_links (links r.0 r.1) ids is) })

  headed_whole : (ids : List Hash) (bytes : List ℕ) → spells ids bytes → headed bytes ≡ Ok ids
  headed_whole ids bytes spelled =
      let h = from ids bytes spelled in
      ap headed h.parts
      ∙ ap (λ (r : Result (Hash × List ℕ) ℕ). let s : Result (List Hash) ℕ = and_then r (λ head. Ok (links head.0 head.1)) in s) (reader.whole h.id h.front h.rest h.has)
      ∙ ap (λ (x : List Hash). let s : Result (List Hash) ℕ = Ok x in s) (sym h.linked)

  headed_fault : (bytes : List ℕ) (left : ℕ) → headed bytes ≡ Err left → Breaks (Some_of spells) headed bytes left
  headed_fault bytes left is = by (read bytes) refl is
    where
      by : (r : Result (Hash × List ℕ) ℕ) → read bytes ≡ r
          → (let s : Result (List Hash) ℕ = and_then r (λ head. Ok (links head.0 head.1)) in s) ≡ Err left → Breaks (Some_of spells) headed bytes left
      by (Ok r) e is = absurd cc
      by (Err early) e is =
          let b = reader.fault bytes early e in
          let ids = links b.goes.0 [] in
          record {
            front = b.front;
            back = b.back;
            parts = b.parts;
            size = b.size ∙ ap left_of is;
            more = b.more;
            fits = b.fits;
            goes = (ids, to ids (b.front ++ b.more) (record { id = b.goes.0; front = b.front ++ b.more; rest = []; has = b.goes.1; parts = sym (append-nil (b.front ++ b.more)); linked = refl }));
            stops = λ c after other e. let none = b.stops c after other e in
                record {
                  left = none.left;
                  is = ap (λ (r : Result (Hash × List ℕ) ℕ). let s : Result (List Hash) ℕ = and_then r (λ head. Ok (links head.0 head.1)) in s) none.is;
                };
          }

  pub headed_reader : IsWhole spells headed
  headed_reader = record { sound = headed_sound; whole = headed_whole; fault = headed_fault }

-- ---- commits

-- the reader of a parent's line
abbrev parent_at : List ℕ → Result (Hash × List ℕ) ℕ
parent_at bytes = line_at (codes "parent ") bytes

parent_reader : IsReader (IsLine (codes "parent ")) parent_at
parent_reader = line_reader (codes "parent ") refl

-- bytes that begin with a line of a parent are read so
begun : (bytes : List ℕ) → (b : BeginsWithParent bytes) → parent_at bytes ≡ Ok (b.id, b.rest)
begun bytes b = ap parent_at b.written ∙ parent_reader.whole b.id (parent_line b.id) b.rest (record { lawful = b.lawful; written = refl })

-- what is left behind a line is shorter
pub line_shrinks : (bytes : List ℕ) (id : Hash) (rest : List ℕ) → line_at (codes "parent ") bytes ≡ Ok (id, rest) → length rest < length bytes
line_shrinks bytes id rest is =
    let b = parent_reader.sound bytes id rest is in
    let size : length b.front ≡ length (parent_line id) = ap length b.has.written in
    omega (arith, ap length b.parts, length-append b.front rest, size)

-- the lines of some parents, and behind them none
record AreParents (parents : List Hash) (bytes : List ℕ) : Type 0 where
  pub rest : List ℕ
  pub lawful : AllByRecursion IsHash parents
  pub written : bytes ≡ flat_map parent_line parents ++ rest
  pub whole : ¬ (BeginsWithParent rest)

parents_sound : (n : ℕ) (bytes : List ℕ) → length bytes ≤ n → AreParents (parents_at n bytes) bytes
unfolding parents_at
parents_sound zero [] few = record { rest = []; lawful = tt; written = refl; whole = λ b. let w = b.written in absurd cc }
parents_sound zero (b ∷ bytes) few = absurd (omega arith)
parents_sound (suc n) bytes few = by (parent_at bytes) refl (parents_sound n)
  where
    by : (r : Result (Hash × List ℕ) ℕ) → parent_at bytes ≡ r → ((behind : List ℕ) → length behind ≤ n → AreParents (parents_at n behind) behind)
        → AreParents (with_parent r (parents_at n)) bytes
    by (Err left) e known = record { rest = bytes; lawful = tt; written = refl; whole = λ b. let is = begun bytes b in absurd cc }
    by (Ok r) e known =
        let b = parent_reader.sound bytes r.0 r.1 e in
        let short = line_shrinks bytes r.0 r.1 e in
        let more = known r.1 (omega arith) in
        record {
          rest = more.rest;
          lawful = (b.has.lawful, more.lawful);
          written =
              b.parts ∙ ap (λ (t : List ℕ). t ++ r.1) b.has.written ∙ ap (λ (t : List ℕ). parent_line r.0 ++ t) more.written
              ∙ sym (append_assoc (parent_line r.0) (flat_map parent_line (parents_at n r.1)) more.rest);
          whole = more.whole;
        }

parents_whole : (n : ℕ) (parents : List Hash) (rest : List ℕ) → AllByRecursion IsHash parents → ¬ (BeginsWithParent rest)
    → length (flat_map parent_line parents ++ rest) ≤ n → parents_at n (flat_map parent_line parents ++ rest) ≡ parents
unfolding parents_at
parents_whole zero [] rest lawful whole few = refl
parents_whole (suc n) [] rest lawful whole few = by (parent_at rest) refl
  where
    by : (r : Result (Hash × List ℕ) ℕ) → parent_at rest ≡ r → with_parent r (parents_at n) ≡ []
    by (Err left) e = refl
    by (Ok r) e =
        let b = parent_reader.sound rest r.0 r.1 e in
        absurd (whole (record { id = r.0; rest = r.1; lawful = b.has.lawful; written = b.parts ∙ ap (λ (t : List ℕ). t ++ r.1) b.has.written }))
parents_whole zero (id ∷ parents) rest lawful whole few = absurd (omega arith)
parents_whole (suc n) (id ∷ parents) rest lawful whole few =
    let tail = flat_map parent_line parents ++ rest in
    let parts : flat_map parent_line (id ∷ parents) ++ rest ≡ parent_line id ++ tail = append_assoc (parent_line id) (flat_map parent_line parents) rest in
    let short : length tail ≤ n = omega (arith, ap length parts, length-append (parent_line id) tail) in
    ap (parents_at (suc n)) parts
    ∙ ap (λ (r : Result (Hash × List ℕ) ℕ). with_parent r (parents_at n)) (parent_reader.whole id (parent_line id) tail (record { lawful = lawful.0; written = refl }))
    ∙ ap (λ (ids : List Hash). id ∷ ids) (parents_whole n parents rest lawful.1 whole short)

-- how many turns it may take is no matter, where they are enough
parents_turns : (n m : ℕ) (bytes : List ℕ) → length bytes ≤ n → length bytes ≤ m → parents_at n bytes ≡ parents_at m bytes
unfolding parents_at
parents_turns zero zero bytes few also = refl
parents_turns zero (suc m) bytes few also = by (parent_at bytes) refl
  where
    by : (r : Result (Hash × List ℕ) ℕ) → parent_at bytes ≡ r → [] ≡ with_parent r (parents_at m)
    by (Err left) e = refl
    by (Ok r) e = absurd (omega (arith, line_shrinks bytes r.0 r.1 e))
parents_turns (suc n) zero bytes few also = by (parent_at bytes) refl
  where
    by : (r : Result (Hash × List ℕ) ℕ) → parent_at bytes ≡ r → with_parent r (parents_at n) ≡ []
    by (Err left) e = refl
    by (Ok r) e = absurd (omega (arith, line_shrinks bytes r.0 r.1 e))
parents_turns (suc n) (suc m) bytes few also = by (parent_at bytes) refl (parents_turns n m)
  where
    by : (r : Result (Hash × List ℕ) ℕ) → parent_at bytes ≡ r
        → ((rest : List ℕ) → length rest ≤ n → length rest ≤ m → parents_at n rest ≡ parents_at m rest)
        → with_parent r (parents_at n) ≡ with_parent r (parents_at m)
    by (Err left) e known = refl
    by (Ok r) e known =
        let short = line_shrinks bytes r.0 r.1 e in
        ap (λ (ids : List Hash). r.0 ∷ ids) (known r.1 (omega arith) (omega arith))

-- the parents are that of a line, and those behind it
pub parents_more : (bytes : List ℕ) (id : Hash) (rest : List ℕ) → line_at (codes "parent ") bytes ≡ Ok (id, rest)
    → parents_of bytes ≡ id ∷ parents_of rest
unfolding parents_at
parents_more bytes id rest is =
    let short = line_shrinks bytes id rest is in
    parents_turns (length bytes) (suc (length bytes)) bytes (omega arith) (omega arith)
    ∙ ap (λ (r : Result (Hash × List ℕ) ℕ). with_parent r (parents_at (length bytes))) is
    ∙ ap (λ (ids : List Hash). id ∷ ids) (parents_turns (length bytes) (length rest) rest (omega arith) (omega arith))

-- and none where the next bytes are no line
pub parents_end : (bytes : List ℕ) (left : ℕ) → line_at (codes "parent ") bytes ≡ Err left → parents_of bytes ≡ []
unfolding parents_at
parents_end bytes left is =
    parents_turns (length bytes) (suc (length bytes)) bytes (omega arith) (omega arith)
    ∙ ap (λ (r : Result (Hash × List ℕ) ℕ). with_parent r (parents_at (length bytes))) is

-- the links of a commit, by its tree and what stands behind that
abbrev commit_links : Hash → List ℕ → List Hash
commit_links tree rest = tree ∷ parents_of rest

commit_to : (ids : List Hash) (bytes : List ℕ) → IsHeaded (IsLine (codes "tree ")) commit_links ids bytes → SpellsCommit ids bytes
commit_to ids bytes h =
    let p = parents_sound (length h.rest) h.rest (omega arith) in
    record {
      tree = h.id;
      parents = parents_of h.rest;
      rest = p.rest;
      lawful = (h.has.lawful, p.lawful);
      written =
          h.parts ∙ ap (λ (t : List ℕ). t ++ h.rest) h.has.written ∙ ap (λ (t : List ℕ). header_line (codes "tree ") h.id ++ t) p.written
          ∙ sym (append_assoc (header_line (codes "tree ") h.id) (flat_map parent_line (parents_of h.rest)) p.rest);
      whole = p.whole;
      linked = h.linked;
    }

commit_from : (ids : List Hash) (bytes : List ℕ) → SpellsCommit ids bytes → IsHeaded (IsLine (codes "tree ")) commit_links ids bytes
commit_from ids bytes s =
    let tail = flat_map parent_line s.parents ++ s.rest in
    record {
      id = s.tree;
      front = header_line (codes "tree ") s.tree;
      rest = tail;
      has = record { lawful = s.lawful.0; written = refl };
      parts = s.written ∙ append_assoc (header_line (codes "tree ") s.tree) (flat_map parent_line s.parents) s.rest;
      linked = s.linked ∙ ap (λ (ids : List Hash). s.tree ∷ ids) (sym (parents_whole (length tail) s.parents s.rest s.lawful.1 s.whole (omega arith)));
    }

-- ---- tags

tag_to : (ids : List Hash) (bytes : List ℕ) → IsHeaded IsTagHead (λ id rest. id ∷ []) ids bytes → SpellsTag ids bytes
tag_to ids bytes h = record {
  id = h.id;
  kind = h.has.kind;
  rest = h.rest;
  lawful = h.has.lawful;
  written = h.parts ∙ ap (λ (t : List ℕ). t ++ h.rest) h.has.written;
  linked = h.linked;
}

tag_from : (ids : List Hash) (bytes : List ℕ) → SpellsTag ids bytes → IsHeaded IsTagHead (λ id rest. id ∷ []) ids bytes
tag_from ids bytes s = record {
  id = s.id;
  front = _;
  rest = s.rest;
  has = record { kind = s.kind; lawful = s.lawful; written = refl };
  parts = s.written;
  linked = s.linked;
}

-- ---- trees

-- an entry takes a byte at least
entry_shrinks : (bytes : List ℕ) (entry : Entry) (rest : List ℕ) → entry_at bytes ≡ Ok (entry, rest) → length rest < length bytes
entry_shrinks bytes entry rest is =
    let b = entry_reader.sound bytes entry rest is in
    omega (arith, ap length b.parts, length-append b.front rest, ap length b.has.written, length-append (entry.mode ++ 32 ∷ entry.name) (0 ∷ entry.id.0))

-- an entry, and what is read behind it
abbrev pub after_entry : Result (Entry × List ℕ) ℕ → (List ℕ → Result (List Hash) ℕ) → Result (List Hash) ℕ
after_entry entry more = and_then entry (λ e. and_then (more e.1) (λ ids. Ok (cons_option (link_of e.0) ids)))

-- the link of an entry that was read
abbrev link_read : Result (Entry × List ℕ) ℕ → Result (Option Hash × List ℕ) ℕ
link_read entry = and_then entry (λ e. Ok (link_of e.0, e.1))

-- one turn of the reader
tree_turn : (n : ℕ) (b : ℕ) (bytes : List ℕ) → tree_at (suc n) (b ∷ bytes) ≡ after_entry (entry_at (b ∷ bytes)) (tree_at n)
unfolding tree_at
tree_turn n b bytes = by (entry_at (b ∷ bytes))
  where
    by : (r : Result (Entry × List ℕ) ℕ)
        → and_then (link_read r) (λ link. and_then (tree_at n link.1) (λ ids. Ok (cons_option link.0 ids))) ≡ after_entry r (tree_at n)
    by (Ok e) = refl
    by (Err left) = refl

-- how many turns it may take is no matter, where they are enough
tree_turns : (n m : ℕ) (bytes : List ℕ) → length bytes ≤ n → length bytes ≤ m → tree_at n bytes ≡ tree_at m bytes
unfolding tree_at
tree_turns zero zero [] few also = refl
tree_turns zero (suc m) [] few also = refl
tree_turns (suc n) zero [] few also = refl
tree_turns (suc n) (suc m) [] few also = refl
tree_turns zero m (b ∷ bytes) few also = absurd (omega arith)
tree_turns (suc n) zero (b ∷ bytes) few also = absurd (omega arith)
tree_turns (suc n) (suc m) (b ∷ bytes) few also = tree_turn n b bytes ∙ by (entry_at (b ∷ bytes)) refl (tree_turns n m) ∙ sym (tree_turn m b bytes)
  where
    by : (r : Result (Entry × List ℕ) ℕ) → entry_at (b ∷ bytes) ≡ r
        → ((rest : List ℕ) → length rest ≤ n → length rest ≤ m → tree_at n rest ≡ tree_at m rest)
        → after_entry r (tree_at n) ≡ after_entry r (tree_at m)
    by (Err left) e known = refl
    by (Ok r) e known =
        let short = entry_shrinks (b ∷ bytes) r.0 r.1 e in
        ap (λ (t : Result (List Hash) ℕ). and_then t (λ ids. Ok (cons_option (link_of r.0) ids))) (known r.1 (omega arith) (omega arith))

-- a tree of some bytes is its first entry, and the tree behind that
pub tree_goes_on : (bytes : List ℕ) → 0 < length bytes → tree_of bytes ≡ after_entry (entry_at bytes) tree_of
tree_goes_on [] some = absurd (omega arith)
tree_goes_on (b ∷ bytes) some = tree_turn (length bytes) b bytes ∙ by (entry_at (b ∷ bytes)) refl
  where
    by : (r : Result (Entry × List ℕ) ℕ) → entry_at (b ∷ bytes) ≡ r → after_entry r (tree_at (length bytes)) ≡ after_entry r tree_of
    by (Err left) e = refl
    by (Ok r) e =
        let short = entry_shrinks (b ∷ bytes) r.0 r.1 e in
        ap (λ (t : Result (List Hash) ℕ). and_then t (λ ids. Ok (cons_option (link_of r.0) ids))) (tree_turns (length bytes) (length r.1) r.1 (omega arith) (omega arith))

-- nothing is a tree without entries
pub tree_of-nil : tree_of [] ≡ Ok []
unfolding tree_at
tree_of-nil = refl

-- where an entry is read, the tree is that entry and the tree behind it
tree_after : (bytes : List ℕ) (entry : Entry) (rest : List ℕ) → entry_at bytes ≡ Ok (entry, rest)
    → tree_of bytes ≡ and_then (tree_of rest) (λ ids. Ok (cons_option (link_of entry) ids))
tree_after bytes entry rest is =
    let short = entry_shrinks bytes entry rest is in
    tree_goes_on bytes (omega arith) ∙ ap (λ (r : Result (Entry × List ℕ) ℕ). after_entry r tree_of) is

-- and where none is read and there are bytes, there is no tree
tree_stops : (bytes : List ℕ) (left : ℕ) → 0 < length bytes → entry_at bytes ≡ Err left → tree_of bytes ≡ Err left
tree_stops bytes left some is = tree_goes_on bytes some ∙ ap (λ (r : Result (Entry × List ℕ) ℕ). after_entry r tree_of) is

-- a link that was read is that of an entry
link_entry : (bytes : List ℕ) (link : Option Hash) (rest : List ℕ) → link_at bytes ≡ Ok (link, rest)
    → (entry : Entry) × (entry_at bytes ≡ Ok (entry, rest)) × (link_of entry ≡ link)
link_entry bytes link rest is = by (entry_at bytes) refl is
  where
    by : (r : Result (Entry × List ℕ) ℕ) → entry_at bytes ≡ r → link_read r ≡ Ok (link, rest)
        → (entry : Entry) × (entry_at bytes ≡ Ok (entry, rest)) × (link_of entry ≡ link)
    by (Err left) e is = absurd cc
    by (Ok r) e is =
        let same = same_read (link_of r.0) link r.1 rest is in
        (r.0, e ∙ ap (λ (t : List ℕ). let x : Result (Entry × List ℕ) ℕ = Ok (r.0, t) in x) same.1, same.0)

-- where a link is read, the links are that one, if it is there, and those behind it
pub links_more : (bytes : List ℕ) (link : Option Hash) (rest : List ℕ) → link_at bytes ≡ Ok (link, rest)
    → (tree_of bytes ≡ and_then (tree_of rest) (λ ids. Ok (cons_option link ids))) × (length rest < length bytes)
links_more bytes link rest is =
    let found = link_entry bytes link rest is in (
      tree_after bytes found.0 rest found.1 ∙ ap (λ (l : Option Hash). and_then (tree_of rest) (λ ids. Ok (cons_option l ids))) found.2,
      entry_shrinks bytes found.0 rest found.1,
    )

-- where none is read, there are none
pub links_stop : (bytes : List ℕ) (left : ℕ) → 0 < length bytes → link_at bytes ≡ Err left → tree_of bytes ≡ Err left
links_stop bytes left some is = by (entry_at bytes) refl is
  where
    by : (r : Result (Entry × List ℕ) ℕ) → entry_at bytes ≡ r → link_read r ≡ Err left → tree_of bytes ≡ Err left
    by (Ok r) e is = absurd cc
    by (Err early) e is = tree_stops bytes early some e ∙ ap (λ (l : ℕ). let x : Result (List Hash) ℕ = Err l in x) (ap left_of is)

-- an entry before a tree
spells-more : (entry : Entry) (ids : List Hash) (rest : List ℕ) → IsEntry entry → SpellsTree ids rest
    → SpellsTree (cons_option (link_of entry) ids) (entry_text entry ++ rest)
spells-more entry ids rest lawful s = record {
  entries = entry ∷ s.entries;
  lawful = (lawful, s.lawful);
  written = ap (λ (t : List ℕ). entry_text entry ++ t) s.written;
  linked = ap (cons_option (link_of entry)) s.linked;
}

tree_sound : (n : ℕ) (bytes : List ℕ) → length bytes ≤ n → (ids : List Hash) → tree_of bytes ≡ Ok ids → SpellsTree ids bytes
tree_sound n [] few ids is = record { entries = []; lawful = tt; written = refl; linked = sym (same_links [] ids (sym tree_of-nil ∙ is)) }
tree_sound zero (b ∷ bytes) few ids is = absurd (omega arith)
tree_sound (suc n) (b ∷ bytes) few ids is = by (entry_at (b ∷ bytes)) refl (tree_sound n)
  where
    more : (entry : Entry) (rest : List ℕ) (t : Result (List Hash) ℕ) → entry_at (b ∷ bytes) ≡ Ok (entry, rest) → tree_of rest ≡ t
        → ((ids : List Hash) → tree_of rest ≡ Ok ids → SpellsTree ids rest) → and_then t (λ ids. Ok (cons_option (link_of entry) ids)) ≡ Ok ids → SpellsTree ids (b ∷ bytes)
    more entry rest (Err left) e f known is = absurd cc
    more entry rest (Ok later) e f known is =
        let first = entry_reader.sound (b ∷ bytes) entry rest e in
        let s = spells-more entry later rest first.has.lawful (known later f) in
        let text : b ∷ bytes ≡ entry_text entry ++ rest = first.parts ∙ ap (λ (t : List ℕ). t ++ rest) first.has.written in
        subst (λ (t : List ℕ). SpellsTree ids t) (sym text) (subst (λ (i : List Hash). SpellsTree i (entry_text entry ++ rest)) (same_links (cons_option (link_of entry) later) ids is) s)

    by : (r : Result (Entry × List ℕ) ℕ) → entry_at (b ∷ bytes) ≡ r
        → ((rest : List ℕ) → length rest ≤ n → (ids : List Hash) → tree_of rest ≡ Ok ids → SpellsTree ids rest)
        → SpellsTree ids (b ∷ bytes)
    by (Err left) e known = let none = tree_stops (b ∷ bytes) left (omega arith) e in absurd cc
    by (Ok r) e known =
        let short = entry_shrinks (b ∷ bytes) r.0 r.1 e in
        more r.0 r.1 (tree_of r.1) e refl (known r.1 (omega arith)) (sym (tree_after (b ∷ bytes) r.0 r.1 e) ∙ is)

tree_whole : (entries : List Entry) → AllByRecursion IsEntry entries → tree_of (flat_map entry_text entries) ≡ Ok (filter_map link_of entries)
tree_whole [] lawful = tree_of-nil
tree_whole (entry ∷ entries) lawful =
    let rest = flat_map entry_text entries in
    let first : entry_at (entry_text entry ++ rest) ≡ Ok (entry, rest) = entry_reader.whole entry (entry_text entry) rest (record { lawful = lawful.0; written = refl }) in
    tree_after (entry_text entry ++ rest) entry rest first
    ∙ ap (λ (t : Result (List Hash) ℕ). and_then t (λ ids. Ok (cons_option (link_of entry) ids))) (tree_whole entries lawful.1)

-- what breaks a tree
abbrev TreeBreaks : List ℕ → ℕ → Type 0
TreeBreaks bytes left = Breaks (Some_of SpellsTree) tree_of bytes left

-- an entry before a broken tree
breaks-more : (entry : Entry) (rest : List ℕ) (left : ℕ) → IsEntry entry → TreeBreaks rest left → TreeBreaks (entry_text entry ++ rest) left
breaks-more entry rest left lawful b = record {
  front = entry_text entry ++ b.front;
  back = b.back;
  parts = ap (λ (t : List ℕ). entry_text entry ++ t) b.parts ∙ sym (append_assoc (entry_text entry) b.front b.back);
  size = b.size;
  more = b.more;
  fits = b.fits;
  goes = (
    cons_option (link_of entry) b.goes.0,
    subst (SpellsTree (cons_option (link_of entry) b.goes.0)) (sym (append_assoc (entry_text entry) b.front b.more)) (spells-more entry b.goes.0 (b.front ++ b.more) lawful b.goes.1),
  );
  stops = λ c after other e.
      let none = b.stops c after other e in
      let tail = b.front ++ c ∷ other in
      let first : entry_at (entry_text entry ++ tail) ≡ Ok (entry, tail) = entry_reader.whole entry (entry_text entry) tail (record { lawful = lawful; written = refl }) in
      record {
        left = none.left;
        is = ap tree_of (append_assoc (entry_text entry) b.front (c ∷ other)) ∙ tree_after (entry_text entry ++ tail) entry tail first
            ∙ ap (λ (t : Result (List Hash) ℕ). and_then t (λ ids. Ok (cons_option (link_of entry) ids))) none.is;
      };
}

-- a tree whose first entry is broken
breaks-first : (bytes : List ℕ) (left : ℕ) → entry_at bytes ≡ Err left → TreeBreaks bytes left
breaks-first bytes left is =
    let b = entry_reader.fault bytes left is in
    let entry = b.goes.0 in
    let text = b.goes.1 in
    let alone : SpellsTree [] [] = record { entries = []; lawful = tt; written = refl; linked = refl } in
    record {
      front = b.front;
      back = b.back;
      parts = b.parts;
      size = b.size;
      more = b.more;
      fits = b.fits;
      goes = (
        cons_option (link_of entry) [],
        subst (SpellsTree (cons_option (link_of entry) [])) (append-nil (entry_text entry) ∙ sym text.written) (spells-more entry [] [] text.lawful alone),
      );
      stops = λ c after other e.
          let none = b.stops c after other e in
          record { left = none.left; is = tree_stops (b.front ++ c ∷ other) none.left (omega (arith, length-append b.front (c ∷ other))) none.is };
    }

tree_fault : (n : ℕ) (bytes : List ℕ) → length bytes ≤ n → (left : ℕ) → tree_of bytes ≡ Err left → TreeBreaks bytes left
tree_fault n [] few left is = let none = tree_of-nil in absurd cc
tree_fault zero (b ∷ bytes) few left is = absurd (omega arith)
tree_fault (suc n) (b ∷ bytes) few left is = by (entry_at (b ∷ bytes)) refl (tree_fault n)
  where
    more : (entry : Entry) (rest : List ℕ) (t : Result (List Hash) ℕ) → entry_at (b ∷ bytes) ≡ Ok (entry, rest) → tree_of rest ≡ t
        → ((left : ℕ) → tree_of rest ≡ Err left → TreeBreaks rest left) → and_then t (λ ids. Ok (cons_option (link_of entry) ids)) ≡ Err left → TreeBreaks (b ∷ bytes) left
    more entry rest (Ok ids) e f known is = absurd cc
    more entry rest (Err later) e f known is =
        let first = entry_reader.sound (b ∷ bytes) entry rest e in
        let broken = breaks-more entry rest later first.has.lawful (known later f) in
        let text : b ∷ bytes ≡ entry_text entry ++ rest = first.parts ∙ ap (λ (t : List ℕ). t ++ rest) first.has.written in
        subst (λ (t : List ℕ). TreeBreaks t left) (sym text) (subst (TreeBreaks (entry_text entry ++ rest)) (ap left_of is) broken)

    by : (r : Result (Entry × List ℕ) ℕ) → entry_at (b ∷ bytes) ≡ r
        → ((rest : List ℕ) → length rest ≤ n → (left : ℕ) → tree_of rest ≡ Err left → TreeBreaks rest left) → TreeBreaks (b ∷ bytes) left
    by (Err early) e known = subst (TreeBreaks (b ∷ bytes)) (ap left_of (sym (tree_stops (b ∷ bytes) early (omega arith) e) ∙ is)) (breaks-first (b ∷ bytes) early e)
    by (Ok r) e known =
        let short = entry_shrinks (b ∷ bytes) r.0 r.1 e in
        more r.0 r.1 (tree_of r.1) e refl (known r.1 (omega arith)) (sym (tree_after (b ∷ bytes) r.0 r.1 e) ∙ is)

-- ---- all kinds

pub kind_reader : (kind : Kind) → IsWhole (Spells kind) (links_at kind)
unfolding links_at
kind_reader Commit = headed_reader (IsLine (codes "tree ")) (line_at (codes "tree ")) (line_reader (codes "tree ") refl) commit_links SpellsCommit commit_to commit_from
kind_reader Tree = record {
  sound = λ bytes ids is. tree_sound (length bytes) bytes (omega arith) ids is;
  whole = λ ids bytes s. ap tree_of s.written ∙ tree_whole s.entries s.lawful ∙ ap (λ (x : List Hash). let r : Result (List Hash) ℕ = Ok x in r) (sym s.linked);
  fault = λ bytes left is. tree_fault (length bytes) bytes (omega arith) left is;
}
kind_reader Blob = record {
  sound = λ bytes ids is. sym (same_links [] ids is);
  whole = λ ids bytes none. ap (λ (x : List Hash). let r : Result (List Hash) ℕ = Ok x in r) (sym none);
  fault = λ bytes left is. absurd cc;
}
kind_reader Tag = headed_reader IsTagHead tag_at tag_reader (λ id rest. id ∷ []) SpellsTag tag_to tag_from

-- no more bytes are left than there are
pub left_within : (kind : Kind) (content : List ℕ) (left : ℕ) → links_at kind content ≡ Err left → left ≤ length content
left_within kind content left is =
    let b = (kind_reader kind).fault content left is in
    omega (arith, ap length b.parts, length-append b.front b.back, b.size)
