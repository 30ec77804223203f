-- Rows that are all good can be read to their end, where what has been read can always take over one
-- good row more.
use Rattle.std.proofs.Common.{◌≡◌, ◌==◌, ◌<◌, ◌≤◌, ℕ, List, [], ◌∷◌, true, false, cond, Bool, Option, Some, None, refl, sym, ◌∙◌, subst, ⊎_elim, inr, arith}
use Rattle.std.proofs.Math.Path.{fun_ext}
use Rattle.std.specs.FinMap.{entries, entries_sorted, get, get-entries}
use Rattle.std.specs.FinMap.Entries.{find}
use Rattle.std.specs.Prelude.{nat_lt}
use Rattle.std.proofs.lemmas.Bool.{and_right, eqb-false, eqb-true, le-ltb, lt-ltb, ltb-false, ltb-true, or_from, or_left}
use Rattle.px_keeper.proofs.InOrder.{Entries, Left, here, is_next, left_before, left_then, read_before, read_table, table_of, tables_up}
use Rattle.px_keeper.proofs.ReadTables.{all_had, nothing_read, none_read}
use Rattle.px_keeper.specs.FirstBad.{AllGood}
use Rattle.px_keeper.specs.Keeper.{IsNext}
use Rattle.px_keeper.specs.Reading.{ReadTo, all_rows, is_read, no_rows, read_so_far}
use Rattle.px_keeper.specs.Row.{Rows, row_cmp, row_key}
use Rattle.px_keeper.specs.declared.row_key.RowKey.{RowKey}

-- what is there or not, behind tests of one answer
same_behind : (a b : Bool) (o : Option (List ℕ)) → ((value : List ℕ) → o ≡ Some value → a ≡ b)
    → cond a o None ≡ cond b o None
same_behind true true o same = refl
same_behind false false o same = refl
same_behind true false None same = refl
same_behind false true None same = refl
same_behind true false (Some value) same = absurd (let is = same value refl in cc)
same_behind false true (Some value) same = absurd (let is = same value refl in cc)

module _ (Good : Rows → RowKey → List ℕ → Type 0) (S : Type 0)
    (Has : S → (RowKey → Option (List ℕ)) → Type 0) (rows : Rows) where
  -- rows up to one place were read where the rows up to another are the same ones
  moved : (s : S) (table other : ℕ) (last least : Option (List ℕ))
      → ((q : RowKey) (value : List ℕ) → get rows q ≡ Some value
      → is_read other least q ≡ is_read table last q)
      → ReadTo Good (Has s) rows table last → ReadTo Good (Has s) rows other least
  moved s table other last least same reads = record {
    good = λ q value read there. reads.good q value (sym (same q value there) ∙ read) there;
    has = subst (Has s) (sym (fun_ext step)) reads.has;
  }
    where
      step : (q : RowKey) → read_so_far rows other least q ≡ read_so_far rows table last q
      step q = same_behind (is_read other least q) (is_read table last q) (get rows q) (same q)

  -- where none is left but of tables that are none, all were read
  done : (s : S) (table : ℕ) (last : Option (List ℕ)) (rest : Entries) → table < 256
      → ReadTo Good (Has s) rows table last → Left rows table last rest
      → ((q : RowKey) (value : List ℕ) → find row_cmp q rest ≡ Some value → 256 ≤ q.table)
      → Has s (all_rows rows)
  done s table last rest small reads left beyond = all_had Good (Has s) rows
      (moved s table 256 last None same reads)
    where
      same : (q : RowKey) (value : List ℕ) → get rows q ≡ Some value
          → is_read 256 None q ≡ is_read table last q
      same q value is = ⊎_elim
          (λ read. let up = read_table table last q read in
          or_left _ _ (lt-ltb q.table 256 (omega (arith, up, small))) ∙ sym read)
          (λ there. let far = beyond q value there in
          or_from _ _ (le-ltb q.table 256 far) (and_right _ _ refl)
          ∙ sym (left.unread q value there))
          (left.there q value is)

  module _ (all : AllGood Good rows)
      (take : (s : S) (table : ℕ) (last : Option (List ℕ)) (key value : List ℕ) → table < 256
      → ReadTo Good (Has s) rows table last → IsNext rows table last key value
      → Good rows (row_key table key) value
      → (then_ : S) × ReadTo Good (Has then_) rows table (Some key)) where
    -- the first row that is left is taken over, once its table is reached
    take_first : (s : S) (last : Option (List ℕ)) (row : RowKey) (value : List ℕ) (rest : Entries)
        → row.table < 256 → ReadTo Good (Has s) rows row.table last
        → Left rows row.table last ((row, value) ∷ rest)
        → (then_ : S) × ReadTo Good (Has then_) rows row.table (Some row.key)
    take_first s last row value rest small reads left =
        take s row.table last row.key value small reads (is_next rows row value rest last left)
        (all row value small (here rows row value rest row.table last left))

    -- from any place on, the rows that are left are read
    walk : (rest : Entries) (s : S) (table : ℕ) (last : Option (List ℕ)) → table < 256
        → ReadTo Good (Has s) rows table last → Left rows table last rest
        → (then_ : S) × Has then_ (all_rows rows)
    walk [] s table last small reads left =
        (s, done s table last [] small reads left (λ q value is. absurd (cc)))
    walk (e ∷ rest) s table last small reads left =
        at (nat_lt e.0.table 256) refl (e.0.table == table) refl (walk rest)
      where
        row : RowKey
        row = e.0

        at : (within : Bool) → nat_lt row.table 256 ≡ within → (same : Bool)
            → (row.table == table) ≡ same
            → ((s' : S) (t : ℕ) (l : Option (List ℕ)) → t < 256 → ReadTo Good (Has s') rows t l
            → Left rows t l rest → (then_ : S) × Has then_ (all_rows rows))
            → (then_ : S) × Has then_ (all_rows rows)
        at false far same is later = (
          s,
          done s table last (e ∷ rest) small reads left
              (λ q value found.
              let up = tables_up rows row e.1 rest left.sorted q value found in
              let beyond = ltb-false row.table 256 far in
              omega (arith, up, beyond)),
        )
        at true near true is later =
            let one : table ≡ row.table = sym (eqb-true row.table table is) in
            let here_reads = subst (λ (t : ℕ). ReadTo Good (Has s) rows t last) one reads in
            let here_left = subst (λ (t : ℕ). Left rows t last (e ∷ rest)) one left in
            let within = ltb-true row.table 256 near in
            let took = take_first s last row e.1 rest within here_reads here_left in
            later took.0 row.table (Some row.key) within took.1
            (left_then rows row e.1 rest last here_left)
        at true near false is later =
            let up = table_of rows row e.1 rest table last left in
            let apart = eqb-false row.table table is in
            let before : table < row.table = omega (arith, up, apart) in
            let here_reads = moved s table row.table last None
            (read_before rows row e.1 rest table last left before) reads in
            let here_left = left_before rows row e.1 rest table last left before in
            let within = ltb-true row.table 256 near in
            let took = take_first s None row e.1 rest within here_reads here_left in
            later took.0 row.table (Some row.key) within took.1
            (left_then rows row e.1 rest None here_left)

    -- so from the start on all are
    pub all_taken : (s : S) → Has s no_rows → (then_ : S) × Has then_ (all_rows rows)
    all_taken s nothing = walk (entries rows) s 0 None (omega arith)
        (record {
          good = λ q value read there. absurd (let not : is_read 0 None q ≡ false = none_read q in
              cc);
          has = subst (Has s) (nothing_read rows) nothing;
        })
        (record {
          there = λ q value is. inr (sym (get-entries rows q) ∙ is);
          hits = λ q value is. get-entries rows q ∙ is;
          unread = λ q value is. none_read q;
          sorted = entries_sorted rows;
        })
