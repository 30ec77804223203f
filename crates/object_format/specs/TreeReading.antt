-- What the readers of trees compute, from left to right. The rule of the form stands in Grammar.
use Rattle.std.specs.Prelude.{ℕ, zero, suc, ◌+◌, ◌==◌, ◌&&◌, not, nat_lt, Bool, List, [], ◌∷◌, length, take, drop, if◌then◌else◌, Option, Result, Ok, Err}
use Rattle.std.specs.List.{cons_option}
use Rattle.px_base.specs.declared.hash.Hash.{Hash}
use Rattle.object_format.specs.Grammar.{Entry, is_octal_digit, link_of}
use Rattle.object_format.specs.Reading.{and_then}

-- at least one byte that may stand in its place, from place k on, and the one that ends them
unfoldable pub until_at : (ℕ → ℕ → Bool) → ℕ → ℕ → List ℕ → Result (List ℕ × List ℕ) ℕ
until_at may stop k [] = Err 0
until_at may stop k (b ∷ bytes) =
    if may k b then and_then (until_at may stop (k + 1) bytes) (λ r. Ok (b ∷ r.0, r.1))
    else if b == stop && nat_lt 0 k then Ok ([], bytes)
    else Err (length (b ∷ bytes))

-- a mode has six octal digits at most
abbrev pub in_mode : ℕ → ℕ → Bool
in_mode k b = nat_lt k 6 && is_octal_digit b

-- a file name has no NUL
abbrev pub in_file_name : ℕ → ℕ → Bool
in_file_name k b = not (b == 0)

-- a mode and its space
abbrev pub mode_at : List ℕ → Result (List ℕ × List ℕ) ℕ
mode_at bytes = until_at in_mode 32 0 bytes

-- a file name and its NUL
abbrev pub file_name_at : List ℕ → Result (List ℕ × List ℕ) ℕ
file_name_at bytes = until_at in_file_name 0 0 bytes

-- the 20 bytes of a name
unfoldable pub id_at : List ℕ → Result (Hash × List ℕ) ℕ
id_at bytes =
    if nat_lt (length bytes) 20 then Err 0
    else Ok (record { 0 = take 20 bytes }, drop 20 bytes)

-- an entry of a tree
unfoldable pub entry_at : List ℕ → Result (Entry × List ℕ) ℕ
entry_at bytes =
    and_then (mode_at bytes) (λ mode.
    and_then (file_name_at mode.1) (λ name.
    and_then (id_at name.1) (λ id.
    Ok (record { mode = mode.0; name = name.0; id = id.0 }, id.1))))

-- the link of an entry, where it has one
abbrev pub link_at : List ℕ → Result (Option Hash × List ℕ) ℕ
link_at bytes = and_then (entry_at bytes) (λ entry. Ok (link_of entry.0, entry.1))

-- entries to the end
unfoldable pub tree_at : ℕ → List ℕ → Result (List Hash) ℕ
tree_at n [] = Ok []
tree_at zero (b ∷ bytes) = Err (length (b ∷ bytes))
tree_at (suc n) (b ∷ bytes) =
    and_then (link_at (b ∷ bytes)) (λ link.
    and_then (tree_at n link.1) (λ ids. Ok (cons_option link.0 ids)))

-- the same of all bytes
abbrev pub tree_of : List ℕ → Result (List Hash) ℕ
tree_of bytes = tree_at (length bytes) bytes
