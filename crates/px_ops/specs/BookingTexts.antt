-- The texts of what is booked.
use Rattle.std.specs.Prelude.{ℕ, List, [], ◌∷◌, ◌++◌, codes, decimal}
use Rattle.std.specs.List.{flat_map}
use Rattle.px_ops.specs.declared.booking.BookRow.{BookRow}
use Rattle.px_ops.specs.declared.booking.Booking.{Booking}
use Rattle.px_ops.specs.declared.booking.Booking.TheVariants.{Absent, At, Doubt}
use Rattle.px_ops.specs.declared.push.Begun.{Begun}

-- items, each after a space
abbrev pub each_after_space : {A : Type 0} → (A → List ℕ) → List A → List ℕ
each_after_space text items = flat_map (λ item. 32 ∷ text item) items

-- names with a space between each two, or '-' for none
abbrev pub names_text : List (List ℕ) → List ℕ
names_text [] = codes "-"
names_text (name ∷ names) = name ++ each_after_space (λ name. name) names

-- what is booked of a replica
abbrev pub booking_text : Booking → List ℕ
booking_text Absent = codes "absent"
booking_text (At generation) = codes "at:" ++ decimal generation.0
booking_text (Doubt lease was due) = codes "doubt:" ++ decimal lease
    ++ codes ":" ++ decimal was.0 ++ codes ":" ++ decimal due.0

-- a storage, and what is booked of its replica
abbrev pub row_text : BookRow → List ℕ
row_text row = row.name ++ codes "=" ++ booking_text row.booking

-- what is booked of a repository
abbrev pub books_text : ℕ → List BookRow → List ℕ
books_text newest rows = codes "newest " ++ decimal newest ++ each_after_space row_text rows

-- a repository that was put on record
abbrev pub created_text : ℕ → ℕ → List (List ℕ) → List ℕ
created_text repo lease assigned = codes "created " ++ decimal repo
    ++ codes " lease " ++ decimal lease ++ codes " assigned " ++ names_text assigned

-- a push that has begun
abbrev pub begun_text : Begun → List ℕ
begun_text begun = codes "begun " ++ decimal begun.tx.0 ++ codes " lease " ++ decimal begun.lease
    ++ codes " gen " ++ decimal begun.generation.0
    ++ codes " members " ++ names_text begun.members
    ++ codes " targets " ++ names_text begun.targets
