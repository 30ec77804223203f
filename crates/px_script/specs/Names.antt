-- The names that lie on the heap, as the reader tests them: which texts are paths of repositories, and
-- which are names of references.
use Rattle.std.specs.Prelude.{ℕ, zero, suc, ◌+◌, List, length, drop, Bool, true, not, ◌&&◌, if◌then◌else◌, Option, Some, None, slice_get}
use Rattle.px_base.specs.RefName.{is_bad_place}
use Rattle.px_base.specs.RepoPath.{begins, is_bad_byte, is_bad_component}

-- no place before this one is bad
unfoldable pub all_good_before : (ℕ → Bool) → ℕ → Bool
all_good_before bad zero = true
all_good_before bad (suc at) = not (bad at) && all_good_before bad at

-- no byte of the text is bad in a path, and no bad component begins in it
abbrev pub is_repo_path : List ℕ → Bool
is_repo_path text =
    all_good_before (λ at. is_bad_byte at (slice_get text at)) (length text)
    && all_good_before (λ at. begins text at && is_bad_component (drop at text)) (length text + 1)

-- the path of a repository
abbrev pub path_of : List ℕ → Option (List ℕ)
path_of word = if is_repo_path word then Some word else None

-- no place of the text, up to its end, is bad in the name of a reference
abbrev pub is_ref_name : List ℕ → Bool
is_ref_name text =
    all_good_before (λ at. is_bad_place text at (slice_get text at)) (length text + 1)

-- the name of a reference
abbrev pub ref_of : List ℕ → Option (List ℕ)
ref_of word = if is_ref_name word then Some word else None
