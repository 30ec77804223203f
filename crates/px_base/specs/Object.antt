-- What is seen of a Git object.
use Rattle.std.specs.Prelude.{ℕ, ◌≤◌, List, length}
use Rattle.px_base.specs.declared.kind.Kind.{Kind}

-- its kind and its content
pub record GitObject : Type 0 where
  pub kind : Kind
  pub content : List ℕ

-- the content has at most 8 MiB
abbrev pub IsSmall : List ℕ → Type 0
IsSmall content = length content ≤ 8388608
