-- What the reader computes of the words of a push: its updates, and its objects behind the word
-- 'with'.
use Rattle.std.specs.Prelude.{ℕ, List, length, Bool, nat_le, if◌then◌else◌, Option, Some, None, codes, option_and_then}
use Rattle.std.specs.List.{after_first, before_first, list_all}
use Rattle.std.specs.Result.{result_ok}
use Rattle.std.specs.Str.{bytes_eq}
use Rattle.hex.specs.Hex.{decode_of}
use Rattle.object_format.specs.Name.{kind_word}
use Rattle.px_base.specs.Hash.{hash_of, is_hex_digit}
use Rattle.px_base.specs.Object.{GitObject}
use Rattle.px_base.specs.declared.hash.Hash.{Hash}
use Rattle.px_base.specs.declared.kind.Kind.{Kind}
use Rattle.px_base.specs.declared.kind.Kind.TheVariants.{Blob, Commit, Tag, Tree}
use Rattle.px_base.specs.declared.push.Push.{Push}
use Rattle.px_base.specs.declared.push.Update.{Update}
use Rattle.px_script.specs.Names.{ref_of}
use Rattle.px_script.specs.Words.{cut_of, each_of}

-- an update of this reference, from one object to another
abbrev pub update_from : Option Hash → Option Hash → Option (List ℕ) → Option Update
update_from None new name = None
update_from (Some old) None name = None
update_from (Some old) (Some new) None = None
update_from (Some old) (Some new) (Some name) = Some (record { old = old; new = new; name = name })

-- an object's name, a colon, another, a colon, and the name of a reference
abbrev pub update_of : List ℕ → Option Update
update_of word =
    cut_of (λ old rest. cut_of (λ new name.
    update_from (hash_of old) (hash_of new) (ref_of name)) rest) word

-- one of the four kinds
abbrev pub kind_of : List ℕ → Option Kind
kind_of word =
    if bytes_eq word (kind_word Blob) then Some Blob
    else if bytes_eq word (kind_word Tree) then Some Tree
    else if bytes_eq word (kind_word Commit) then Some Commit
    else if bytes_eq word (kind_word Tag) then Some Tag
    else None

-- the bytes whose digits these are, where there are two for each
abbrev pub content_of : List ℕ → Option (List ℕ)
content_of word = if list_all is_hex_digit word then result_ok (decode_of word) else None

-- an object of this kind and this content, where that is small
abbrev pub small_object : Kind → List ℕ → Option GitObject
small_object kind content =
    if nat_le (length content) 8388608
    then Some (record { kind = kind; content = content })
    else None

-- the same, where there are a kind and a content
abbrev pub object_from : Option Kind → Option (List ℕ) → Option GitObject
object_from None content = None
object_from (Some kind) content = option_and_then (small_object kind) content

-- a kind, a colon, and the digits of a content
abbrev pub object_of : List ℕ → Option GitObject
object_of word = cut_of (λ kind digits. object_from (kind_of kind) (content_of digits)) word

-- the word between updates and objects
abbrev pub is_with : List ℕ → Bool
is_with word = bytes_eq word (codes "with")

-- a push of these updates and these objects
abbrev pub pushed_from : Option (List Update) → Option (List GitObject) → Option Push
pushed_from None objects = None
pushed_from (Some updates) None = None
pushed_from (Some updates) (Some objects) = Some (record { updates = updates; objects = objects })

-- an update each word before the first 'with', and an object each word behind it
abbrev pub pushed_of : List (List ℕ) → Option Push
pushed_of words =
    pushed_from (each_of update_of (before_first is_with words))
    (each_of object_of (after_first is_with words))
