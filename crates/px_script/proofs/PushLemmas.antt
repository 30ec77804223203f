-- Updates and objects as words: each is read back from its word, and what is read as one is its word.
use Rattle.std.proofs.Common.{◌≡◌, ◌+◌, ◌++◌, ◌==◌, inl, inr, ℕ, List, [], ◌∷◌, length, map, get_or, Bool, true, false, cond, nat_le, Option, Some, None, Result, Ok, Err, arith, codes, refl, ap, sym, ◌∙◌, subst}
use Rattle.std.specs.List.{after_first, before_first, list_all, position_or_len, AllByRecursion}
use Rattle.std.specs.Result.{result_ok}
use Rattle.std.specs.Str.{bytes_eq}
use Rattle.std.proofs.lemmas.Bool.{cases_lt, false_from_ne_true, le-leb, leb-true}
use Rattle.std.proofs.lemmas.List.{drop_all, take_all}
use Rattle.std.proofs.lemmas.List.Sums.{list_all-from_AllPass, AllPass-from_list_all, passes_at_first, split_at_first}
use Rattle.std.proofs.lemmas.Option.{cond_some}
use Rattle.std.proofs.lemmas.Slice.Eq.{bytes_eq-Decides}
use Rattle.hex.specs.Hex.{decode_of, encode_lower, IsBytes}
use Rattle.hex.specs.declared.error.FromHexError.{FromHexError}
use Rattle.hex.proofs.HexLemmas.{decode_of-encode_lower, decode_of-ok, decode_of-same}
use Rattle.object_format.specs.Name.{kind_word}
use Rattle.px_base.specs.Hash.{hash_of, hash_text, is_hex_digit}
use Rattle.px_base.specs.Object.{GitObject}
use Rattle.px_base.specs.Update.{AreUpdates, IsUpdate}
use Rattle.px_base.specs.declared.hash.Hash.{Hash}
use Rattle.px_base.specs.declared.kind.Kind.{Kind}
use Rattle.px_base.specs.declared.kind.Kind.TheVariants.{Blob, Commit, Tag, Tree}
use Rattle.px_base.specs.declared.push.Push.{Push}
use Rattle.px_base.specs.declared.push.Update.{Update}
use Rattle.px_base.proofs.HexText.{bytes_of, digits_pass, hash_of-hash_text, hash_of-some}
use Rattle.px_script.specs.Names.{ref_of}
use Rattle.px_script.specs.PushSpelling.{ArePushed, IsLawfulObject, IsLawfulPush, object_word, update_word}
use Rattle.px_script.specs.PushWords.{content_of, is_with, kind_of, object_from, object_of, pushed_from, pushed_of, update_from, update_of}
use Rattle.px_script.specs.Words.{cut_of, each_of, IsCutAt}
use Rattle.px_script.proofs.CutLemmas.{after_first-joined, after_first-none, after_first-other, before_first-joined, before_first-none, before_first-other, cut_of-at, cut_of-joined, cut_of-some}
use Rattle.px_script.proofs.EachLemmas.{after_these, after_these-more, each_of-some, each_of-words, whole-each}
use Rattle.px_script.proofs.NameLemmas.{ref_of-name, ref_of-some, whole-hash, whole-ref}
use Rattle.px_script.proofs.WordLemmas.{each-append, IsWhole, some_same, whole-passes, whole-text}

-- the update between two objects, of a reference
abbrev between : List ℕ → List ℕ → List ℕ → Option Update
between old new name = update_from (hash_of old) (hash_of new) (ref_of name)

-- the same, where the second object and the reference are one text
abbrev from_old : List ℕ → List ℕ → Option Update
from_old old rest = cut_of (between old) rest

-- an update is read back from its word
pub update_of-update_word : (update : Update) → IsUpdate update → update_of (update_word update) ≡ Some update
update_of-update_word update h =
    let old = hash_text update.old in
    let new = hash_text update.new in
    cut_of-joined from_old old (new ++ 58 ∷ update.name) (whole-hash 58 refl update.old h.old)
    ∙ cut_of-joined (between old) new update.name (whole-hash 58 refl update.new h.new)
    ∙ rw (hash_of-hash_text update.old h.old, hash_of-hash_text update.new h.new, ref_of-name update.name h.name) refl

-- the parts of an update that is read are lawful, and their texts are its word
update_from-some : (old new name : List ℕ) (from to : Option Hash) (ref : Option (List ℕ)) (update : Update)
    → hash_of old ≡ from → hash_of new ≡ to → ref_of name ≡ ref → update_from from to ref ≡ Some update
    → IsUpdate update × (update_word update ≡ old ++ 58 ∷ (new ++ 58 ∷ name))
update_from-some old new name None to ref update o n r is = cc
update_from-some old new name (Some from) None ref update o n r is = cc
update_from-some old new name (Some from) (Some to) None update o n r is = cc
update_from-some old new name (Some from) (Some to) (Some ref) update o n r is =
    let first = hash_of-some old from o in
    let second = hash_of-some new to n in
    let third = ref_of-some name ref r in
    let made : Update = record { old = from; new = to; name = ref } in
    let same : made ≡ update = some_same is in
    let lawful : IsUpdate made = record { old = first.0; new = second.0; name = third.0 } in (
      subst (λ (u : Update). IsUpdate u) same lawful,
      ap update_word (sym same)
          ∙ ap (λ (t : List ℕ). t ++ 58 ∷ (hash_text to ++ 58 ∷ ref)) first.1
          ∙ ap (λ (t : List ℕ). old ++ 58 ∷ (t ++ 58 ∷ ref)) second.1
          ∙ ap (λ (t : List ℕ). old ++ 58 ∷ (new ++ 58 ∷ t)) third.1,
    )

-- what is read as an update is its word
pub update_of-some : (word : List ℕ) (update : Update) → update_of word ≡ Some update → IsUpdate update × (update_word update ≡ word)
update_of-some word update is =
    let outer = cut_of-some from_old word update is in
    let inner = cut_of-some (between outer.0) outer.1 update outer.3 in
    let read = update_from-some outer.0 inner.0 inner.1 _ _ _ update refl refl refl inner.3 in
    (read.0, read.1 ∙ sym (outer.2 ∙ ap (λ (rest : List ℕ). outer.0 ++ 58 ∷ rest) inner.2))

-- no byte of an update's word is a space
pub whole-update : (update : Update) → IsUpdate update → IsWhole 32 (update_word update)
whole-update update h =
    each-append (λ b. (b == 32) ≡ false) (hash_text update.old) (58 ∷ (hash_text update.new ++ 58 ∷ update.name)) (whole-hash 32 refl update.old h.old)
    (refl, each-append (λ b. (b == 32) ≡ false) (hash_text update.new) (58 ∷ update.name) (whole-hash 32 refl update.new h.new) (refl, whole-ref update.name h.name))

-- no update's word is 'with'
update_is_not_with : (update : Update) → IsUpdate update → is_with (update_word update) ≡ false
update_is_not_with update h =
    false_from_ne_true (is_with (update_word update)) (λ t.
    let same : update_word update ≡ codes "with" = (bytes_eq-Decides (update_word update) (codes "with")).0 t in
    let none : None ≡ Some update = ap update_of (sym same) ∙ update_of-update_word update h in absurd (cc))

-- none of a list of updates is
updates_are_not_with : (updates : List Update) → AreUpdates updates → AllByRecursion (λ word. is_with word ≡ false) (map update_word updates)
updates_are_not_with [] each = tt
updates_are_not_with (update ∷ updates) each = (update_is_not_with update each.0, updates_are_not_with updates each.1)

-- a kind is read back from its word
kind_of-word : (kind : Kind) → kind_of (kind_word kind) ≡ Some kind
kind_of-word Blob = refl
kind_of-word Tree = refl
kind_of-word Commit = refl
kind_of-word Tag = refl

-- one kind, or others
one_kind : (one : Kind) (word : List ℕ) (kind : Kind) (others : Option Kind) → (others ≡ Some kind → kind_word kind ≡ word)
    → cond (bytes_eq word (kind_word one)) (Some one) others ≡ Some kind → kind_word kind ≡ word
one_kind one word kind others else is = by (bytes_eq word (kind_word one)) refl is
  where
    by : (t : Bool) → bytes_eq word (kind_word one) ≡ t → cond t (Some one) others ≡ Some kind → kind_word kind ≡ word
    by true same is = ap kind_word (sym (some_same is)) ∙ sym ((bytes_eq-Decides word (kind_word one)).0 same)
    by false other is = else is

-- a word that is taken as a kind is the word of it
kind_of-some : (word : List ℕ) (kind : Kind) → kind_of word ≡ Some kind → kind_word kind ≡ word
kind_of-some word kind is =
    one_kind Blob word kind _ (one_kind Tree word kind _ (one_kind Commit word kind _ (one_kind Tag word kind _ (λ none. cc)))) is

-- no byte of a kind's word is the mark, where it has none
whole-kind : (mark : ℕ) (kind : Kind) → list_all (λ b. nat_le 97 b) (kind_word kind) ≡ true → nat_le 97 mark ≡ false → IsWhole mark (kind_word kind)
whole-kind mark kind letters other = whole-passes (λ b. nat_le 97 b) mark other (kind_word kind) letters

-- each byte of it is a letter
kind_is_letters : (kind : Kind) → list_all (λ b. nat_le 97 b) (kind_word kind) ≡ true
kind_is_letters Blob = refl
kind_is_letters Tree = refl
kind_is_letters Commit = refl
kind_is_letters Tag = refl

-- bytes are read back from their digits
content_of-digits : (content : List ℕ) → IsBytes content → content_of (encode_lower content) ≡ Some content
content_of-digits content h =
    let all : list_all is_hex_digit (encode_lower content) ≡ true = list_all-from_AllPass is_hex_digit (encode_lower content) (digits_pass content h) in
    let read : decode_of (encode_lower content) ≡ Ok content = decode_of-encode_lower content h in
    rw (all, read) refl

-- digits that are decoded are those of the bytes
decoded : (word content : List ℕ) → list_all is_hex_digit word ≡ true → decode_of word ≡ Ok content → IsBytes content × (encode_lower content ≡ word)
decoded word content all is =
    let known = decode_of-ok word content is in
    let bytes = bytes_of word known.0 (AllPass-from_list_all is_hex_digit word all) in
    let same : content ≡ bytes.0 = decode_of-same word content bytes.0 is (ap decode_of (sym bytes.1) ∙ decode_of-encode_lower bytes.0 bytes.2) in
    (known.3, ap encode_lower same ∙ bytes.1)

-- what is read as the digits of bytes is theirs
content_of-some : (word content : List ℕ) → content_of word ≡ Some content → IsBytes content × (encode_lower content ≡ word)
content_of-some word content is = by (list_all is_hex_digit word) (decode_of word) refl refl is
  where
    by : (t : Bool) (read : Result (List ℕ) FromHexError) → list_all is_hex_digit word ≡ t → decode_of word ≡ read
        → cond t (result_ok read) None ≡ Some content → IsBytes content × (encode_lower content ≡ word)
    by false read other r is = cc
    by true (Err e) all r is = cc
    by true (Ok bytes) all r is =
        let same : bytes ≡ content = some_same is in
        decoded word content all (r ∙ ap (λ (b : List ℕ). let o : Result (List ℕ) FromHexError = Ok b in o) same)

-- no byte of the digits of bytes is a mark that is none
whole-content : (mark : ℕ) → is_hex_digit mark ≡ false → (content : List ℕ) → IsBytes content → IsWhole mark (encode_lower content)
whole-content mark other content h =
    whole-passes is_hex_digit mark other (encode_lower content) (list_all-from_AllPass is_hex_digit (encode_lower content) (digits_pass content h))

-- the object of two texts
abbrev object_between : List ℕ → List ℕ → Option GitObject
object_between kind digits = object_from (kind_of kind) (content_of digits)

-- an object is read back from its word
pub object_of-object_word : (object : GitObject) → IsLawfulObject object → object_of (object_word object) ≡ Some object
object_of-object_word object h =
    cut_of-joined object_between (kind_word object.kind) (encode_lower object.content) (whole-kind 58 object.kind (kind_is_letters object.kind) refl)
    ∙ rw (kind_of-word object.kind, content_of-digits object.content h.bytes, le-leb (length object.content) 8388608 h.small) refl

-- the parts of an object that is read are lawful, and their texts are its word
object_from-some : (word digits : List ℕ) (kind : Option Kind) (content : Option (List ℕ)) (object : GitObject)
    → kind_of word ≡ kind → content_of digits ≡ content → object_from kind content ≡ Some object
    → IsLawfulObject object × (object_word object ≡ word ++ 58 ∷ digits)
object_from-some word digits None content object k c is = cc
object_from-some word digits (Some kind) None object k c is = cc
object_from-some word digits (Some kind) (Some content) object k c is =
    let bytes = content_of-some digits content c in
    let made : GitObject = record { kind = kind; content = content } in
    let kept = cond_some (nat_le (length content) 8388608) made object is in
    let lawful : IsLawfulObject made = record { small = leb-true (length content) 8388608 kept.0; bytes = bytes.0 } in (
      subst (λ (o : GitObject). IsLawfulObject o) kept.1 lawful,
      ap object_word (sym kept.1)
          ∙ ap (λ (t : List ℕ). t ++ 58 ∷ encode_lower content) (kind_of-some word kind k)
          ∙ ap (λ (t : List ℕ). word ++ 58 ∷ t) bytes.1,
    )

-- what is read as an object is its word
pub object_of-some : (word : List ℕ) (object : GitObject) → object_of word ≡ Some object → IsLawfulObject object × (object_word object ≡ word)
object_of-some word object is =
    let parts = cut_of-some object_between word object is in
    let read = object_from-some parts.0 parts.1 _ _ object refl refl parts.3 in
    (read.0, read.1 ∙ sym parts.2)

-- no byte of an object's word is a space
pub whole-object : (object : GitObject) → IsLawfulObject object → IsWhole 32 (object_word object)
whole-object object h =
    each-append (λ b. (b == 32) ≡ false) (kind_word object.kind) (58 ∷ encode_lower object.content) (whole-kind 32 object.kind (kind_is_letters object.kind) refl)
    (refl, whole-content 32 refl object.content h.bytes)

-- no word of a push has a space
pub whole-pushed : (push : Push) (words : List (List ℕ)) → IsLawfulPush push → ArePushed push words → AllByRecursion (IsWhole 32) words
whole-pushed push words h (inl full) =
    subst (λ (ws : List (List ℕ)). AllByRecursion (IsWhole 32) ws) (sym full)
    (each-append (IsWhole 32) (map update_word push.updates) (codes "with" ∷ map object_word push.objects)
    (whole-each update_of IsUpdate update_word whole-update push.updates h.updates)
    (whole-text 32 (codes "with") refl, whole-each object_of IsLawfulObject object_word whole-object push.objects h.objects))
whole-pushed push words h (inr short) =
    subst (λ (ws : List (List ℕ)). AllByRecursion (IsWhole 32) ws) (sym short.1)
    (whole-each update_of IsUpdate update_word whole-update push.updates h.updates)

-- a push is read back from its words
pub pushed_of-words : (push : Push) (words : List (List ℕ)) → IsLawfulPush push → ArePushed push words → pushed_of words ≡ Some push
pushed_of-words push words h (inl full) =
    let before : before_first is_with words ≡ map update_word push.updates =
    ap (before_first is_with) full ∙ before_first-joined is_with (map update_word push.updates) (codes "with") (map object_word push.objects) (updates_are_not_with push.updates h.updates) refl in
    let after : after_first is_with words ≡ map object_word push.objects =
    ap (after_first is_with) full ∙ after_first-joined is_with (map update_word push.updates) (codes "with") (map object_word push.objects) (updates_are_not_with push.updates h.updates) refl in
    rw (before, after, each_of-words update_of IsUpdate update_word update_of-update_word push.updates h.updates, each_of-words object_of IsLawfulObject object_word object_of-object_word push.objects h.objects) refl
pushed_of-words push words h (inr short) =
    let before : before_first is_with words ≡ map update_word push.updates =
    ap (before_first is_with) short.1 ∙ before_first-none is_with (map update_word push.updates) (updates_are_not_with push.updates h.updates) in
    let after : after_first is_with words ≡ [] =
    ap (after_first is_with) short.1 ∙ after_first-none is_with (map update_word push.updates) (updates_are_not_with push.updates h.updates) in
    rw (before, after, each_of-words update_of IsUpdate update_word update_of-update_word push.updates h.updates)
    (ap (λ (objects : List GitObject). let p : Push = record { updates = push.updates; objects = objects } in Some p) (sym short.0))

-- a list without words has no objects
no_objects : (objects : List GitObject) → map object_word objects ≡ [] → objects ≡ []
no_objects [] none = refl
no_objects (object ∷ objects) none = cc

-- words that give the parts of a push before the first 'with' and behind it are its words
joined : (push : Push) (words : List (List ℕ)) → map update_word push.updates ≡ before_first is_with words → map object_word push.objects ≡ after_first is_with words
    → ArePushed push words
joined push words before after = elim (cases_lt (position_or_len is_with words) (length words)) [
  | inl within ↦
      let mark : get_or words (position_or_len is_with words) [] ≡ codes "with" = (bytes_eq-Decides _ (codes "with")).0 (passes_at_first is_with words [] within) in
      inl (split_at_first is_with words [] within
      ∙ ap (λ (w : List ℕ). before_first is_with words ++ w ∷ after_first is_with words) mark
      ∙ ap (λ (ws : List (List ℕ)). ws ++ codes "with" ∷ after_first is_with words) (sym before)
      ∙ ap (λ (ws : List (List ℕ)). map update_word push.updates ++ codes "with" ∷ ws) (sym after))
  | inr past ↦
      inr (
        no_objects push.objects (after ∙ drop_all (position_or_len is_with words + 1) words (omega (arith, past))),
        sym (before ∙ take_all (position_or_len is_with words) words past),
      )
]

-- what is read as a push is its words
pub pushed_of-some : (words : List (List ℕ)) (push : Push) → pushed_of words ≡ Some push → IsLawfulPush push × ArePushed push words
pushed_of-some words push is = by (each_of update_of (before_first is_with words)) (each_of object_of (after_first is_with words)) refl refl is
  where
    by : (updates : Option (List Update)) (objects : Option (List GitObject)) → each_of update_of (before_first is_with words) ≡ updates
        → each_of object_of (after_first is_with words) ≡ objects → pushed_from updates objects ≡ Some push → IsLawfulPush push × ArePushed push words
    by None objects u o is = cc
    by (Some updates) None u o is = cc
    by (Some updates) (Some objects) u o is =
        let first = each_of-some update_of IsUpdate update_word update_of-some (before_first is_with words) updates u in
        let second = each_of-some object_of IsLawfulObject object_word object_of-some (after_first is_with words) objects o in
        let made : Push = record { updates = updates; objects = objects } in
        let same : made ≡ push = some_same is in
        subst (λ (p : Push). IsLawfulPush p × ArePushed p words) same
        (record { updates = first.0; objects = second.0 }, joined made words first.1 second.1)

-- the bytes of digits alone, where they are read
pub content_read : (digits content : List ℕ) → list_all is_hex_digit digits ≡ true → decode_of digits ≡ Ok content → Some content ≡ content_of digits
content_read digits content all read = rw (all, read) refl

-- of an update whose second object is none, nothing is read
pub no_second_object : (word old rest new name : List ℕ) → IsCutAt 58 word old rest → IsCutAt 58 rest new name → hash_of new ≡ None → None ≡ update_of word
no_second_object word old rest new name first second none =
    sym (cut_of-at from_old word old rest first ∙ cut_of-at (between old) rest new name second ∙ no_to (hash_of old) (hash_of new) (ref_of name) none)
  where
    no_to : (from to : Option Hash) (ref : Option (List ℕ)) → to ≡ None → update_from from to ref ≡ None
    no_to None to ref n = refl
    no_to (Some from) None ref n = refl
    no_to (Some from) (Some to) ref n = cc

-- what stands before the first 'with' begins with a word that is another
pub before_with : (words rest : List (List ℕ)) (word : List ℕ) → words ≡ word ∷ rest → is_with word ≡ false → before_first is_with words ≡ word ∷ before_first is_with rest
before_with words rest word are other = ap (before_first is_with) are ∙ before_first-other is_with word rest other

-- and what stands after it is that after it among the others
pub after_with : (words rest : List (List ℕ)) (word : List ℕ) → words ≡ word ∷ rest → is_with word ≡ false → after_first is_with words ≡ after_first is_with rest
after_with words rest word are other = ap (after_first is_with) are ∙ after_first-other is_with word rest other

-- the updates so far and those that are still read before 'with', and what stands behind it, where the
-- next word is an update
pub one_more_update : (all : Option (List Update)) (behind : List (List ℕ)) (updates more : List Update) (words rest : List (List ℕ)) (word : List ℕ) (update : Update)
    → (all ≡ after_these updates (each_of update_of (before_first is_with words))) × (behind ≡ after_first is_with words)
    → words ≡ word ∷ rest → false ≡ is_with word → Some update ≡ update_of word → more ≡ updates ++ update ∷ []
    → (all ≡ after_these more (each_of update_of (before_first is_with rest))) × (behind ≡ after_first is_with rest)
one_more_update all behind updates more words rest word update so_far are other read added = (
  so_far.0
      ∙ ap (λ (ws : List (List ℕ)). after_these updates (each_of update_of ws)) (before_with words rest word are (sym other))
      ∙ after_these-more update_of updates word update (each_of update_of (before_first is_with rest)) (sym read)
      ∙ ap (λ (us : List Update). after_these us (each_of update_of (before_first is_with rest))) (sym added),
  so_far.1 ∙ after_with words rest word are (sym other),
)

-- nothing is read of all, where the next word is no update
pub no_update : (all : Option (List Update)) (updates : List Update) (words rest : List (List ℕ)) (word : List ℕ)
    → all ≡ after_these updates (each_of update_of (before_first is_with words)) → words ≡ word ∷ rest → false ≡ is_with word → None ≡ update_of word → None ≡ all
no_update all updates words rest word so_far are other read =
    sym (so_far ∙ ap (λ (ws : List (List ℕ)). after_these updates (each_of update_of ws)) (before_with words rest word are (sym other))
    ∙ rw (sym read) refl)
