-- The hook text determines the list of updates.
use Rattle.std.proofs.Common.{◌≡◌, ◌≢◌, ℕ, ◌+◌, List, [], ◌∷◌, ◌++◌, Bool, true, false, ◌||◌, Some, arith, ap, sym, ◌∙◌, refl, suc, length, slice_get, take, append_assoc}
use Rattle.std.specs.List.{AllByRecursion}
use Rattle.std.proofs.lemmas.Option.{slice_get_within}
use Rattle.px_base.specs.Hash.{IsHash, hash_of, hash_text}
use Rattle.px_base.specs.RefName.{IsBadAt, IsRefName, follows_badly, is_misplaced}
use Rattle.px_base.specs.declared.hash.Hash.{Hash}
use Rattle.px_base.specs.declared.push.Update.{Update}
use Rattle.px_base.proofs.HexText.{hash_of-hash_text, text_is_lawful}
use Rattle.px_base.specs.Update.{AreUpdates, IsUpdate}
use Rattle.refstore.specs.Hook.{line_of, text_of}

-- two texts in two parts each
record Parts (a b c d : List ℕ) : Type 0 where
  front : a ≡ b
  back : c ≡ d

-- of two texts that are one, fronts of one length are one, and so are the rests
cut_front : (a b c d : List ℕ) → length a ≡ length b → a ++ c ≡ b ++ d → Parts a b c d
cut_front [] [] c d long same = record { front = refl; back = same }
cut_front [] (y ∷ b) c d long same = absurd (omega (arith, long))
cut_front (x ∷ a) [] c d long same = absurd (omega (arith, long))
cut_front (x ∷ a) (y ∷ b) c d long same =
    let p = cut_front a b c d (omega (arith, long)) (cc) in
    let e : x ≡ y = cc in
    record { front = rw (e, p.front) refl; back = p.back }

-- no byte is a line feed
abbrev HasNoFeed : List ℕ → Type 0
HasNoFeed bytes = AllByRecursion (λ b. b ≢ 10) bytes

-- of two texts that are one, what stands before the first line feed is one, and so is the rest
cut_line : (a b c d : List ℕ) → HasNoFeed a → HasNoFeed b → a ++ 10 ∷ c ≡ b ++ 10 ∷ d → Parts a b c d
cut_line [] [] c d none others same = record { front = refl; back = cc }
cut_line [] (y ∷ b) c d none others same = (let e : y ≡ 10 = cc in absurd (others.0 e))
cut_line (x ∷ a) [] c d none others same = (let e : x ≡ 10 = cc in absurd (none.0 e))
cut_line (x ∷ a) (y ∷ b) c d none others same =
    let p = cut_line a b c d none.1 others.1 (cc) in
    let e : x ≡ y = cc in
    record { front = rw (e, p.front) refl; back = p.back }

-- object names of one text are one
one_hash : (g h : Hash) → IsHash g → IsHash h → hash_text g ≡ hash_text h → g ≡ h
one_hash g h is other same =
    let both : Some g ≡ Some h = sym (hash_of-hash_text g is) ∙ ap hash_of same ∙ hash_of-hash_text h other in
    cc

-- of two texts that are one and begin with object names, the names are one, and so is the rest
record Named (g h : Hash) (c d : List ℕ) : Type 0 where
  hash : g ≡ h
  back : c ≡ d

cut_hash : (g h : Hash) (c d : List ℕ) → IsHash g → IsHash h → hash_text g ++ c ≡ hash_text h ++ d → Named g h c d
cut_hash g h c d is other same =
    let p = cut_front (hash_text g) (hash_text h) c d ((text_is_lawful g is).size ∙ sym (text_is_lawful h other).size) same in
    record { hash = one_hash g h is other p.front; back = p.back }

-- no byte of a reference's name is a line feed

or_middle : (a c : Bool) → ((a || true) || c) ≡ true
or_middle true c = refl
or_middle false c = refl

feed_is_bad : (text : List ℕ) (k : ℕ) (b : ℕ) → slice_get text k ≡ Some b → b ≡ 10 → IsBadAt text k
feed_is_bad text k b there is = (
  omega (arith, slice_get_within text k b there),
  rw (there, is) (or_middle (is_misplaced (length (take k text)) 10) (follows_badly (take k text) 10)),
)

no_feed : (text bytes : List ℕ) (i : ℕ) → IsRefName text → ((k : ℕ) → slice_get bytes k ≡ slice_get text (i + k)) → HasNoFeed bytes
no_feed text [] i name at = tt
no_feed text (b ∷ bytes) i name at = (
  λ is. name i (feed_is_bad text i b (ap (λ (n : ℕ). slice_get text n) (let z : i ≡ i + 0 = omega arith in z) ∙ sym (at 0)) is),
  no_feed text bytes (i + 1) name (λ k. at (suc k) ∙ ap (λ (n : ℕ). slice_get text n) (let z : i + suc k ≡ i + 1 + k = omega arith in z)),
)

name_feed : (name : List ℕ) → IsRefName name → HasNoFeed name
name_feed name is = no_feed name name 0 is (λ k. ap (λ (n : ℕ). slice_get name n) (let z : k ≡ 0 + k = omega arith in z))

-- of two texts that are one and begin with lines, the updates are one, and so is the rest
record Lines (u v : Update) (c d : List ℕ) : Type 0 where
  update : u ≡ v
  back : c ≡ d

-- a line from its second and from its third field on, and what stands behind it
abbrev from_name : Update → List ℕ → List ℕ
from_name u c = u.name ++ (10 ∷ c)

abbrev from_new : Update → List ℕ → List ℕ
from_new u c = hash_text u.new ++ (32 ∷ from_name u c)

line_then : (u : Update) (c : List ℕ) → line_of u ++ c ≡ hash_text u.old ++ (32 ∷ from_new u c)
line_then u c =
    let a = hash_text u.old in
    let b = 32 ∷ hash_text u.new in
    let n = 32 ∷ u.name in
    append_assoc ((a ++ b) ++ n) (10 ∷ []) c ∙ append_assoc (a ++ b) n (10 ∷ c) ∙ append_assoc a b (n ++ (10 ∷ c))

same_rest : (x : ℕ) (c d : List ℕ) → x ∷ c ≡ x ∷ d → c ≡ d
same_rest x c d same = cc

one_update : (u v : Update) → u.old ≡ v.old → u.new ≡ v.new → u.name ≡ v.name → u ≡ v
one_update u v old new name = ap (λ (h : Hash). let w : Update = record { old = h; new = u.new; name = u.name } in w) old
    ∙ ap (λ (h : Hash). let w : Update = record { old = v.old; new = h; name = u.name } in w) new
    ∙ ap (λ (n : List ℕ). let w : Update = record { old = v.old; new = v.new; name = n } in w) name

cut_update : (u v : Update) (c d : List ℕ) → IsUpdate u → IsUpdate v → line_of u ++ c ≡ line_of v ++ d → Lines u v c d
cut_update u v c d is other same =
    let old = cut_hash u.old v.old (32 ∷ from_new u c) (32 ∷ from_new v d) is.old other.old (sym (line_then u c) ∙ same ∙ line_then v d) in
    let new = cut_hash u.new v.new (32 ∷ from_name u c) (32 ∷ from_name v d) is.new other.new (same_rest 32 (from_new u c) (from_new v d) old.back) in
    let name = cut_line u.name v.name c d (name_feed u.name is.name) (name_feed v.name other.name) (same_rest 32 (from_name u c) (from_name v d) new.back) in
    record { update = one_update u v old.hash new.hash name.front; back = name.back }

-- a text that has a line is not empty
not_empty : (a b : List ℕ) (x : ℕ) → a ++ x ∷ b ≡ [] → ⊥
not_empty [] b x e = absurd (cc)
not_empty (y ∷ a) b x e = absurd (cc)

line_not_empty : (u : Update) (c : List ℕ) → line_of u ++ c ≡ [] → ⊥
line_not_empty u c e = not_empty (hash_text u.old) (from_new u c) 32 (sym (line_then u c) ∙ e)

pub one_list : (updates others : List Update) → AreUpdates updates → AreUpdates others → text_of updates ≡ text_of others → updates ≡ others
one_list [] [] is other same = refl
one_list [] (v ∷ others) is other same = absurd (line_not_empty v (text_of others) (sym same))
one_list (u ∷ updates) [] is other same = absurd (line_not_empty u (text_of updates) same)
one_list (u ∷ updates) (v ∷ others) is other same =
    let p = cut_update u v (text_of updates) (text_of others) is.0 other.0 same in
    rw p.update (ap (λ (us : List Update). v ∷ us) (one_list updates others is.1 other.1 p.back))
