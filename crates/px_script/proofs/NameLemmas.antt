-- Names of storages and of references, and paths: each is read as it is, and what is read as one is one.
use Rattle.std.proofs.Common.{◌≡◌, ◌+◌, ◌<◌, ◌≤◌, ◌&&◌, ◌⊎◌, inl, inr, ℕ, zero, suc, List, length, drop, get_or, slice_get, Bool, true, false, not, cond, nat_le, Some, None, arith, refl, ap, sym, subst, ◌∙◌, Result, Ok, Err}
use Rattle.std.specs.List.{list_all}
use Rattle.std.specs.Result.{result_ok}
use Rattle.std.specs.Prelude.{IfOk, IfErr}
use Rattle.std.proofs.lemmas.Bool.{and_from, and_parts, cases_lt, false_from_ne_true, le-leb, leb-true}
use Rattle.std.proofs.lemmas.Grind.{common_steps}
use Rattle.std.proofs.lemmas.List.Elements.{All-from_get_or}
use Rattle.std.proofs.lemmas.Option.{cond_some, slice_get-get_or, slice_get_past, slice_get_within}
use Rattle.std.proofs.lemmas.List.Sums.{AllPass-from_list_all, list_all-from_AllPass}
use Rattle.px_base.specs.StorageName.{IsStorageName, first_bad, is_name_byte}
use Rattle.px_base.specs.FirstPlace.{IsFirst}
use Rattle.px_base.specs.Hash.{hash_text, is_hex_digit, IsHash}
use Rattle.px_base.specs.RefName.{is_bad_place, is_forbidden, IsBadAt, IsRefName}
use Rattle.px_base.specs.RepoPath.{begins, is_bad_byte, is_bad_component, is_path_byte, IsFirstBad, IsRepoPath}
use Rattle.px_base.specs.declared.hash.Hash.{Hash}
use Rattle.px_base.proofs.HexText.{text_is_lawful}
use Rattle.px_base.specs.declared.storage_name.NameFault.{NameFault}
use Rattle.px_base.specs.declared.storage_name.NameFault.TheVariants.{BadName, Memory}
use Rattle.px_script.specs.Names.{all_good_before, is_ref_name, is_repo_path, path_of, ref_of}
use Rattle.px_script.specs.Words.{name_of}
use Rattle.px_script.proofs.WordLemmas.{IsWhole, whole-passes}

-- the test of a name
abbrev is_name : List ℕ → Bool
is_name word = nat_le 1 (length word) && nat_le (length word) 64 && list_all is_name_byte word

-- names pass the test
is_name-true : (word : List ℕ) → IsStorageName word → is_name word ≡ true
is_name-true word h =
    and_from (nat_le 1 (length word) && nat_le (length word) 64) (list_all is_name_byte word)
    (and_from (nat_le 1 (length word)) (nat_le (length word) 64) (le-leb 1 (length word) h.some) (le-leb (length word) 64 h.few))
    (list_all-from_AllPass is_name_byte word h.allowed)

-- and what passes it is a name
is_name-holds : (word : List ℕ) → is_name word ≡ true → IsStorageName word
is_name-holds word passes =
    let both = and_parts (nat_le 1 (length word) && nat_le (length word) 64) (list_all is_name_byte word) passes in
    let ends = and_parts (nat_le 1 (length word)) (nat_le (length word) 64) both.0 in
    record {
      some = leb-true 1 (length word) ends.0;
      few = leb-true (length word) 64 ends.1;
      allowed = AllPass-from_list_all is_name_byte word both.1;
    }

-- a name is read as it is
pub name_of-name : (name : List ℕ) → IsStorageName name → name_of name ≡ Some name
name_of-name name h = rw (is_name-true name h) refl

-- what is read as a name is one
pub name_of-some : (word name : List ℕ) → name_of word ≡ Some name → IsStorageName name × (name ≡ word)
name_of-some word name is = step (is_name word) refl is
  where
    step : (t : Bool) → is_name word ≡ t → (cond t (Some word) None) ≡ Some name → IsStorageName name × (name ≡ word)
    step true passes is = let same : word ≡ name = cc in (is_name-holds name (ap is_name (sym same) ∙ passes), sym same)
    step false fails is = cc

-- what the reader of names answers
pub name_of-read : (word : List ℕ) (read : Result (List ℕ) NameFault)
    → IfOk read (λ name. IsStorageName word × (name ≡ word))
    → IfErr read (λ fault. ¬ (IsStorageName word) × (fault ≡ BadName (first_bad word))) → result_ok read ≡ name_of word
name_of-read word (Ok name) ok err = ap (λ (n : List ℕ). Some n) ok.1 ∙ sym (name_of-name word ok.0)
name_of-read word (Err fault) ok err =
    let fails : is_name word ≡ false = false_from_ne_true (is_name word) (λ passes. err.0 (is_name-holds word passes)) in
    rw fails refl

-- a bit that is not false is true, and the other way round
not-true : (t : Bool) → not t ≡ true → t ≡ false
not-true false is = refl
not-true true is = cc

-- where no place before one is bad, each of them is good
each_is_good : (bad : ℕ → Bool) (n at : ℕ) → all_good_before bad n ≡ true → at < n → bad at ≡ false
unfolding all_good_before
each_is_good bad zero at all below = absurd (omega (arith, below))
each_is_good bad (suc n) at all below =
    let parts = and_parts (not (bad n)) (all_good_before bad n) all in
    elim (cases_lt at n) [
      | inl lower ↦ each_is_good bad n at parts.1 lower
      | inr last ↦ let same : at ≡ n = omega (arith, below, last) in ap bad same ∙ not-true (bad n) parts.0
    ]

-- and the other way round
all_are_good : (bad : ℕ → Bool) (n : ℕ) → ((at : ℕ) → at < n → bad at ≡ true → ⊥) → all_good_before bad n ≡ true
unfolding all_good_before
all_are_good bad zero good = refl
all_are_good bad (suc n) good =
    let last : bad n ≡ false = false_from_ne_true (bad n) (good n (omega arith)) in
    rw last (all_are_good bad n (λ at below. good at (omega (arith, below))))

-- false is not true
no_truth : (t : Bool) → t ≡ false → t ≡ true → ⊥
no_truth t f is = cc

-- the bad bytes of a path, and where its bad components begin
abbrev bad_byte_in : List ℕ → ℕ → Bool
bad_byte_in text at = is_bad_byte at (slice_get text at)

abbrev bad_component_in : List ℕ → ℕ → Bool
bad_component_in text at = begins text at && is_bad_component (drop at text)

-- paths pass their test
is_repo_path-true : (text : List ℕ) → IsRepoPath text → is_repo_path text ≡ true
is_repo_path-true text h =
    and_from (all_good_before (bad_byte_in text) (length text)) (all_good_before (bad_component_in text) (length text + 1))
    (all_are_good (bad_byte_in text) (length text) (λ at below bad. h.bytes at bad))
    (all_are_good (bad_component_in text) (length text + 1) (λ at below bad.
    let parts = and_parts (begins text at) (is_bad_component (drop at text)) bad in
    h.components at (omega (arith, below), parts.0, parts.1)))

-- past the end no byte of a path is bad
past_end : (text : List ℕ) (at : ℕ) → length text ≤ at → bad_byte_in text at ≡ false
past_end text at past = ap (is_bad_byte at) (slice_get_past text at past)

-- and what passes the test of paths is one
is_repo_path-holds : (text : List ℕ) → is_repo_path text ≡ true → IsRepoPath text
is_repo_path-holds text passes =
    let both = and_parts (all_good_before (bad_byte_in text) (length text)) (all_good_before (bad_component_in text) (length text + 1)) passes in
    record {
      bytes = λ at bad. elim (cases_lt at (length text)) [
        | inl within ↦ no_truth (bad_byte_in text at) (each_is_good (bad_byte_in text) (length text) at both.0 within) bad
        | inr past ↦ no_truth (bad_byte_in text at) (past_end text at past) bad
      ];
      components = λ at bad.
          no_truth (bad_component_in text at) (each_is_good (bad_component_in text) (length text + 1) at both.1 (omega (arith, bad.0)))
          (and_from (begins text at) (is_bad_component (drop at text)) bad.1 bad.2);
    }

-- a path is read as it is
pub path_of-path : (path : List ℕ) → IsRepoPath path → path_of path ≡ Some path
path_of-path path h = rw (is_repo_path-true path h) refl

-- what is read as a path is one
pub path_of-some : (word path : List ℕ) → path_of word ≡ Some path → IsRepoPath path × (path ≡ word)
path_of-some word path is =
    let kept = cond_some (is_repo_path word) word path is in
    (subst IsRepoPath kept.1 (is_repo_path-holds word kept.0), sym kept.1)

-- a word with a bad place is not read as a path
pub path_of-bad : (word : List ℕ) (fault : NameFault) (at : ℕ) → fault ≡ BadName at
    → (fault ≡ Memory) ⊎ ((at : ℕ) × (fault ≡ BadName at) × IsFirstBad word at) → path_of word ≡ None
path_of-bad word fault at is (inl memory) = absurd (cc)
path_of-bad word fault at is (inr found) =
    let fails : is_repo_path word ≡ false = false_from_ne_true (is_repo_path word) (λ passes. refuse (is_repo_path-holds word passes) found.2) in
    rw fails refl
  where
    refuse : {at : ℕ} → IsRepoPath word → IsFirstBad word at → ⊥
    refuse {at} h (inl byte) = h.bytes at byte.bad
    refuse {at} h (inr component) = h.components at component.1.bad

-- the bad places of the name of a reference
abbrev bad_place_in : List ℕ → ℕ → Bool
bad_place_in text at = is_bad_place text at (slice_get text at)

-- names of references pass their test
is_ref_name-true : (text : List ℕ) → IsRefName text → is_ref_name text ≡ true
is_ref_name-true text h = all_are_good (bad_place_in text) (length text + 1) (λ at below bad. h at (omega (arith, below), bad))

-- and what passes it is one
is_ref_name-holds : (text : List ℕ) → is_ref_name text ≡ true → IsRefName text
is_ref_name-holds text passes = λ at bad.
    no_truth (bad_place_in text at) (each_is_good (bad_place_in text) (length text + 1) at passes (omega (arith, bad.0))) bad.1

-- the name of a reference is read as it is
pub ref_of-name : (name : List ℕ) → IsRefName name → ref_of name ≡ Some name
ref_of-name name h = rw (is_ref_name-true name h) refl

-- what is read as one is one
pub ref_of-some : (word name : List ℕ) → ref_of word ≡ Some name → IsRefName name × (name ≡ word)
ref_of-some word name is =
    let kept = cond_some (is_ref_name word) word name is in
    (subst IsRefName kept.1 (is_ref_name-holds word kept.0), sym kept.1)

-- a word with a bad place is not read as one
pub ref_of-bad : (word : List ℕ) (fault : NameFault) (at : ℕ) → fault ≡ BadName at
    → (fault ≡ Memory) ⊎ ((at : ℕ) × (fault ≡ BadName at) × IsFirst (IsBadAt word) at) → ref_of word ≡ None
ref_of-bad word fault at is (inl memory) = absurd (cc)
ref_of-bad word fault at is (inr found) =
    let fails : is_ref_name word ≡ false = false_from_ne_true (is_ref_name word) (λ passes. is_ref_name-holds word passes found.0 found.2.bad) in
    rw fails refl

-- each byte of a text passes, where each that is found at a place does
each_byte : (test : ℕ → Bool) (text : List ℕ) → ((at b : ℕ) → slice_get text at ≡ Some b → test b ≡ true) → list_all test text ≡ true
each_byte test text passes =
    list_all-from_AllPass test text
    (All-from_get_or (λ b. test b ≡ true) text 0 (λ at below. passes at (get_or text at 0) (slice_get-get_or text at 0 below)))

-- what is not bad in a path is a byte of paths
path_byte : (at b : ℕ) → (is_bad_byte at (Some b) ≡ true → ⊥) → is_path_byte b ≡ true
path_byte at b good = grind (arith, common_steps)

-- no byte of a path is a space
pub whole-path : (path : List ℕ) → IsRepoPath path → IsWhole 32 path
whole-path path h =
    whole-passes is_path_byte 32 refl path
    (each_byte is_path_byte path (λ at b found. path_byte at b (λ bad. h.bytes at (ap (is_bad_byte at) found ∙ bad))))

-- what is not bad in the name of a reference is no byte that none has
ref_byte : (text : List ℕ) (at b : ℕ) → (is_bad_place text at (Some b) ≡ true → ⊥) → not (is_forbidden b) ≡ true
ref_byte text at b good = grind (arith, common_steps)

-- no byte of the name of a reference is a space
pub whole-ref : (name : List ℕ) → IsRefName name → IsWhole 32 name
whole-ref name h =
    whole-passes (λ b. not (is_forbidden b)) 32 refl name
    (each_byte (λ b. not (is_forbidden b)) name (λ at b found. ref_byte name at b (λ bad.
    h at (let within = slice_get_within name at b found in omega (arith, within), ap (is_bad_place name at) found ∙ bad))))

-- no byte of a name is a mark that names do not have
pub whole-name : (mark : ℕ) → is_name_byte mark ≡ false → (name : List ℕ) → IsStorageName name → IsWhole mark name
whole-name mark other name h = whole-passes is_name_byte mark other name (list_all-from_AllPass is_name_byte name h.allowed)

-- no byte of a hash's text is a mark that is no hexadecimal digit
pub whole-hash : (mark : ℕ) → is_hex_digit mark ≡ false → (hash : Hash) → IsHash hash → IsWhole mark (hash_text hash)
whole-hash mark other hash h =
    whole-passes is_hex_digit mark other (hash_text hash) (list_all-from_AllPass is_hex_digit (hash_text hash) (text_is_lawful hash h).digits)
