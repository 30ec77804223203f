-- The text that Git's reference-transaction hook is given of a list of updates (githooks(5)).
use Rattle.std.specs.Prelude.{ℕ, ◌∷◌, ◌++◌, [], List}
use Rattle.std.specs.List.{flat_map}
use Rattle.sha1.specs.Sha1.{sha1}
use Rattle.px_base.specs.Hash.{hash_text}
use Rattle.px_base.specs.declared.hash.Hash.{Hash}
use Rattle.px_base.specs.declared.push.Update.{Update}

-- a line: the old object name, a space, the new one, a space, the name of the reference, a line feed
abbrev pub line_of : Update → List ℕ
line_of update =
    hash_text update.old ++ 32 ∷ hash_text update.new ++ 32 ∷ update.name ++ 10 ∷ []

-- the lines of the list, one after the other
abbrev pub text_of : List Update → List ℕ
text_of updates = flat_map line_of updates

-- the vote on a list of updates: the SHA-1 (FIPS 180-4) of its text
unfoldable pub vote_on : List Update → Hash
vote_on updates = record { 0 = sha1 (text_of updates) }
