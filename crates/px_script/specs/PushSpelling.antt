-- How the steps of a push are spelled.
use Rattle.std.specs.Prelude.{◌≡◌, ◌⊎◌, ◌<◌, ◌^◌, ℕ, List, [], ◌∷◌, ◌++◌, map, codes, decimal}
use Rattle.std.specs.List.{AllByRecursion}
use Rattle.hex.specs.Hex.{encode_lower, IsBytes}
use Rattle.object_format.specs.Name.{kind_word}
use Rattle.px_base.specs.Hash.{hash_text}
use Rattle.px_base.specs.Object.{GitObject, IsSmall}
use Rattle.px_base.specs.StorageName.{IsStorageName}
use Rattle.px_base.specs.Update.{AreUpdates}
use Rattle.px_base.specs.declared.push.Push.{Push}
use Rattle.px_base.specs.declared.push.Update.{Update}
use Rattle.px_ops.specs.declared.op.Op.TheVariants.{Begin, Finish}
use Rattle.px_script.specs.declared.event.Event.{Event}
use Rattle.px_script.specs.declared.event.Event.TheVariants.{Abort, Commit, Operation, Prepare}

-- an update as one word: the old object, a colon, the new one, a colon, and the reference
abbrev pub update_word : Update → List ℕ
update_word update = hash_text update.old ++ 58 ∷ (hash_text update.new ++ 58 ∷ update.name)

-- an object as one word: its kind, a colon, and two digits for each byte of its content
abbrev pub object_word : GitObject → List ℕ
object_word object = kind_word object.kind ++ 58 ∷ encode_lower object.content

-- the words of a push: its updates, and its objects behind the word 'with'; where there is no
-- object, 'with' may be left out
abbrev pub ArePushed : Push → List (List ℕ) → Type 0
ArePushed push words =
    (words ≡ map update_word push.updates ++ codes "with" ∷ map object_word push.objects)
    ⊎ ((push.objects ≡ []) × (words ≡ map update_word push.updates))

-- an object whose content is bytes, and is no larger than an object's may be
pub record IsLawfulObject (object : GitObject) : Type 0 where
  pub small : IsSmall object.content
  pub bytes : IsBytes object.content

-- a push whose updates are between two objects each, of what is the name of a reference, and whose
-- objects are lawful
pub record IsLawfulPush (push : Push) : Type 0 where
  pub updates : AreUpdates push.updates
  pub objects : AllByRecursion IsLawfulObject push.objects

-- the words of 'prepare', behind which stand those of the push
pub record IsPrepare (tx : ℕ) (name : List ℕ) (push : Push) (words : List (List ℕ)) : Type 0 where
  pub number : tx < 2 ^ 64
  pub storage : IsStorageName name
  pub lawful : IsLawfulPush push
  pub pushed : List (List ℕ)
  pub are : ArePushed push pushed
  pub written : words ≡ codes "prepare" ∷ decimal tx ∷ name ∷ pushed

-- the words are a line on a push that asks for the event; numbers are decimal, with no sign and no
-- leading zero
abbrev pub IsPushLine : Event → List (List ℕ) → Type 0
IsPushLine (Operation (Begin repo)) words =
    (repo.0 < 2 ^ 32) × (words ≡ codes "begin" ∷ decimal repo.0 ∷ [])
IsPushLine (Prepare tx name push) words = IsPrepare tx.0 name push words
IsPushLine (Commit tx name) words =
    (tx.0 < 2 ^ 64) × IsStorageName name × (words ≡ codes "commit" ∷ decimal tx.0 ∷ name ∷ [])
IsPushLine (Abort tx name) words =
    (tx.0 < 2 ^ 64) × IsStorageName name × (words ≡ codes "abort" ∷ decimal tx.0 ∷ name ∷ [])
IsPushLine (Operation (Finish tx)) words =
    (tx.0 < 2 ^ 64) × (words ≡ codes "finish" ∷ decimal tx.0 ∷ [])
IsPushLine other words = ⊥
