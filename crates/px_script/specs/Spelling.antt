-- How the events of a script are spelled, and what a line asks.
use Rattle.std.specs.Prelude.{◌≡◌, ◌⊎◌, ℕ, List, [], ◌∷◌, ◌++◌, Option, Some, None, codes, ⊤}
use Rattle.std.specs.List.{join_with_byte}
use Rattle.px_ops.specs.declared.op.Op.{Op}
use Rattle.px_ops.specs.declared.op.Op.TheVariants.{Ack, Admit, Beat, Begin, Booked, Cancel, Cast, Close, Collect, Create, Finish, Holder, Open, Outcome, Reconcile, RouteRead, SetFactor, Stale, Stop, Withdraw}
use Rattle.px_script.specs.ClusterSpelling.{IsClusterLine}
use Rattle.px_script.specs.JobSpelling.{IsJobLine}
use Rattle.px_script.specs.PushSpelling.{IsPushLine}
use Rattle.px_script.specs.RepairSpelling.{IsRepairLine}
use Rattle.px_script.specs.VoteSpelling.{IsVoteLine}
use Rattle.px_script.specs.declared.event.Event.{Event}
use Rattle.px_script.specs.declared.script_line.ScriptLine.{ScriptLine}
use Rattle.px_script.specs.declared.script_line.ScriptLine.TheVariants.{Nothing, Bad, Memory}
use Rattle.px_script.specs.declared.script_line.ScriptLine.TheVariants as answer

-- the words spell the event: they are a line of one of the families, and the event is lawful there
abbrev pub AreWordsOf : Event → List (List ℕ) → Type 0
AreWordsOf event words =
    IsVoteLine event words ⊎ IsClusterLine event words ⊎ IsPushLine event words
    ⊎ IsJobLine event words ⊎ IsRepairLine event words

-- the line asks for the event: words of it, with one space between each two
pub record Spells (event : Event) (line : List ℕ) : Type 0 where
  pub words : List (List ℕ)
  pub spelled : AreWordsOf event words
  pub written : line ≡ join_with_byte 32 words

-- the operations that lines spell: they name no storage by its number, and a plan of jobs that they
-- ask for is one for all repositories
abbrev pub IsSpelledOp : Op → Type 0
IsSpelledOp (Open threshold rounds voters) = ⊤
IsSpelledOp (Cast tx voter phase hash) = ⊤
IsSpelledOp (Withdraw tx voter) = ⊤
IsSpelledOp (Cancel tx) = ⊤
IsSpelledOp (Stop tx) = ⊤
IsSpelledOp (Close tx) = ⊤
IsSpelledOp (Collect tx voter sub) = ⊤
IsSpelledOp (Outcome tx sub) = ⊤
IsSpelledOp (Admit virt name) = ⊤
IsSpelledOp (Create virt path factor) = ⊤
IsSpelledOp (Booked repo) = ⊤
IsSpelledOp (Holder repo) = ⊤
IsSpelledOp (Begin repo) = ⊤
IsSpelledOp (Finish tx) = ⊤
IsSpelledOp (Reconcile None) = ⊤
IsSpelledOp (Ack job lease good) = ⊤
IsSpelledOp (Beat job lease now) = ⊤
IsSpelledOp (Stale now after) = ⊤
IsSpelledOp (SetFactor repo factor) = ⊤
IsSpelledOp (RouteRead repo) = ⊤
IsSpelledOp other = ⊥

-- an empty line, or one that begins with '#'
abbrev pub IsSilent : List ℕ → Type 0
IsSilent [] = Unit {0}
IsSilent (b ∷ bytes) = b ≡ 35

-- what a line asks: nothing, or an event
abbrev pub Asks : Option Event → List ℕ → Type 0
Asks None line = IsSilent line
Asks (Some event) line = Spells event line

-- a word whose line takes memory to read: for voters, for a path, or for what is pushed
abbrev pub TakesMemory : List ℕ → Type 0
TakesMemory word = (word ≡ codes "open") ⊎ (word ≡ codes "create") ⊎ (word ≡ codes "prepare")

-- a line that begins with such a word
pub record MayTakeMemory (line : List ℕ) : Type 0 where
  pub word : List ℕ
  pub takes : TakesMemory word
  pub rest : List ℕ
  pub begins : line ≡ word ++ rest

-- the reader answers what the line asks; that it is bad, where it is neither silent nor spells an
-- event; or that memory wants, which only voters, a path and a push take
abbrev pub Reads : List ℕ → ScriptLine → Type 0
Reads line Nothing = Asks None line
Reads line (answer.Asks event) = Asks (Some event) line
Reads line Bad = (asked : Option Event) → Asks asked line → ⊥
Reads line Memory = MayTakeMemory line
