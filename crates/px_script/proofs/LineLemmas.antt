-- Lines: what is read of a line is what it asks, and no line asks for two things.
use Rattle.std.proofs.Common.{◌≡◌, append-nil, inl, inr, ℕ, List, [], ◌∷◌, Option, Some, None, refl, ap, sym, ◌∙◌, subst}
use Rattle.std.specs.List.{AllByRecursion, join_with_byte, onto_first}
use Rattle.std.specs.Option.{option_map, option_or}
use Rattle.std.proofs.lemmas.List.Splits.{join_with_byte-slice_split}
use Rattle.px_ops.specs.declared.op.Op.{Op}
use Rattle.px_ops.specs.declared.op.Op.TheVariants.{Ack, Admit, Beat, Begin, Booked, Cancel, Cast, Close, Collect, Create, Finish, Holder, Open, Outcome, Reconcile, RouteRead, SetFactor, Stale, Stop, Withdraw}
use Rattle.px_script.specs.ClusterReading.{cluster_of}
use Rattle.px_script.specs.JobReading.{job_of}
use Rattle.px_script.specs.LineReading.{FirstTakesMemory, event_of}
use Rattle.px_script.specs.PushReading.{push_of}
use Rattle.px_script.specs.RepairReading.{repair_of}
use Rattle.px_script.specs.Spelling.{AreWordsOf, Asks, IsSilent, IsSpelledOp, MayTakeMemory, Spells}
use Rattle.px_script.specs.VoteReading.{vote_of}
use Rattle.px_script.specs.VoteSpelling.{IsVoteLine}
use Rattle.px_script.specs.Words.{line_words}
use Rattle.px_script.specs.declared.event.Event.{Event}
use Rattle.px_script.specs.declared.event.Event.TheVariants.{Operation}
use Rattle.px_script.proofs.ClusterLines.{cluster_of-cluster_words, cluster_of-some, cluster_words-whole}
use Rattle.px_script.proofs.JobLines.{job_of-job_words, job_of-some, job_words-whole}
use Rattle.px_script.proofs.PushLines.{push_line-whole, push_of-line, push_of-some}
use Rattle.px_script.proofs.RepairLines.{repair_of-repair_words, repair_of-some, repair_words-whole}
use Rattle.px_script.proofs.VoteLines.{vote_of-some, vote_of-vote_words, vote_words-whole}
use Rattle.px_script.proofs.WordLemmas.{IsWhole, line_words-joined, same_words}

-- the words of a line on votes have no space
vote_line-whole : (event : Event) (words : List (List ℕ)) → IsVoteLine event words → AllByRecursion (IsWhole 32) words
vote_line-whole (Operation op) words h = same_words 32 words _ h.1 (vote_words-whole op h.0)
vote_line-whole other words h = absurd h

-- the words of an event have no space
words-whole : (event : Event) (words : List (List ℕ)) → AreWordsOf event words → AllByRecursion (IsWhole 32) words
words-whole event words (inl vote) = vote_line-whole event words vote
words-whole event words (inr (inl cluster)) = same_words 32 words _ cluster.1 (cluster_words-whole event cluster.0)
words-whole event words (inr (inr (inl push))) = push_line-whole event words push
words-whole event words (inr (inr (inr (inl job)))) =
    same_words 32 words _ job.1 (job_words-whole event job.0)
words-whole event words (inr (inr (inr (inr repair)))) =
    same_words 32 words _ repair.1 (repair_words-whole event repair.0)

-- what a line on votes asks is read back
vote_line-read : (event : Event) (words : List (List ℕ)) → IsVoteLine event words → event_of words ≡ Some event
vote_line-read (Operation op) words h =
    let back = vote_of-vote_words op h.0 in
    ap event_of (h.1 ∙ back.2) ∙ rw back.3 refl
vote_line-read other words h = absurd h

-- an event is read back from its words
event_of-words : (event : Event) (words : List (List ℕ)) → AreWordsOf event words → event_of words ≡ Some event
event_of-words event words (inl vote) = vote_line-read event words vote
event_of-words event words (inr (inl cluster)) =
    let back = cluster_of-cluster_words event cluster.0 in
    ap event_of (cluster.1 ∙ back.2) ∙ rw (back.3, back.4) refl
event_of-words event words (inr (inr (inl push))) =
    let back = push_of-line event words push in
    ap event_of back.2 ∙ rw (back.3, back.4, back.5) refl
event_of-words event words (inr (inr (inr (inl job)))) =
    let back = job_of-job_words event job.0 in
    ap event_of (job.1 ∙ back.2) ∙ rw (back.3, back.4, back.5, back.6) refl
event_of-words event words (inr (inr (inr (inr repair)))) =
    let back = repair_of-repair_words event repair.0 in
    ap event_of (repair.1 ∙ back.2) ∙ rw (back.3, back.4, back.5, back.6, back.7) refl

-- what is read as an event is its words
event_of-some : (words : List (List ℕ)) (event : Event) → event_of words ≡ Some event → AreWordsOf event words
event_of-some [] event is = cc
event_of-some (first ∷ words) event is =
    by (vote_of first words) (cluster_of first words) (push_of first words) (job_of first words)
    event refl refl refl refl is
  where
    by : (vote : Option Op) (cluster push job : Option Event) (event : Event)
        → vote_of first words ≡ vote → cluster_of first words ≡ cluster
        → push_of first words ≡ push → job_of first words ≡ job
        → option_or (option_map Operation vote)
        (option_or cluster (option_or push (option_or job (repair_of first words)))) ≡ Some event
        → AreWordsOf event (first ∷ words)
    by (Some made) cluster push job (Operation op) v c p j is =
        let same : made ≡ op = cc in
        let line = vote_of-some first words op (v ∙ ap (λ (o : Op). Some o) same) in
        inl (line.0, sym line.1)
    by (Some made) cluster push job other v c p j is = absurd (cc)
    by None (Some made) push job event v c p j is =
        inr (inl (cluster_of-some first words event (c ∙ is)))
    by None None (Some made) job event v c p j is =
        inr (inr (inl (push_of-some first words event (p ∙ is))))
    by None None None (Some made) event v c p j is =
        inr (inr (inr (inl (job_of-some first words event (j ∙ is)))))
    by None None None None event v c p j is =
        inr (inr (inr (inr (repair_of-some first words event is))))

-- words that are joined and cut give the same event
event_of-joined : (words : List (List ℕ)) → AllByRecursion (IsWhole 32) words → event_of (line_words (join_with_byte 32 words)) ≡ event_of words
event_of-joined [] whole = refl
event_of-joined (word ∷ words) whole = ap event_of (line_words-joined word words whole)

-- the event that a line asks for is read
pub spelled_is_read : (event : Event) (line : List ℕ) → Spells event line → event_of (line_words line) ≡ Some event
spelled_is_read event line s =
    ap (λ (l : List ℕ). event_of (line_words l)) s.written
    ∙ event_of-joined s.words (words-whole event s.words s.spelled)
    ∙ event_of-words event s.words s.spelled

-- and what is read is an event that the line asks for
pub read_is_spelled : (event : Event) (line : List ℕ) → event_of (line_words line) ≡ Some event → Spells event line
read_is_spelled event line is = record {
  words = line_words line;
  spelled = event_of-some (line_words line) event is;
  written = sym (join_with_byte-slice_split 32 line);
}

-- no event begins with '#'
no_event_behind : (parts : List (List ℕ)) → event_of (onto_first 35 parts) ≡ None
no_event_behind [] = refl
no_event_behind (part ∷ parts) = refl

-- a silent line is not read as an event
pub silent_is_unread : (line : List ℕ) → IsSilent line → event_of (line_words line) ≡ None
silent_is_unread [] silent = refl
silent_is_unread (b ∷ bytes) silent = ap (λ (c : ℕ). event_of (line_words (c ∷ bytes))) silent ∙ no_event_behind (line_words bytes)

-- no line asks for two things
pub asked_once : (a b : Option Event) (line : List ℕ) → Asks a line → Asks b line → a ≡ b
asked_once None None line x y = refl
asked_once None (Some b) line x y = let s = silent_is_unread line x in let r = spelled_is_read b line y in absurd (cc)
asked_once (Some a) None line x y = let s = silent_is_unread line y in let r = spelled_is_read a line x in absurd (cc)
asked_once (Some a) (Some b) line x y = sym (spelled_is_read a line x) ∙ spelled_is_read b line y

-- a line whose first word takes memory begins with it
first_begins : (words : List (List ℕ)) → FirstTakesMemory words → MayTakeMemory (join_with_byte 32 words)
first_begins [] takes = absurd takes
first_begins (first ∷ []) takes = record { word = first; takes = takes; rest = []; begins = sym (append-nil first) }
first_begins (first ∷ next ∷ words) takes = record { word = first; takes = takes; rest = 32 ∷ join_with_byte 32 (next ∷ words); begins = refl }

-- so it may take memory
pub line_takes : (line : List ℕ) → FirstTakesMemory (line_words line) → MayTakeMemory line
line_takes line takes = subst MayTakeMemory (join_with_byte-slice_split 32 line) (first_begins (line_words line) takes)

-- where no event is read, a line that is not silent asks nothing
pub unasked : (asked : Option Event) (line : List ℕ) → (IsSilent line → ⊥) → event_of (line_words line) ≡ None → Asks asked line → ⊥
unasked None line loud none asks = loud asks
unasked (Some event) line loud none asks = let r = spelled_is_read event line asks in absurd (cc)

-- an operation whose words these are is one that lines spell
spelled_op : (op : Op) (words : List (List ℕ)) → AreWordsOf (Operation op) words → IsSpelledOp op
spelled_op (Open threshold rounds voters) words are = tt
spelled_op (Cast tx voter phase hash) words are = tt
spelled_op (Withdraw tx voter) words are = tt
spelled_op (Cancel tx) words are = tt
spelled_op (Stop tx) words are = tt
spelled_op (Close tx) words are = tt
spelled_op (Collect tx voter sub) words are = tt
spelled_op (Outcome tx sub) words are = tt
spelled_op (Admit virt name) words are = tt
spelled_op (Create virt path factor) words are = tt
spelled_op (Booked repo) words are = tt
spelled_op (Holder repo) words are = tt
spelled_op (Begin repo) words are = tt
spelled_op (Finish tx) words are = tt
spelled_op (Reconcile None) words are = tt
spelled_op (Ack job held good) words are = tt
spelled_op (Beat job held now) words are = tt
spelled_op (Stale now after) words are = tt
spelled_op (SetFactor repo factor) words are = tt
spelled_op (RouteRead repo) words are = tt
spelled_op other words (inl vote) = absurd vote.0
spelled_op other words (inr (inl cluster)) = absurd cluster.0
spelled_op other words (inr (inr (inl push))) = absurd push
spelled_op other words (inr (inr (inr (inl job)))) = absurd job.0
spelled_op other words (inr (inr (inr (inr repair)))) = absurd repair.0

-- so a line asks for no other operation
pub asked_op : (op : Op) (line : List ℕ) → Asks (Some (Operation op)) line → IsSpelledOp op
asked_op op line s = spelled_op op s.words s.spelled
