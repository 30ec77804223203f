-- What acts leave as it was: outcomes, and who is committed.
use Rattle.std.proofs.Common.{◌≡◌, ℕ, ◌+◌, ◌≤◌, List, [], ◌∷◌, Bool, true, false, Option, None, Some, arith, ap, sym, ◌∙◌, inl, inr, refl, slice_get, sum_by, zero, suc, map, if◌then◌else◌}
use Rattle.std.specs.List.{AllByRecursion}
use Rattle.std.proofs.lemmas.Bool.{cases_Bool, false≢true, true≢false}
use Rattle.std.proofs.lemmas.List.Sums.{sum_by-cons}
use Rattle.px_base.specs.declared.hash.Hash.{Hash}
use Rattle.px_base.specs.Hash.{same_hash, same_hash-Decides}
use Rattle.voters.specs.declared.act.Act.{Act}
use Rattle.voters.specs.declared.act.Act.TheVariants.{Cast, Cancel, Stop as StopAct}
use Rattle.voters.specs.declared.mark.Mark.{Mark}
use Rattle.voters.specs.declared.outcome.Outcome.{Outcome}
use Rattle.voters.specs.declared.outcome.Outcome.TheVariants.{Open, Commit, Fail, Stop}
use Rattle.voters.specs.declared.voter_result.VoterResult.{VoterResult}
use Rattle.voters.specs.declared.voter_result.VoterResult.TheVariants as result
use Rattle.voters.specs.Marks.{share, canceling, committed_hash, is_lost}
use Rattle.voters.specs.Calls.{all_canceled}
use Rattle.voters.specs.Results.{is_undecided, undecided_from, undecided_voters, result_by, result_of, standing_of, is_committed, committed_in, voted_in, has_vote}
use Rattle.voters.specs.Verdict.{Standing}
use Rattle.voters.specs.Sub.{IsSound}
use Rattle.voters.specs.Votes.{Votes, after, run, changed_at, first_vote, casting, marks_after, decided, decision, or_later}
use Rattle.voters.proofs.OutcomeLemmas.{none_commits, committed_hash-none}
use Rattle.voters.proofs.StepLemmas.{cast_sound, cancel_sound, stop_sound, outcome_stays}

abbrev pub same_index : ℕ → ℕ → Bool
same_index zero zero = true
same_index zero (suc v) = false
same_index (suc w) zero = false
same_index (suc w) (suc v) = same_index w v

pub same_index-is : (w v : ℕ) → same_index w v ≡ true → w ≡ v
same_index-is zero zero t = refl
same_index-is zero (suc v) t = absurd (false≢true t)
same_index-is (suc w) zero t = absurd (false≢true t)
same_index-is (suc w) (suc v) t = ap suc (same_index-is w v t)

-- one mark of a changed list

pub changed_there : (bs : List Mark) (w v : ℕ) (f : Mark → Mark) (b : Mark) → slice_get bs v ≡ Some b → slice_get (changed_at w f bs) v ≡ Some (if same_index w v then f b else b)
changed_there [] w v f b there = absurd (cc)
changed_there (x ∷ xs) zero zero f b there = (let e : x ≡ b = cc in rw e refl)
changed_there (x ∷ xs) zero (suc v) f b there = there
changed_there (x ∷ xs) (suc w) zero f b there = there
changed_there (x ∷ xs) (suc w) (suc v) f b there = changed_there xs w v f b there

pub record WasThere (bs : List Mark) (w v : ℕ) (f : Mark → Mark) (new : Mark) : Type 0 where
  pub mark : Mark
  pub there : slice_get bs v ≡ Some mark
  pub is : new ≡ (if same_index w v then f mark else mark)

pub was_there : (bs : List Mark) (w v : ℕ) (f : Mark → Mark) (new : Mark) → slice_get (changed_at w f bs) v ≡ Some new → WasThere bs w v f new
was_there [] w v f new there = absurd (cc)
was_there (x ∷ xs) zero zero f new there = record { mark = x; there = refl; is = cc }
was_there (x ∷ xs) zero (suc v) f new there = record { mark = new; there = there; is = refl }
was_there (x ∷ xs) (suc w) zero f new there = record { mark = new; there = there; is = refl }
was_there (x ∷ xs) (suc w) (suc v) f new there =
    let r = was_there xs w v f new there in record { mark = r.mark; there = r.there; is = r.is }

-- who is committed

pub record IsCommitted (v : ℕ) (votes : Votes) : Type 0 where
  pub mark : Mark
  pub hash : Hash
  pub there : slice_get votes.marks v ≡ Some mark
  pub outcome : votes.outcome ≡ Commit hash
  pub stands : mark.canceled ≡ false
  pub vote : mark.vote ≡ Some hash

record Parts (canceled : Bool) (o : Outcome) (vote : Option Hash) : Type 0 where
  hash : Hash
  outcome : o ≡ Commit hash
  stands : canceled ≡ false
  voted : vote ≡ Some hash

parts : (canceled : Bool) (o : Outcome) (vote : Option Hash) (standing : Hash → Standing) → is_committed (result_by canceled o vote standing) ≡ true → Parts canceled o vote
parts true o vote standing e = absurd (cc)
parts false Open vote standing e = absurd (cc)
parts false Stop vote standing e = absurd (cc)
parts false Fail None standing e = absurd (cc)
parts false Fail (Some g) standing e = absurd (cc)
parts false (Commit h) None standing e = absurd (cc)
parts false (Commit h) (Some g) standing e =
    elim (cases_Bool (same_hash h g)) [
      | inl t ↦ record { hash = h; outcome = refl; stands = refl; voted = ap (λ (k : Hash). Some k) (sym ((same_hash-Decides h g).0 t)) }
      | inr f ↦ absurd (false≢true (rw f at e))
    ]

parts_at : (v : ℕ) (votes : Votes) (o : Option Mark) → slice_get votes.marks v ≡ o → committed_in v votes ≡ true → IsCommitted v votes
parts_at v votes None there e = absurd (false≢true (rw there at e))
parts_at v votes (Some b) there e =
    let p = parts b.canceled votes.outcome b.vote (standing_of votes) (rw there at e) in
    record { mark = b; hash = p.hash; there = there; outcome = p.outcome; stands = p.stands; vote = p.voted }

pub committed-parts : (v : ℕ) (votes : Votes) → committed_in v votes ≡ true → IsCommitted v votes
committed-parts v votes e = parts_at v votes (slice_get votes.marks v) refl e

from_parts : (canceled : Bool) (o : Outcome) (vote : Option Hash) (standing : Hash → Standing) (h : Hash) → o ≡ Commit h → canceled ≡ false → vote ≡ Some h → is_committed (result_by canceled o vote standing) ≡ true
from_parts canceled o vote standing h e f g = rw (e, f, g, (same_hash-Decides h h).1 refl) refl

pub committed-from : (v : ℕ) (votes : Votes) → IsCommitted v votes → committed_in v votes ≡ true
committed-from v votes c = rw c.there (from_parts c.mark.canceled votes.outcome c.mark.vote (standing_of votes) c.hash c.outcome c.stands c.vote)

pub committed_voted : (v : ℕ) (votes : Votes) → committed_in v votes ≡ true → voted_in v votes ≡ true
committed_voted v votes e = (let c = committed-parts v votes e in rw (c.there, c.vote) refl)

not_open : (h : Hash) (o : Outcome) → o ≡ Commit h → o ≡ Open → ⊥
not_open h o e f = (let g : Open ≡ Commit h = sym f ∙ e in absurd (cc))

outcome_kept : (votes : Votes) (act : Act) (h : Hash) → votes.outcome ≡ Commit h → (after votes act).outcome ≡ Commit h
outcome_kept votes act h e = outcome_stays votes act (not_open h votes.outcome e) ∙ e

if_mark : (t : Bool) (b new : Mark) → (P : Mark → Type 0) → P b → P new → P (if t then new else b)
if_mark true b new P p q = q
if_mark false b new P p q = p

-- a cast takes no voter's commit
pub cast_keeps : (v w : ℕ) (k : Hash) (votes : Votes) → committed_in v votes ≡ true → committed_in v (after votes (Cast w k)) ≡ true
cast_keeps v w k votes e =
    let c = committed-parts v votes e in
    let b = c.mark in
    let vote : (casting k b).vote ≡ Some c.hash = ap (λ (o : Option Hash). first_vote o k) c.vote in
    committed-from v (after votes (Cast w k)) (record {
      mark = if same_index w v then casting k b else b;
      hash = c.hash;
      there = changed_there votes.marks w v (casting k) b c.there;
      outcome = outcome_kept votes (Cast w k) c.hash c.outcome;
      stands = if_mark (same_index w v) b (casting k b) (λ (x : Mark). x.canceled ≡ false) c.stands c.stands;
      vote = if_mark (same_index w v) b (casting k b) (λ (x : Mark). x.vote ≡ Some c.hash) c.vote vote;
    })

pub stop_keeps : (v : ℕ) (votes : Votes) → committed_in v votes ≡ true → committed_in v (after votes StopAct) ≡ true
stop_keeps v votes e =
    let c = committed-parts v votes e in
    committed-from v (after votes StopAct) (record { mark = c.mark; hash = c.hash; there = c.there; outcome = outcome_kept votes StopAct c.hash c.outcome; stands = c.stands; vote = c.vote })

-- nor does a cancel of a voter that isn't committed
pub cancel_keeps : (v w : ℕ) (votes : Votes) → committed_in w votes ≡ false → committed_in v votes ≡ true → committed_in v (after votes (Cancel w)) ≡ true
cancel_keeps v w votes not e =
    elim (cases_Bool (same_index w v)) [
      | inl t ↦ absurd (true≢false (sym e ∙ ap (λ (n : ℕ). committed_in n votes) (sym (same_index-is w v t)) ∙ not))
      | inr f ↦
          (let c = committed-parts v votes e in
          committed-from v (after votes (Cancel w)) (record {
            mark = c.mark;
            hash = c.hash;
            there = rw f at (changed_there votes.marks w v canceling c.mark c.there);
            outcome = outcome_kept votes (Cancel w) c.hash c.outcome;
            stands = c.stands;
            vote = c.vote;
          }))
    ]

-- a cancel commits nothing, and makes no voter committed

canceling_share : (g : Hash) (w : ℕ) (vote : Option Hash) (canceled : Bool) → let b : Mark = record { weight = w; vote = vote; canceled = canceled } in share g (canceling b) ≤ share g b
canceling_share g w vote canceled = omega arith

sum-changed_less : (g : Mark → ℕ) (f : Mark → Mark) (bs : List Mark) (v : ℕ) → ((b : Mark) → g (f b) ≤ g b) → sum_by g (changed_at v f bs) ≤ sum_by g bs
sum-changed_less g f [] v less = omega arith
sum-changed_less g f (b ∷ bs) zero less = omega (arith, sum_by-cons g (f b) bs, sum_by-cons g b bs, less b)
sum-changed_less g f (b ∷ bs) (suc v) less = omega (arith, sum_by-cons g b (changed_at v f bs), sum_by-cons g b bs, sum-changed_less g f bs v less)

decided_no_commit : (c : Option Hash) (l : Bool) (g : Hash) → c ≡ None → decided c l false ≡ Commit g → ⊥
decided_no_commit None true g e f = absurd (cc)
decided_no_commit None false g e f = absurd (cc)
decided_no_commit (Some h) l g e f = absurd (cc)

commits_nothing : (o : Outcome) (threshold : ℕ) (new : List Mark) (g : Hash) → (o ≡ Open → committed_hash threshold new ≡ None) → or_later o (decision threshold new false) ≡ Commit g → o ≡ Commit g
unfolding decision
commits_nothing Open threshold new g none e = absurd (decided_no_commit (committed_hash threshold new) (is_lost threshold new) g (none refl) e)
commits_nothing (Commit h) threshold new g none e = e
commits_nothing Fail threshold new g none e = e
commits_nothing Stop threshold new g none e = e

pub cancel_commits_nothing : (votes : Votes) (w : ℕ) (h : Hash) → IsSound votes → (after votes (Cancel w)).outcome ≡ Commit h → votes.outcome ≡ Commit h
cancel_commits_nothing votes w h sound e =
    let new = marks_after (Cancel w) votes.marks in
    commits_nothing votes.outcome votes.threshold new h
    (λ none_yet. committed_hash-none votes.threshold new (λ g.
    omega (arith, sum-changed_less (share g) canceling votes.marks w (λ b. canceling_share g b.weight b.vote b.canceled), none_commits votes.threshold votes.marks sound.most (sound.none none_yet) g)))
    e

if_canceled : (t : Bool) (b : Mark) → (if t then canceling b else b).canceled ≡ false → b.canceled ≡ false
if_canceled true b e = absurd (true≢false e)
if_canceled false b e = e

if_vote : (t : Bool) (b : Mark) → (if t then canceling b else b).vote ≡ b.vote
if_vote true b = refl
if_vote false b = refl

committed_before : (v w : ℕ) (votes : Votes) → IsSound votes → committed_in v (after votes (Cancel w)) ≡ true → committed_in v votes ≡ true
committed_before v w votes sound e =
    let c = committed-parts v (after votes (Cancel w)) e in
    let r = was_there votes.marks w v canceling c.mark c.there in
    committed-from v votes (record {
      mark = r.mark;
      hash = c.hash;
      there = r.there;
      outcome = cancel_commits_nothing votes w c.hash sound c.outcome;
      stands = if_canceled (same_index w v) r.mark (ap (λ (b : Mark). b.canceled) (sym r.is) ∙ c.stands);
      vote = sym (if_vote (same_index w v) r.mark) ∙ ap (λ (b : Mark). b.vote) (sym r.is) ∙ c.vote;
    })

pub cancel_uncommitted : (v w : ℕ) (votes : Votes) → IsSound votes → committed_in v votes ≡ false → committed_in v (after votes (Cancel w)) ≡ false
cancel_uncommitted v w votes sound not =
    elim (cases_Bool (committed_in v (after votes (Cancel w)))) [
      | inl t ↦ absurd (true≢false (sym (committed_before v w votes sound t) ∙ not))
      | inr f ↦ f
    ]

-- who has voted

voted_at : (v w : ℕ) (bs : List Mark) (f : Mark → Mark) → ((b : Mark) → (f b).vote ≡ b.vote) → has_vote (slice_get (changed_at w f bs) v) ≡ has_vote (slice_get bs v)
voted_at v w [] f same = refl
voted_at zero zero (x ∷ xs) f same = rw (same x) refl
voted_at (suc v) zero (x ∷ xs) f same = refl
voted_at zero (suc w) (x ∷ xs) f same = refl
voted_at (suc v) (suc w) (x ∷ xs) f same = voted_at v w xs f same

pub cancel_voted : (v w : ℕ) (votes : Votes) → voted_in v (after votes (Cancel w)) ≡ voted_in v votes
cancel_voted v w votes = voted_at v w votes.marks canceling (λ b. refl)

cast_at : (v w : ℕ) (bs : List Mark) (f : Mark → Mark) → (same_index w v) ≡ false → has_vote (slice_get (changed_at w f bs) v) ≡ has_vote (slice_get bs v)
cast_at v w [] f apart = refl
cast_at zero zero (x ∷ xs) f apart = absurd (true≢false apart)
cast_at (suc v) zero (x ∷ xs) f apart = refl
cast_at zero (suc w) (x ∷ xs) f apart = refl
cast_at (suc v) (suc w) (x ∷ xs) f apart = cast_at v w xs f apart

pub cast_voted : (v w : ℕ) (k : Hash) (votes : Votes) → (same_index w v) ≡ false → voted_in v (after votes (Cast w k)) ≡ voted_in v votes
cast_voted v w k votes apart = cast_at v w votes.marks (casting k) apart

-- what later votes keep of earlier ones
pub record Keeps (old new : Votes) : Type 0 where
  pub threshold : new.threshold ≡ old.threshold
  pub outcome : (old.outcome ≡ Open → ⊥) → new.outcome ≡ old.outcome
  pub sound : IsSound new
  pub committed : (v : ℕ) → committed_in v old ≡ true → committed_in v new ≡ true

pub keeps_all : (votes : Votes) → IsSound votes → Keeps votes votes
keeps_all votes sound = record { threshold = refl; outcome = λ done. refl; sound = sound; committed = λ v e. e }

pub keeps-trans : (a b c : Votes) → Keeps a b → Keeps b c → Keeps a c
keeps-trans a b c k l = record {
  threshold = l.threshold ∙ k.threshold;
  outcome = λ done. l.outcome (λ e. done (sym (k.outcome done) ∙ e)) ∙ k.outcome done;
  sound = l.sound;
  committed = λ v e. l.committed v (k.committed v e);
}

pub cast_kept : (votes : Votes) (w : ℕ) (h : Hash) → IsSound votes → Keeps votes (after votes (Cast w h))
cast_kept votes w h sound = record { threshold = refl; outcome = outcome_stays votes (Cast w h); sound = cast_sound votes w h sound; committed = λ v e. cast_keeps v w h votes e }

pub stop_kept : (votes : Votes) → IsSound votes → Keeps votes (after votes StopAct)
stop_kept votes sound = record { threshold = refl; outcome = outcome_stays votes StopAct; sound = stop_sound votes sound; committed = λ v e. stop_keeps v votes e }

-- .. and no voter voted
pub record KeepsVotes (old new : Votes) : Type 0 where
  pub keeps : Keeps old new
  pub voted : (v : ℕ) → voted_in v new ≡ voted_in v old

pub votes_kept : (votes : Votes) → IsSound votes → KeepsVotes votes votes
votes_kept votes sound = record { keeps = keeps_all votes sound; voted = λ v. refl }

pub stop_votes : (votes : Votes) → IsSound votes → KeepsVotes votes (after votes StopAct)
stop_votes votes sound = record { keeps = stop_kept votes sound; voted = λ v. refl }

-- .. and no voter became committed
pub record KeepsVoters (old new : Votes) : Type 0 where
  pub votes : KeepsVotes old new
  pub uncommitted : (v : ℕ) → committed_in v old ≡ false → committed_in v new ≡ false

pub voters_kept : (votes : Votes) → IsSound votes → KeepsVoters votes votes
voters_kept votes sound = record { votes = votes_kept votes sound; uncommitted = λ v e. e }

pub keeps_voters-trans : (a b c : Votes) → KeepsVoters a b → KeepsVoters b c → KeepsVoters a c
keeps_voters-trans a b c k l = record {
  votes = record { keeps = keeps-trans a b c k.votes.keeps l.votes.keeps; voted = λ v. l.votes.voted v ∙ k.votes.voted v };
  uncommitted = λ v e. l.uncommitted v (k.uncommitted v e);
}

pub cancel_kept : (votes : Votes) (w : ℕ) → IsSound votes → committed_in w votes ≡ false → KeepsVoters votes (after votes (Cancel w))
cancel_kept votes w sound not = record {
  votes = record {
    keeps = record { threshold = refl; outcome = outcome_stays votes (Cancel w); sound = cancel_sound votes w sound not; committed = λ v e. cancel_keeps v w votes not e };
    voted = λ v. cancel_voted v w votes;
  };
  uncommitted = λ v e. cancel_uncommitted v w votes sound e;
}

-- none of the voters is committed
abbrev pub NoneCommitted : Votes → List ℕ → Type 0
NoneCommitted votes voters = AllByRecursion (λ v. committed_in v votes ≡ false) voters

pub none_committed-kept : (old new : Votes) (voters : List ℕ) → KeepsVoters old new → NoneCommitted old voters → NoneCommitted new voters
none_committed-kept old new [] k none = tt
none_committed-kept old new (w ∷ ws) k none = (k.uncommitted w none.0, none_committed-kept old new ws k none.1)

pub cancels_kept : (voters : List ℕ) (votes : Votes) → IsSound votes → NoneCommitted votes voters → KeepsVoters votes (run (map Cancel voters) votes)
cancels_kept [] votes sound none = voters_kept votes sound
cancels_kept (w ∷ ws) votes sound none =
    let k : KeepsVoters votes (after votes (Cancel w)) = cancel_kept votes w sound none.0 in
    keeps_voters-trans votes (after votes (Cancel w)) (run (map Cancel ws) (after votes (Cancel w))) k
    (cancels_kept ws (after votes (Cancel w)) k.votes.keeps.sound (none_committed-kept votes (after votes (Cancel w)) ws k none.1))

-- an undecided voter isn't committed

not_both : (r : VoterResult) → is_undecided r ≡ true → is_committed r ≡ false
not_both result.Open t = refl
not_both (result.Committed s) t = absurd (false≢true t)
not_both result.Failed t = refl
not_both result.Canceled t = refl
not_both result.Stopped t = refl

undecided_none : (votes : Votes) (bs : List Mark) (i : ℕ) → ((k : ℕ) → slice_get bs k ≡ slice_get votes.marks (i + k)) → NoneCommitted votes (undecided_from votes i bs)
undecided_none votes [] i at = tt
undecided_none votes (b ∷ bs) i at =
    let there : slice_get votes.marks i ≡ Some b = ap (λ (n : ℕ). slice_get votes.marks n) (let z : i ≡ i + 0 = omega arith in z) ∙ sym (at 0) in
    let rest : NoneCommitted votes (undecided_from votes (i + 1) bs) = undecided_none votes bs (i + 1) (λ k. at (suc k) ∙ ap (λ (n : ℕ). slice_get votes.marks n) (let z : i + suc k ≡ i + 1 + k = omega arith in z)) in
    elim (cases_Bool (is_undecided (result_of votes b))) [
      | inl t ↦ rw t (rw there (not_both (result_of votes b) t), rest)
      | inr f ↦ rw f rest
    ]

pub all_canceled-kept : (votes : Votes) → IsSound votes → KeepsVoters votes (all_canceled votes)
all_canceled-kept votes sound =
    cancels_kept (undecided_voters votes) votes sound
    (undecided_none votes votes.marks 0 (λ k. ap (λ (n : ℕ). slice_get votes.marks n) (let z : k ≡ 0 + k = omega arith in z)))
