-- What subtransactions keep, place by place, and that they stay a chain.
use Rattle.std.proofs.Common.{List, [], ◌∷◌, sym, ◌∙◌}
use Rattle.std.specs.List.{AllByRecursion}
use Rattle.voters.specs.Votes.{Votes}
use Rattle.voters.proofs.KeepLemmas.{Keeps, keeps_all, keeps-trans, KeepsVotes, votes_kept}
use Rattle.txmanager.specs.Chain.{Follows, IsChain}

-- each one keeps what stood in its place
abbrev pub KeepEach : List Votes → List Votes → Type 0
KeepEach [] [] = Unit {0}
KeepEach [] (b ∷ bs) = ⊥
KeepEach (a ∷ olds) [] = ⊥
KeepEach (a ∷ olds) (b ∷ bs) = Keeps a b × KeepEach olds bs

-- .. and in none of them a voter voted
abbrev pub KeepEachVotes : List Votes → List Votes → Type 0
KeepEachVotes [] [] = Unit {0}
KeepEachVotes [] (b ∷ bs) = ⊥
KeepEachVotes (a ∷ olds) [] = ⊥
KeepEachVotes (a ∷ olds) (b ∷ bs) = KeepsVotes a b × KeepEachVotes olds bs

pub keep_each : (xs ys : List Votes) → KeepEachVotes xs ys → KeepEach xs ys
keep_each [] [] k = tt
keep_each [] (y ∷ ys) k = absurd k
keep_each (x ∷ xs) [] k = absurd k
keep_each (x ∷ xs) (y ∷ ys) k = (k.0.keeps, keep_each xs ys k.1)

pub keep_each-trans : (xs ys zs : List Votes) → KeepEach xs ys → KeepEach ys zs → KeepEach xs zs
keep_each-trans [] [] [] k l = tt
keep_each-trans [] [] (z ∷ zs) k l = absurd l
keep_each-trans [] (y ∷ ys) zs k l = absurd k
keep_each-trans (x ∷ xs) [] zs k l = absurd k
keep_each-trans (x ∷ xs) (y ∷ ys) [] k l = absurd l
keep_each-trans (x ∷ xs) (y ∷ ys) (z ∷ zs) k l = (keeps-trans x y z k.0 l.0, keep_each-trans xs ys zs k.1 l.1)

keeps_votes-trans : (a b c : Votes) → KeepsVotes a b → KeepsVotes b c → KeepsVotes a c
keeps_votes-trans a b c k l = record { keeps = keeps-trans a b c k.keeps l.keeps; voted = λ v. l.voted v ∙ k.voted v }

pub keep_each_votes-trans : (xs ys zs : List Votes) → KeepEachVotes xs ys → KeepEachVotes ys zs → KeepEachVotes xs zs
keep_each_votes-trans [] [] [] k l = tt
keep_each_votes-trans [] [] (z ∷ zs) k l = absurd l
keep_each_votes-trans [] (y ∷ ys) zs k l = absurd k
keep_each_votes-trans (x ∷ xs) [] zs k l = absurd k
keep_each_votes-trans (x ∷ xs) (y ∷ ys) [] k l = absurd l
keep_each_votes-trans (x ∷ xs) (y ∷ ys) (z ∷ zs) k l = (keeps_votes-trans x y z k.0 l.0, keep_each_votes-trans xs ys zs k.1 l.1)

pub keep_each-all : (xs : List Votes) → IsChain xs → KeepEach xs xs
keep_each-all [] is = tt
keep_each-all (x ∷ xs) is = (keeps_all x is.0, keep_each-all xs is.2)

pub keep_each_votes-all : (xs : List Votes) → IsChain xs → KeepEachVotes xs xs
keep_each_votes-all [] is = tt
keep_each_votes-all (x ∷ xs) is = (votes_kept x is.0, keep_each_votes-all xs is.2)

-- who follows the old one follows what keeps it
pub follows_kept : (a b : Votes) (later : List Votes) → Keeps a b → AllByRecursion (λ next. Follows a next) later → AllByRecursion (λ next. Follows b next) later
follows_kept a b [] k all = tt
follows_kept a b (x ∷ xs) k all = (λ v e. k.committed v (all.0 v e), follows_kept a b xs k all.1)

-- those in which nobody voted since follow as before
follows_each : (a : Votes) (xs ys : List Votes) → KeepEachVotes xs ys → AllByRecursion (λ next. Follows a next) xs → AllByRecursion (λ next. Follows a next) ys
follows_each a [] [] k all = tt
follows_each a [] (y ∷ ys) k all = absurd k
follows_each a (x ∷ xs) [] k all = absurd k
follows_each a (x ∷ xs) (y ∷ ys) k all = (λ v e. all.0 v (sym (k.0.voted v) ∙ e), follows_each a xs ys k.1 all.1)

pub chain_kept : (xs ys : List Votes) → KeepEachVotes xs ys → IsChain xs → IsChain ys
chain_kept [] [] k is = tt
chain_kept [] (y ∷ ys) k is = absurd k
chain_kept (x ∷ xs) [] k is = absurd k
chain_kept (x ∷ xs) (y ∷ ys) k is = (k.0.keeps.sound, follows_kept x y ys k.0.keeps (follows_each x xs ys k.1 is.1), chain_kept xs ys k.1 is.2)

-- each keeps what stood in its place, and they are a chain
pub record Step (xs ys : List Votes) : Type 0 where
  pub keeps : KeepEach xs ys
  pub chain : IsChain ys

pub step-trans : (xs ys zs : List Votes) → Step xs ys → Step ys zs → Step xs zs
step-trans xs ys zs s t = record { keeps = keep_each-trans xs ys zs s.keeps t.keeps; chain = t.chain }

pub from_kept : (xs ys : List Votes) → IsChain xs → KeepEachVotes xs ys → Step xs ys
from_kept xs ys is k = record { keeps = keep_each xs ys k; chain = chain_kept xs ys k is }
