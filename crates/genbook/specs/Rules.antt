-- What a push changes on the book, by the rules of pushes.
use Rattle.std.specs.Prelude.{◌≡◌, ℕ, ◌+◌, List, true, Some}
use Rattle.px_base.specs.declared.ids.StorageId.{StorageId}
use Rattle.txmanager.specs.Voting.{Voting}
use Rattle.px_cluster.specs.Book.{Repository}
use Rattle.px_cluster.specs.Casts.{came_late, decided, is_told}
use Rattle.px_cluster.specs.Core.{OpenPush}
use Rattle.px_cluster.specs.Numbers.{is_one_of}
use Rattle.px_cluster.specs.Pushes.{drawn_for_members}
use Rattle.genbook.specs.Books.{Becomes, Books, on_book}
use Rattle.genbook.specs.Changes.{numbers_of}

-- the next lease is drawn for the members of any push that has these, and its primary is kept
abbrev pub DrawsForMembers : List StorageId → Repository → Repository → Type 0
DrawsForMembers members old new = (push : OpenPush) → push.lease ≡ old.last + 1
    → push.members ≡ numbers_of members → new ≡ drawn_for_members push old

-- these are the storages that are told to commit
abbrev pub AreTold : OpenPush → Voting → List StorageId → Type 0
AreTold push vote told =
    (storage : ℕ) → is_told push vote storage ≡ is_one_of storage (numbers_of told)

-- any push under this lease that tells these storages is decided
abbrev pub Decides : ℕ → List StorageId → Repository → Repository → Type 0
Decides lease told old new = (push : OpenPush) (vote : Voting) → push.lease ≡ lease
    → AreTold push vote told → new ≡ decided push vote old

-- a storage that is told by any push under this lease votes after the decision
abbrev pub CameLate : ℕ → ℕ → Repository → Repository → Type 0
CameLate lease storage old new = (push : OpenPush) (vote : Voting) → push.lease ≡ lease
    → is_told push vote storage ≡ true → new ≡ came_late push vote (Some storage) old

-- ---- the same of the repository of a number, and nothing else

-- a push that has these members begins; the lease is the next one of its repository
abbrev pub BeginsFor : List StorageId → ℕ → Books → Books → Type 0
BeginsFor members repo old new = (push : OpenPush) (before : Repository)
    → on_book old repo ≡ Some before → push.lease ≡ before.last + 1
    → push.members ≡ numbers_of members → Becomes repo (drawn_for_members push) old new

-- any push under this lease that tells these storages is decided
abbrev pub DecidesOn : ℕ → List StorageId → ℕ → Books → Books → Type 0
DecidesOn lease told repo old new = (push : OpenPush) (vote : Voting) → push.lease ≡ lease
    → AreTold push vote told → Becomes repo (decided push vote) old new

-- a storage that is told by any push under this lease votes after the decision
abbrev pub CameLateOn : ℕ → ℕ → ℕ → Books → Books → Type 0
CameLateOn lease storage repo old new = (push : OpenPush) (vote : Voting) → push.lease ≡ lease
    → is_told push vote storage ≡ true → Becomes repo (came_late push vote (Some storage)) old new
