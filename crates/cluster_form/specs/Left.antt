-- A generation is left for each push that is not decided yet: the vote that decides can raise newest.
use Rattle.std.specs.Prelude.{◌≡◌, ◌<◌, ◌-◌, ◌^◌, true, Some}
use Rattle.std.specs.List.{AllByRecursion}
use Rattle.txmanager.specs.Voting.{Voting}
use Rattle.px_cluster.specs.Book.{Repository}
use Rattle.px_cluster.specs.Core.{Core, OpenPush, repository, voting}
use Rattle.px_cluster.specs.Pushes.{is_open, prepared_outcome}
use Rattle.cluster_form.specs.Form.{IsFormed}

-- as long as the first phase is open, the newest generation of the repository is not the last one
abbrev pub IsLeft : Core → OpenPush → Type 0
IsLeft core push = (book : Repository) (vote : Voting) → repository core push.repo ≡ Some book
    → voting core push.tx ≡ Some vote → is_open (prepared_outcome vote) ≡ true
    → book.newest < 2 ^ 64 - 1

abbrev pub AreLeft : Core → Type 0
AreLeft core = AllByRecursion (IsLeft core) core.pushes

-- the form of the core, and a generation left for each such push
abbrev pub IsFormedAndLeft : Core → Type 0
IsFormedAndLeft core = IsFormed core × AreLeft core
