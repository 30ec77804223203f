-- The walk from some ids, which is a queue.
use Rattle.std.specs.Prelude.{◌≡◌, ℕ, zero, suc, List, [], ◌∷◌, ◌++◌, if◌then◌else◌, IsSome, None}
use Rattle.std.specs.List.{Contains}
use Rattle.px_base.specs.declared.hash.Hash.{Hash}
use Rattle.objstore.specs.Entries.{is_among}
use Rattle.objstore.specs.Reach.{Objects, links_in}

-- the ids that were taken from the queue so far, and those that wait in it
pub record Walk : Type 0 where
  pub taken : List Hash
  pub waiting : List Hash

-- none was taken, and none waits
abbrev pub empty : Walk
empty = record { taken = []; waiting = [] }

-- all ids that ever stood in the queue
abbrev pub stood : Walk → List Hash
stood walk = walk.taken ++ walk.waiting

-- the id comes to the back of the queue, unless it ever stood there
unfoldable pub queued : Walk → Hash → Walk
queued walk id =
    if is_among id (stood walk) then walk
    else record { taken = walk.taken; waiting = walk.waiting ++ id ∷ [] }

-- the ids come there in order
abbrev pub all_queued : Walk → List Hash → Walk
all_queued walk [] = walk
all_queued walk (id ∷ ids) = all_queued (queued walk id) ids

-- the id in front is taken, and the links of its object come to the back
abbrev pub one_step : Objects → List Hash → List Hash → Walk
one_step objects taken [] = record { taken = taken; waiting = [] }
one_step objects taken (id ∷ waiting) =
    all_queued (record { taken = taken ++ id ∷ []; waiting = waiting }) (links_in (objects id))

-- the walk of the tips after so many steps: first the tips wait, each once
abbrev pub walk_after : Objects → List Hash → ℕ → Walk
walk_after objects tips zero = all_queued empty tips
walk_after objects tips (suc n) =
    one_step objects (walk_after objects tips n).taken (walk_after objects tips n).waiting

-- the walk of the tips comes to this
pub record IsWalk (objects : Objects) (tips : List Hash) (walk : Walk) : Type 0 where
  pub steps : ℕ
  pub is : walk_after objects tips steps ≡ walk

-- each id of the list has an object
abbrev pub AllFound : Objects → List Hash → Type 0
AllFound objects ids = (id : Hash) → Contains ids id → IsSome (objects id)

-- the first id that the walk takes and that has no object
pub record IsFirstMissing (objects : Objects) (tips : List Hash) (id : Hash) : Type 0 where
  pub taken : List Hash
  pub waiting : List Hash
  pub walk : IsWalk objects tips (record { taken = taken; waiting = id ∷ waiting })
  pub found : AllFound objects taken
  pub missing : objects id ≡ None
