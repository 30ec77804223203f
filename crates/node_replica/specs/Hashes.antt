-- References that name ids of 20 bytes.
use Rattle.std.specs.Prelude.{◌≡◌, ℕ, List, Some}
use Rattle.px_base.specs.Hash.{IsHash}
use Rattle.px_base.specs.RefList.{References, ref_at}
use Rattle.px_base.specs.declared.hash.Hash.{Hash}

-- each reference names one
abbrev pub NameHashes : References → Type 0
NameHashes refs = (name : List ℕ) (id : Hash) → ref_at refs name ≡ Some id → IsHash id
