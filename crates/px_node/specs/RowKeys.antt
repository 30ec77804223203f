-- What rows of references and of objects tell, whatever the node has.
use Rattle.std.specs.Prelude.{◌≡◌, ℕ, List, length, Some}
use Rattle.px_base.specs.Hash.{IsHash}
use Rattle.px_base.specs.Object.{GitObject, IsSmall}
use Rattle.px_base.specs.RefName.{IsRefName}
use Rattle.px_base.specs.RepoPath.{IsRepoPath}
use Rattle.px_base.specs.declared.hash.Hash.{Hash}
use Rattle.node_rows.specs.Rows.{cut, object_bytes}

-- a row of table 7 tells that the repository under a path has a reference of that name to that id
pub record TellsRef (key value path name : List ℕ) (id : Hash) : Type 0 where
  pub parts : cut key ≡ Some (path, name)
  pub lawful : IsRepoPath path
  pub named : IsRefName name
  pub is : value ≡ id.0
  pub hash : IsHash id

-- a row of table 8 tells that it has that object under that id
pub record TellsObject (key value path : List ℕ) (id : Hash) (object : GitObject) : Type 0 where
  pub parts : cut key ≡ Some (path, id.0)
  pub lawful : IsRepoPath path
  pub size : length id.0 ≡ 20
  pub is : value ≡ object_bytes object
  pub small : IsSmall object.content
