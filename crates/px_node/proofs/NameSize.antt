-- The names of objects have 20 bytes.
use Rattle.std.proofs.Common.{◌≡◌, length, refl}
use Rattle.sha1.specs.Sha1 as digest
use Rattle.object_format.specs.Name as name
use Rattle.px_base.specs.Object.{GitObject}
use Rattle.objstore.specs.Entries.{own_name}

pub name_size : (object : GitObject) → length (own_name object).0 ≡ 20
unfolding name.object_name digest.sha1 digest.digest_bytes
name_size object = refl
