-- What is known of an object by its parts.
use Rattle.std.proofs.Common.{◌≡◌, ℕ, List, Option, sym, ap, ◌∙◌}
use Rattle.px_base.specs.Object.{GitObject}
use Rattle.px_base.specs.declared.hash.Hash.{Hash}
use Rattle.px_base.specs.declared.kind.Kind.{Kind}
use Rattle.object_format.specs.Links.{bad_byte}
use Rattle.object_format.specs.Name.{object_name}
use Rattle.objstore.specs.Entries.{own_name}

module _ (object : GitObject) (kind : Kind) (content : List ℕ) (same_kind : kind ≡ object.kind)
    (same_content : content ≡ object.content)
  where
    -- the check of the parts is that of the object
    pub checked : (check bad : Option ℕ) → check ≡ bad_byte kind content → check ≡ bad
        → bad_byte object.kind object.content ≡ bad
    checked check bad is told =
        sym (is ∙ ap (λ (k : Kind). bad_byte k content) same_kind
        ∙ ap (bad_byte object.kind) same_content)
        ∙ told

    -- the name of the parts is that of the object
    pub named : (id : Hash) → id ≡ object_name kind content → own_name object ≡ id
    named id is =
        sym (is ∙ ap (λ (k : Kind). object_name k content) same_kind
        ∙ ap (object_name object.kind) same_content)
