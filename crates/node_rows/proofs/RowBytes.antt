-- What the bytes of rows determine.
use Rattle.std.proofs.Common.{◌≡◌, ◌<◌, ◌-◌, ◌^◌, ◌++◌, ◌∷◌, [], ℕ, List, Bool, Option, Some, None, arith, ap, ◌∙◌}
use Rattle.std.specs.Option.{IfSome}
use Rattle.px_base.specs.Object.{GitObject}
use Rattle.px_base.specs.declared.kind.Kind.{Kind}
use Rattle.px_fields.proofs.OneValue.{one_code, one_flag, one_optional, one_u64}
use Rattle.px_fields.specs.Fields.{flag, optional_u64}
use Rattle.node_rows.specs.Rows.{object_bytes, replica_bytes}

-- ---- table 6

-- the lease, if there is one, fits into its bytes
abbrev pub LastFits : Option ℕ → Type 0
LastFits last = IfSome last (λ lease. lease < 2 ^ 64 - 1)

-- and then it is a number of eight bytes
lease_is_number : (last : Option ℕ) → LastFits last → IfSome last (λ lease. lease < 2 ^ 64)
lease_is_number None fits = tt
lease_is_number (Some lease) fits = omega (arith, fits)

-- two fences, two last leases and two flags are one
pub record OneReplica (fence other : ℕ) (last also : Option ℕ) (held stays : Bool) : Type 0 where
  pub same_fence : fence ≡ other
  pub same_last : last ≡ also
  pub same_held : held ≡ stays

-- as they are where their bytes are one, and fit
pub one_replica : (fence other : ℕ) (last also : Option ℕ) (held stays : Bool) → fence < 2 ^ 64
    → other < 2 ^ 64 → LastFits last → LastFits also
    → replica_bytes fence last held ≡ replica_bytes other also stays
    → OneReplica fence other last also held stays
one_replica fence other last also held stays fits other_fits last_fits also_fits same =
    let first = one_u64 fence other (optional_u64 last ++ flag held ∷ [])
    (optional_u64 also ++ flag stays ∷ []) fits other_fits same in
    let second = one_optional last also (flag held ∷ []) (flag stays ∷ [])
    (lease_is_number last last_fits) (lease_is_number also also_fits) first.1 in
    record {
      same_fence = first.0;
      same_last = second.0;
      same_held = (one_flag held stays [] [] second.1).0;
    }

-- ---- table 8

-- objects of the same bytes are one
pub one_object : (object other : GitObject) → object_bytes object ≡ object_bytes other
    → object ≡ other
one_object object other same =
    ap (λ (k : Kind). let o : GitObject = record { kind = k; content = object.content } in o)
    (one_code object.kind other.kind (cc))
    ∙ ap (λ (c : List ℕ). let o : GitObject = record { kind = other.kind; content = c } in o) (cc)
