-- Products of folds as they are kept: 9 stands for all that are more than 8.
use Rattle.std.specs.Prelude.{◌≡◌, ℕ, ◌*◌, min, nat_lt, Option, Some, List, [], cond, unwrap_or, take, fold, bytes_eq, Vec, option_and_then, slice_get}
use Rattle.std.specs.Option.{option_map_or}
use Rattle.std.specs.BTreeMap.{BTreeMap}
use Rattle.std.specs.declared.alloc.Global.{Global}
use Rattle.spec_schema.specs.declared.spec_error.SpecKind.TheVariants.{Wrong}
use Rattle.vega_parts.specs.declared.part.Part.{Part}
use Rattle.vega_parts.specs.declared.part.Part.TheVariants as part
use Rattle.vega_parts.specs.declared.part.GivenName.{GivenName}
use Rattle.vega_parts.specs.declared.part.UsedName.{UsedName}
use Rattle.vega_rules.specs.declared.fault.PlacedFault.{PlacedFault}
use Rattle.vega_rules.specs.Faults.{fault_if}
use Rattle.vega_rules.specs.Folds.{used_by, source_of, product_of, folded}
use Rattle.vega_rules.specs.Resolved.{resolved_use}
use Rattle.vega_rules.specs.inner.Keyed.{number_at}

-- the product of a data set
abbrev pub kept_product : BTreeMap (Vec ℕ Global) ℕ → List ℕ → ℕ
kept_product known set = unwrap_or (number_at known set) 1

-- that of what a source means
abbrev pub kept_by : List Part → BTreeMap (Vec ℕ Global) ℕ → UsedName → ℕ
kept_by parts known u = option_map_or (λ (name : GivenName). kept_product known name.of) (resolved_use parts u) 1

-- that with which a data set begins
abbrev pub kept_begun : List Part → BTreeMap (Vec ℕ Global) ℕ → List ℕ → ℕ
kept_begun parts known set = option_map_or (kept_by parts known) (source_of parts set) 1

-- with one more fold
abbrev pub times : ℕ → ℕ → ℕ
times product fields = min (product * fields) 9

-- what is kept after a part
abbrev pub kept_after : List Part → BTreeMap (Vec ℕ Global) ℕ → Part → List ℕ → Option ℕ
kept_after parts known (part.Data set) q = cond (bytes_eq q set) (Some (kept_begun parts known set)) (number_at known q)
kept_after parts known (part.Fold at set fields) q = cond (bytes_eq q set) (Some (times (kept_product known set) fields))
    (number_at known q)
kept_after parts known other q = number_at known q

-- a fold by which the product passes 8
abbrev pub kept_passes : BTreeMap (Vec ℕ Global) ℕ → Part → List PlacedFault
kept_passes known (part.Fold at set fields) = fault_if (nat_lt 8 (times (kept_product known set) fields)) Wrong at
kept_passes known other = []

-- what is kept says what is known
abbrev pub Tells : BTreeMap (Vec ℕ Global) ℕ → List (List ℕ × ℕ) → Type 0
Tells kept known = (q : List ℕ) → kept_product kept q ≡ min (product_of known q) 9

-- what is known before the part of a number
abbrev pub known_before : List Part → ℕ → List (List ℕ × ℕ)
known_before parts number = fold (folded parts) [] (take number parts)

-- the name that the part of a number uses
abbrev pub use_at : List Part → Option ℕ → Option UsedName
use_at parts number = option_and_then (λ i. option_and_then used_by (slice_get parts i)) number
