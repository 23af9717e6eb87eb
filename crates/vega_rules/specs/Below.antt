-- Marks that a signal names.
use Rattle.std.specs.Prelude.{◌≡◌, ℕ, Bool, true, false, ◌&&◌, not, Option, Some, None, List, [], ◌∷◌, flat_map, bytes_eq, codes, refl}
use Rattle.std.specs.List.{list_any}
use Rattle.spec_schema.specs.declared.spec_error.SpecKind.TheVariants.{Wrong}
use Rattle.vega_parts.specs.declared.part.Part.{Part}
use Rattle.vega_parts.specs.declared.part.Part.TheVariants as part
use Rattle.vega_parts.specs.declared.part.UsedName.{UsedName}
use Rattle.vega_parts.specs.declared.part.Used.{Used}
use Rattle.vega_parts.specs.declared.part.Used.TheVariants as used
use Rattle.vega_rules.specs.declared.fault.PlacedFault.{PlacedFault}
use Rattle.vega_rules.specs.Faults.{fault_if}
use Rattle.vega_rules.specs.Places.{is_inside}

-- it is the name of a mark below the object
abbrev pub is_of_mark : Used → Bool
is_of_mark used.Source = false
is_of_mark used.From = false
is_of_mark used.MarkRows = false
is_of_mark used.FacetRows = false
is_of_mark used.Domain = false
is_of_mark used.Signal = false
is_of_mark used.Store = false
is_of_mark used.Scale = false
is_of_mark used.SizedScale = false
is_of_mark used.MarkBelow = true

-- a mark or group at a place has this name and stands below the object
abbrev pub is_named_below : List ℕ → List ℕ → List ℕ → Option (List ℕ) → Bool
is_named_below name scope at None = false
is_named_below name scope at (Some own) = bytes_eq name own && is_inside scope at

-- a part is such a mark
abbrev pub is_mark_below : List ℕ → List ℕ → Part → Bool
is_mark_below name scope (part.Mark at object own group) = is_named_below name scope at own
is_mark_below name scope other = false

-- no mark below the object has the name
abbrev pub lacks_mark : List Part → UsedName → Bool
lacks_mark parts u = is_of_mark u.kind && not (list_any (is_mark_below u.name u.scope) parts)

-- the fault of a part
abbrev pub below_by : List Part → Part → List PlacedFault
below_by parts (part.Used u) = fault_if (lacks_mark parts u) Wrong u.at
below_by parts other = []

-- the names of marks that no mark below the object has
abbrev pub below : List Part → List PlacedFault
below parts = flat_map (below_by parts) parts

-- ---- worked example

a_group_is_not_below_itself : lacks_mark (part.Mark (1 ∷ 0 ∷ []) [] (Some (codes "m")) true ∷ [])
    record { kind = used.MarkBelow; scope = 1 ∷ 0 ∷ []; at = 1 ∷ 0 ∷ 0 ∷ []; name = codes "m" } ≡ true
a_group_is_not_below_itself = refl
