-- Faults and the earliest of them.
use Rattle.std.specs.Prelude.{◌≡◌, ℕ, if◌then◌else◌, Bool, Option, Some, None, List, [], ◌∷◌, refl}
use Rattle.spec_schema.specs.declared.spec_error.SpecKind.{SpecKind}
use Rattle.spec_schema.specs.declared.spec_error.SpecKind.TheVariants.{Unsupported, Wrong}
use Rattle.spec_schema.specs.Order.{is_before}
use Rattle.vega_parts.specs.declared.part.Part.{Part}
use Rattle.vega_parts.specs.declared.part.Part.TheVariants as part
use Rattle.vega_rules.specs.declared.fault.PlacedFault.{PlacedFault}

-- a fault at a place
abbrev pub fault_at : SpecKind → List ℕ → PlacedFault
fault_at kind at = record { place = at; kind = kind }

-- a fault at a place, where a test says that there is one
abbrev pub fault_if : Bool → SpecKind → List ℕ → List PlacedFault
fault_if test kind at = if test then fault_at kind at ∷ [] else []

-- the one of two faults that stands first, and the first one where both stand at the same place
abbrev pub sooner : Option PlacedFault → Option PlacedFault → Option PlacedFault
sooner None other = other
sooner (Some fault) None = Some fault
sooner (Some fault) (Some other) = if is_before other.place fault.place then Some other else Some fault

-- the one that stands first of all, and the first of these in the list
abbrev pub earliest : List PlacedFault → Option PlacedFault
earliest [] = None
earliest (fault ∷ others) = sooner (Some fault) (earliest others)

-- the faults that show where they stand
abbrev pub shown_by : Part → List PlacedFault
shown_by (part.Fault at kind) = fault_at kind at ∷ []
shown_by other = []

the_first_in_the_text : earliest (fault_at Wrong (2 ∷ []) ∷ fault_at Unsupported (1 ∷ 7 ∷ []) ∷ fault_at Wrong (1 ∷ 7 ∷ []) ∷ [])
    ≡ Some (fault_at Unsupported (1 ∷ 7 ∷ []))
the_first_in_the_text = refl
