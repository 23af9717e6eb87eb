-- Faults of rules, and the earliest of them.
use Rattle.std.specs.Prelude.{◌≡◌, ℕ, ◌+◌, Bool, if◌then◌else◌, Option, Some, None, List, [], ◌∷◌, ◌++◌, length, map, unwrap_or, refl}
use Rattle.std.specs.Option.{option_map}
use Rattle.json_exact.specs.declared.json.Json.{Json}
use Rattle.json_exact.specs.declared.json.Member.{Member}
use Rattle.spec_schema.specs.declared.spec_error.SpecKind.{SpecKind}
use Rattle.spec_schema.specs.declared.spec_error.SpecKind.TheVariants.{Unsupported, Missing, Wrong}
use Rattle.spec_schema.specs.declared.fault.Fault.{Fault}
use Rattle.spec_schema.specs.Faults.{path_word}
use Rattle.spec_schema.specs.Order.{earlier}
use Rattle.spec_walk.specs.Paths.{path_of}
use Rattle.vl_trails.specs.declared.fault.RuleFault.{RuleFault}
use Rattle.vl_trails.specs.declared.fault.Broken.{Broken}
use Rattle.vl_trails.specs.declared.fault.Broken.TheVariants as broken
use Rattle.vl_trails.specs.Trails.{Trail, behind_all, place_of, members_at}

-- a fault of this kind at a value
abbrev pub fault_at : SpecKind → Trail → RuleFault
fault_at kind trail = record { trail = trail; what = broken.Value kind }

-- a value is wrong
abbrev pub wrong_at : Trail → RuleFault
wrong_at trail = fault_at Wrong trail

-- an object lacks the member of a name, which the rule of this number asks
abbrev pub missing_at : Trail → ℕ → List ℕ → RuleFault
missing_at trail number name = record { trail = trail; what = broken.Missing number name }

-- a value has a fault of this kind, where a test says so
abbrev pub fault_if : Bool → SpecKind → Trail → List RuleFault
fault_if test kind trail = if test then fault_at kind trail ∷ [] else []

-- a value is wrong, where a test says so
abbrev pub wrong_if : Bool → Trail → List RuleFault
wrong_if test trail = fault_if test Wrong trail

-- a missing member stands after those that are there, by the number of its rule
abbrev pub missing_place : Json → Trail → ℕ → List ℕ
missing_place tree trail number =
    unwrap_or (option_map (λ (members : List Member). place_of tree trail ++ (length members + number) ∷ []) (members_at tree trail)) behind_all

-- a fault where it stands in a tree
abbrev pub placed_as : Json → Trail → Broken → Fault
placed_as tree trail (broken.Value kind) = record { place = place_of tree trail; path = path_of tree (place_of tree trail); kind = kind }
placed_as tree trail (broken.Missing number name) = record {
  place = missing_place tree trail number;
  path = path_of tree (place_of tree trail) ++ path_word name;
  kind = Missing;
}

abbrev pub placed : Json → RuleFault → Fault
placed tree fault = placed_as tree fault.trail fault.what

-- the fault that stands first of all, and the first in the list of those at one place
abbrev pub earliest : List Fault → Option Fault
earliest [] = None
earliest (fault ∷ others) = earlier (Some fault) (earliest others)

-- the fault of rules that stands first in a tree; none exactly where there is no fault
abbrev pub earliest_placed : Json → List RuleFault → Option Fault
earliest_placed tree faults = earliest (map (placed tree) faults)

no_fault : (tree : Json) → earliest_placed tree [] ≡ None
no_fault tree = refl

the_first_in_the_text :
    earliest (record { place = 2 ∷ []; path = []; kind = Wrong } ∷ record { place = 1 ∷ 7 ∷ []; path = []; kind = Unsupported }
    ∷ record { place = 1 ∷ 7 ∷ []; path = []; kind = Wrong } ∷ [])
    ≡ Some (record { place = 1 ∷ 7 ∷ []; path = []; kind = Unsupported })
the_first_in_the_text = refl
