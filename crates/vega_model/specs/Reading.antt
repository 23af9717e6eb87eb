-- What is read of a tree as a Vega specification.
use Rattle.std.specs.Prelude.{ℕ, List, Option, Some, None, Result, Ok, Err}
use Rattle.json_exact.specs.declared.json.Json.{Json}
use Rattle.spec_schema.specs.declared.spec_error.SpecKind.{SpecKind}
use Rattle.spec_schema.specs.declared.spec_error.SpecError.{SpecError}
use Rattle.spec_schema.specs.declared.spec_error.SpecError.TheVariants as error
use Rattle.spec_schema.specs.declared.fault.Fault.{Fault}
use Rattle.vega_spec.specs.declared.spec.VgSpec.{VgSpec}
use Rattle.vega_building.specs.Spec.{spec_of}
use Rattle.vega_model.specs.Faults.{first_fault_of}

-- a path and what is wrong there
abbrev pub Refused : Type 0
Refused = List ℕ × SpecKind

-- which refusal an error stands for, None where it is refused memory
abbrev pub cause : SpecError → Option Refused
cause (error.Fault path kind) = Some (path, kind)
cause error.Memory = None

-- a specification where there is no fault, and else the fault's path and kind
abbrev pub unless_fault : Option Fault → VgSpec → Result VgSpec Refused
unless_fault None g = Ok g
unless_fault (Some fault) g = Err (fault.path, fault.kind)

-- what is read of a tree: the specification that is built of it, unless it has a fault
abbrev pub read_of : Json → Result VgSpec Refused
read_of tree = unless_fault (first_fault_of tree) (spec_of tree)
