-- That a specification is read again.
use Rattle.std.specs.Prelude.{◌≡◌, None, Ok}
use Rattle.vega_spec.specs.declared.spec.VgSpec.{VgSpec}
use Rattle.vega_writing.specs.Spec.{tree_of}
use Rattle.vega_model.specs.RoundTrip.{HasCodes, HasReadings}
use Rattle.vega_model.specs.Faults.{first_fault_of}
use Rattle.vega_model.specs.Reading.{read_of}

-- a specification breaks no rule: the tree that is written of it, its members in the order of the table, has no fault
abbrev pub BreaksNoRule : VgSpec → Type 0
BreaksNoRule g = first_fault_of (tree_of g) ≡ None

-- where it breaks none, its codes stand in their tables and its expressions are readings, it is what is read of that tree
abbrev pub WrittenIsRead : Type 0
WrittenIsRead = (g : VgSpec) → BreaksNoRule g → HasCodes g → HasReadings g → read_of (tree_of g) ≡ Ok g
