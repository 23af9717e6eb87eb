-- What is read where there is no fault.
use Rattle.std.proofs.Common.{◌≡◌, Option, None, Ok, ap, ◌∙◌}
use Rattle.spec_schema.specs.declared.fault.Fault.{Fault}
use Rattle.vega_spec.specs.declared.spec.VgSpec.{VgSpec}
use Rattle.vega_model.specs.Reading.{unless_fault}

pub unless_none : (o : Option Fault) (g h : VgSpec) → o ≡ None → h ≡ g → unless_fault o h ≡ Ok g
unless_none o g h none same = ap (λ (x : Option Fault). unless_fault x h) none ∙ ap (λ (x : VgSpec). unless_fault None x) same
