-- Which states are those of a Vega specification.
use Rattle.cell_value.specs.State.{State}
use Rattle.param_flow.specs.States.{IsStateFor}
use Rattle.vega_spec.specs.declared.spec.VgSpec.{VgSpec}
use Rattle.vega_meaning.specs.Semantics.{vega_semantics}

-- The state has the sources that the specification names, in their order, a value for each parameter that can be set, and for each selection a store,
-- one that an event can leave.
abbrev pub IsStateOf : VgSpec → State → Type 0
IsStateOf g st = IsStateFor (vega_semantics g) st
