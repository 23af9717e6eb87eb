-- The states of a chart give values to its parameters and have stores of its selections.
use Rattle.cell_value.specs.State.{State}
use Rattle.vl_spec.specs.declared.spec.VlSpec.{VlSpec}
use Rattle.chart_meaning.specs.Semantics.{IsChartState}
use Rattle.compiled_rows.specs.Values.{IsStateOfParams}

-- A state of a specification gives a value to each parameter that can be set, and has a store for each selection.
abbrev pub ChartStatesAreOfParams : Type 0
ChartStatesAreOfParams = (s : VlSpec) (st : State) → IsChartState s st → IsStateOfParams s.params st
