-- What the laws of the top ask of a state: each state of the chart has it, but for tests of lost parameters, where names of parameters differ.
use Rattle.std.specs.Prelude.{All}
use Rattle.cell_value.specs.State.{State}
use Rattle.vl_spec.specs.declared.spec.VlSpec.{VlSpec}
use Rattle.chart_plan.specs.Plan.{plan_of}
use Rattle.chart_meaning.specs.Parameters.{values_in}
use Rattle.chart_meaning.specs.Semantics.{IsChartState}
use Rattle.compiled_rows.specs.Lists.{HasFewUnits}
use Rattle.compiled_rows.specs.Tops.{HasTop, UnitTestsNoLost}
use Rattle.compiled_rows.specs.Values.{NamesDiffer}

abbrev pub ChartStatesHaveTop : Type 0
ChartStatesHaveTop = (s : VlSpec) (st : State) → IsChartState s st → NamesDiffer s.params
    → All (UnitTestsNoLost (values_in s.params st)) (plan_of s).units → HasFewUnits s → HasTop s st
