-- At the top of a compiled specification the names of units stand for the rows that units have in the direct meaning: in the chart itself as a copy.
use Rattle.std.specs.Prelude.{◌≡◌, ℕ, true, Some, List, slice_get}
use Rattle.cell_value.specs.State.{Dataset}
use Rattle.expr_eval.specs.Values.{Values}
use Rattle.vl_spec.specs.declared.spec.VlSpec.{VlSpec}
use Rattle.plan_kit.specs.declared.plans.UnitPlan.{UnitPlan}
use Rattle.chart_plan.specs.Plan.{plan_of}
use Rattle.vega_lists.specs.Scopes.{Scope}
use Rattle.vega_assemble.specs.Assembled.{is_begun}
use Rattle.vega_assemble.specs.Names.{unit_name, begun_name}
use Rattle.chart_meaning.specs.Parts.{Copy, whole_copy}
use Rattle.compiled_rows.specs.Lists.{HasFewUnits, HasSources, IsRead, stem_of}
use Rattle.compiled_rows.specs.Steps.{IsNull}

-- Where names stand for lists, and the chart is a copy, the name of a unit stands for the rows that the copy has of it.
abbrev pub RowsAreLinked : Type 0
RowsAreLinked = (s : VlSpec) (values : Values) (sources : List Dataset) → HasSources sources s → HasFewUnits s → IsNull values (stem_of s)
    → (scope : Scope) → IsRead s values sources scope → (copy : Copy) → whole_copy values sources (plan_of s) ≡ Some copy
    → (k : ℕ) (u : UnitPlan) → slice_get (plan_of s).units k ≡ Some u → scope (unit_name (stem_of s) k) ≡ copy.rows k

-- So does that of its rows before the aggregate, where something reads them.
abbrev pub BegunAreLinked : Type 0
BegunAreLinked = (s : VlSpec) (values : Values) (sources : List Dataset) → HasSources sources s → HasFewUnits s → IsNull values (stem_of s)
    → (scope : Scope) → IsRead s values sources scope → (copy : Copy) → whole_copy values sources (plan_of s) ≡ Some copy
    → (k : ℕ) (u : UnitPlan) → slice_get (plan_of s).units k ≡ Some u → is_begun (plan_of s) u ≡ true
    → scope (begun_name (stem_of s) k) ≡ copy.begun k
