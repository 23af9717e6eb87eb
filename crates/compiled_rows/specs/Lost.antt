-- The data sets of units mention a signal without value exactly where the steps of these units mention a lost parameter. A step counts the stores that it tests
-- among the names that it mentions, a data set doesn't: so it wants that what is tested as a store is no lost parameter, as it is a selection.
use Rattle.std.specs.Prelude.{◌≡◌, ◌≢◌, ℕ, false, Some, List, ◌++◌, All, map}
use Rattle.std.specs.List.{list_any}
use Rattle.cell_value.specs.declared.cell.Cell.TheVariants.{Null}
use Rattle.cell_value.specs.State.{State}
use Rattle.expr_eval.specs.Values.{Values}
use Rattle.expr_syntax.specs.declared.expr.Expr.{Expr}
use Rattle.expr_reading.specs.Mentions.{selections_in}
use Rattle.vega_signals.specs.Lacking.{set_lacks}
use Rattle.vl_spec.specs.declared.params.ParamOf.{ParamOf}
use Rattle.plan_kit.specs.declared.plans.UnitPlan.{UnitPlan}
use Rattle.plan_kit.specs.declared.steps.Step.{Step}
use Rattle.plan_kit.specs.declared.steps.Step.TheVariants as step
use Rattle.chart_meaning.specs.Parameters.{is_lost, values_in}
use Rattle.chart_meaning.specs.Rows.{mention_lost}
use Rattle.vega_assemble.specs.Assembled.{unit_list, begun_list}
use Rattle.vega_assemble.specs.Names.{none_name}
use Rattle.compiled_rows.specs.Values.{IsStateOfParams, name_of}

-- The null signal reads as null, where no parameter has its name.
abbrev pub NullSignalIsNull : Type 0
NullSignalIsNull = (stem : List ℕ) (params : List ParamOf) (st : State) → All (λ name. name ≢ none_name stem) (map name_of params)
    → IsStateOfParams params st → (values_in params st).value (none_name stem) ≡ Some Null

-- no store that an expression tests has the name of a lost parameter, nor one that a step tests
abbrev pub TestsNoLost : Values → Expr → Type 0
TestsNoLost values e = list_any (is_lost values) (selections_in e) ≡ false

abbrev pub StepTestsNoLost : Values → Step → Type 0
StepTestsNoLost values (step.Filter e) = TestsNoLost values e
StepTestsNoLost values (step.Calculate e name) = TestsNoLost values e
StepTestsNoLost values (step.Bin bin) = Unit {0}
StepTestsNoLost values (step.Unit unit) = Unit {0}
StepTestsNoLost values (step.Group group) = Unit {0}
StepTestsNoLost values (step.Join group) = Unit {0}
StepTestsNoLost values (step.Stack stack) = Unit {0}
StepTestsNoLost values (step.Window window) = Unit {0}
StepTestsNoLost values (step.Lookup source lookup) = Unit {0}
StepTestsNoLost values (step.Fold fold) = Unit {0}

-- Where the null signal has a value, the list of a unit mentions a signal without value exactly where its steps mention a lost parameter; so does that of its
-- rows before the aggregate.
abbrev pub UnitsLackAlike : Type 0
UnitsLackAlike = (stem : List ℕ) (values : Values) (u : UnitPlan) → values.value (none_name stem) ≡ Some Null
    → All (StepTestsNoLost values) (u.before ++ u.after) → set_lacks values (unit_list stem u) ≡ mention_lost values (u.before ++ u.after)

abbrev pub BegunLackAlike : Type 0
BegunLackAlike = (stem : List ℕ) (values : Values) (u : UnitPlan) → values.value (none_name stem) ≡ Some Null
    → All (StepTestsNoLost values) u.before → set_lacks values (begun_list stem u) ≡ mention_lost values u.before
