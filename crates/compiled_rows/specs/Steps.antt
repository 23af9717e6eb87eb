-- The transforms that a compiled specification writes for the steps of a unit make of rows what the steps make.
use Rattle.std.specs.Prelude.{◌≡◌, ℕ, ◌-◌, ◌^◌, ◌≤◌, ℤ, pos, neg_ℤ, ◌≤ℤ◌, Some, List, length, All, IfSome, ◌++◌}
use Rattle.cell_value.specs.declared.cell.Cell.TheVariants.{Null}
use Rattle.cell_value.specs.Datum.{Datum}
use Rattle.cell_value.specs.State.{Dataset}
use Rattle.expr_eval.specs.Values.{Values}
use Rattle.plain_rows.specs.declared.transforms.WindowOf.{WindowOf}
use Rattle.vl_spec.specs.declared.spec.VlSpec.{VlSpec}
use Rattle.plan_kit.specs.declared.plans.UnitPlan.{UnitPlan}
use Rattle.plan_kit.specs.declared.steps.Step.{Step}
use Rattle.plan_kit.specs.declared.steps.Step.TheVariants as step
use Rattle.chart_plan.specs.Plan.{plan_of}
use Rattle.vega_lists.specs.Scopes.{Scope}
use Rattle.vega_lists.specs.Transforms.{transformed, all_transformed}
use Rattle.vega_assemble.specs.Names.{none_name}
use Rattle.vega_assemble.specs.Steps.{step_written, steps_written}
use Rattle.chart_meaning.specs.Rows.{rows_named, stepped, all_stepped}

-- ---- the numbers of steps

-- a count of 32 bits
abbrev pub IsCount : ℕ → Type 0
IsCount n = n ≤ 2 ^ 32 - 1

-- an offset of 32 bits
pub record IsOffset (n : ℤ) : Type 0 where
  pub least : neg_ℤ (pos (2 ^ 31)) ≤ℤ n
  pub greatest : n ≤ℤ pos (2 ^ 31 - 1)

-- a window has such numbers, one for each of its operations, and such bounds
pub record WindowFits (w : WindowOf) : Type 0 where
  pub each : length w.params ≡ length w.ops
  pub counts : All IsCount w.params
  pub before : IfSome w.before IsOffset
  pub after : IfSome w.after IsOffset

-- the numbers of a step are such, as are those of all steps of a plan
abbrev pub StepFits : Step → Type 0
StepFits (step.Filter e) = Unit {0}
StepFits (step.Calculate e name) = Unit {0}
StepFits (step.Bin b) = IsCount b.maxbins
StepFits (step.Unit t) = Unit {0}
StepFits (step.Group g) = Unit {0}
StepFits (step.Join g) = Unit {0}
StepFits (step.Stack s) = Unit {0}
StepFits (step.Window w) = WindowFits w
StepFits (step.Lookup source l) = Unit {0}
StepFits (step.Fold f) = Unit {0}

abbrev pub steps_of : UnitPlan → List Step
steps_of u = u.before ++ u.after

abbrev pub UnitFits : UnitPlan → Type 0
UnitFits u = All StepFits (steps_of u)

-- All steps of a plan fit.
abbrev pub PlansFit : Type 0
PlansFit = (s : VlSpec) → All UnitFits (plan_of s).units

-- ---- the rows that steps read besides

-- where a step looks up in a source, the name of the source stands for its rows
abbrev pub FindsSource : Scope → List Dataset → Step → Type 0
FindsSource scope sources (step.Filter e) = Unit {0}
FindsSource scope sources (step.Calculate e name) = Unit {0}
FindsSource scope sources (step.Bin b) = Unit {0}
FindsSource scope sources (step.Unit t) = Unit {0}
FindsSource scope sources (step.Group g) = Unit {0}
FindsSource scope sources (step.Join g) = Unit {0}
FindsSource scope sources (step.Stack s) = Unit {0}
FindsSource scope sources (step.Window w) = Unit {0}
FindsSource scope sources (step.Lookup source l) = scope source ≡ rows_named sources source
FindsSource scope sources (step.Fold f) = Unit {0}

-- the signal that bins name is null
abbrev pub IsNull : Values → List ℕ → Type 0
IsNull values stem = values.value (none_name stem) ≡ Some Null

-- ---- the laws

-- A step and its transform make the same of the same rows, or both are out of range.
abbrev pub StepsAgree : Type 0
StepsAgree = (values : Values) (sources : List Dataset) (scope : Scope) (stem : List ℕ) (step : Step) (rows : List Datum)
    → IsNull values stem → StepFits step → FindsSource scope sources step
    → transformed values scope (step_written stem step) rows ≡ stepped values sources step rows

-- So do steps one after the other.
abbrev pub AllStepsAgree : Type 0
AllStepsAgree = (values : Values) (sources : List Dataset) (scope : Scope) (stem : List ℕ) (steps : List Step) (rows : List Datum)
    → IsNull values stem → All StepFits steps → All (FindsSource scope sources) steps
    → all_transformed values scope (steps_written stem steps) rows ≡ all_stepped values sources steps rows
