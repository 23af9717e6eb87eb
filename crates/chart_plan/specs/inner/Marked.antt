-- Which units a selection concerns, by marks of the parameters that each unit has; and what a selection keeps, by the places of these units.
use Rattle.std.specs.Prelude.{ℕ, Bool, true, false, Option, Some, None, List, [], replicate, slice_get, slice_set, option_map, unwrap_or, if◌then◌else◌}
use Rattle.std.specs.Option.{option_and_then, option_map_or}
use Rattle.std.specs.List.{enumerate_from, filter_map, flat_map, fold, list_any}
use Rattle.vl_spec.specs.declared.params.ParamKind.{ParamKind}
use Rattle.vl_spec.specs.declared.params.ParamKind.TheVariants as kind
use Rattle.vl_spec.specs.declared.params.ParamOf.{ParamOf}
use Rattle.vl_spec.specs.declared.params.Select.{Select}
use Rattle.vl_spec.specs.declared.params.Selection.{Selection}
use Rattle.vl_compose.specs.declared.here.UnitHere.{UnitHere}
use Rattle.vl_compose.specs.Rounds.{ViewAt}
use Rattle.vl_compose.specs.Shown.{unit_shown}
use Rattle.vl_compose.specs.Units.{UnitAt}
use Rattle.plan_kit.specs.declared.plots.PlotPlan.{PlotPlan}
use Rattle.plan_kit.specs.declared.scales.ScalePlan.{ScalePlan}
use Rattle.plan_kit.specs.declared.selections.DragPlan.{DragPlan}
use Rattle.plan_kit.specs.declared.selections.SelectionPlan.{SelectionPlan}
use Rattle.guide_infer.specs.First.{first_given}
use Rattle.chart_plan.specs.Plots.{number_in}
use Rattle.chart_plan.specs.Scales.{seen_by}
use Rattle.chart_plan.specs.Selections.{is_named, drag_channels, drag_in, kept_with}

-- ---- marks

-- marks with one more, and with those of a view
abbrev pub with_mark : List Bool → ℕ → List Bool
with_mark marks number = slice_set marks number true

abbrev pub with_view : List Bool → ViewAt → List Bool
with_view marks v = fold with_mark marks v.params

-- none of so many parameters, and those that a unit has
abbrev pub no_marks : ℕ → List Bool
no_marks count = replicate count false

abbrev pub unit_marks : ℕ → UnitAt → List Bool
unit_marks count unit = fold with_view (no_marks count) unit.round

-- whether a parameter is marked
abbrev pub is_marked : List Bool → ℕ → Bool
is_marked marks number = unwrap_or (slice_get marks number) false

-- the marks of a unit among those of all
abbrev pub marks_at : List (List Bool) → ℕ → List Bool
marks_at marks place = unwrap_or (slice_get marks place) []

-- ---- places of units

-- whether a selection, the parameter of a number, concerns a unit with these marks
abbrev pub concerns_by : List Bool → ℕ → Selection → UnitAt → Bool
concerns_by marks number s unit = option_map_or (λ names. list_any (is_named names) unit.round) s.views (is_marked marks number)

-- the places of the units that it concerns
abbrev pub place_if : List (List Bool) → ℕ → Selection → ℕ × UnitAt → Option ℕ
place_if marks number s at = if concerns_by (marks_at marks at.0) number s at.1 then Some at.0 else None

abbrev pub places_of : List (List Bool) → ℕ → Selection → List UnitAt → List ℕ
places_of marks number s units = filter_map (place_if marks number s) (enumerate_from 0 units)

-- ---- what a selection keeps, by these places

-- the unit at a place
abbrev pub unit_there : List UnitHere → ℕ → Option UnitAt
unit_there units place = option_map unit_shown (slice_get units place)

-- the numbers of the units at some places, by what stands at each, and the first of these units
abbrev pub number_at : (ℕ → Option UnitAt) → ℕ → Option ℕ
number_at there place = option_map (λ (u : UnitAt). u.number) (there place)

abbrev pub numbers_at : (ℕ → Option UnitAt) → List ℕ → List ℕ
numbers_at there places = filter_map (number_at there) places

abbrev pub first_at : (ℕ → Option UnitAt) → List ℕ → Option UnitAt
first_at there places = first_given there places

-- the number of the unit at a place, if it is in a plot
abbrev pub number_there : ℕ → (ℕ → Option UnitAt) → ℕ → Option ℕ
number_there plot there place = option_and_then (number_in plot) (there place)

-- the drags of the unit of a number along some channels, and in a plot those of the first unit there
abbrev pub drags_numbered : List ScalePlan → List ℕ → ℕ → ℕ → List DragPlan
drags_numbered scales codes plot number = filter_map (drag_in plot (seen_by scales number)) codes

abbrev pub drags_along : List ScalePlan → (ℕ → Option UnitAt) → List ℕ → List ℕ → PlotPlan → List DragPlan
drags_along scales there places codes plot =
    option_map_or (drags_numbered scales codes plot.number) (first_given (number_there plot.number there) places) []

-- the selection of a name
abbrev pub plan_at : (ℕ → Option UnitAt) → List ScalePlan → List PlotPlan → List ℕ → List ℕ → Select → SelectionPlan
plan_at there scales plots places name s = record {
  kept = kept_with name (numbers_at there places) s (first_at there places);
  drags = flat_map (drags_along scales there places (drag_channels s)) plots;
}

abbrev pub plan_marked : List (List Bool) → List UnitAt → (ℕ → Option UnitAt) → List ScalePlan → List PlotPlan → ℕ → List ℕ → Selection → SelectionPlan
plan_marked marks units there scales plots number name s = plan_at there scales plots (places_of marks number s units) name s.select

abbrev pub kind_marked : List (List Bool) → List UnitAt → (ℕ → Option UnitAt) → List ScalePlan → List PlotPlan → ℕ → List ℕ → ParamKind → Option SelectionPlan
kind_marked marks units there scales plots number name (kind.Value cell) = None
kind_marked marks units there scales plots number name (kind.Expr e) = None
kind_marked marks units there scales plots number name (kind.Select s) = Some (plan_marked marks units there scales plots number name s)

abbrev pub param_marked : List (List Bool) → List UnitAt → (ℕ → Option UnitAt) → List ScalePlan → List PlotPlan → ℕ × ParamOf → Option SelectionPlan
param_marked marks units there scales plots param = kind_marked marks units there scales plots param.0 param.1.name param.1.kind

abbrev pub all_marked : List (List Bool) → List UnitAt → (ℕ → Option UnitAt) → List ScalePlan → List PlotPlan → List ParamOf → List SelectionPlan
all_marked marks units there scales plots params = filter_map (param_marked marks units there scales plots) (enumerate_from 0 params)
