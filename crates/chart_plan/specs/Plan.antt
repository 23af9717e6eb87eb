-- The plan of a chart: all that is inferred of a specification, of its normal form. Each unit has its steps and its mark, with the numbers of its scales;
-- then come the scales, the plots, the grids, and how plots and grids stand in each other; the space round the picture, which is 5 where none is said;
-- and the selections. Its sources and its parameters stay in the specification.
use Rattle.std.specs.Prelude.{◌*◌, ℤ, pos, List, map, unwrap_or}
use Rattle.fixed_num.specs.Number.{million}
use Rattle.vl_spec.specs.declared.params.ParamOf.{ParamOf}
use Rattle.vl_spec.specs.declared.spec.VlSpec.{VlSpec}
use Rattle.vl_normalize.specs.Normal.{normal_form}
use Rattle.vl_compose.specs.Units.{UnitAt, units_of}
use Rattle.scale_infer.specs.Scales.{scales_of as inferred}
use Rattle.plan_kit.specs.declared.plans.UnitPlan.{UnitPlan}
use Rattle.unit_plan.specs.Plans.{unit_plan_of}
use Rattle.plan_kit.specs.declared.plan.Plan.{Plan}
use Rattle.plan_kit.specs.declared.plots.PlotPlan.{PlotPlan}
use Rattle.plan_kit.specs.declared.scales.ScalePlan.{ScalePlan}
use Rattle.chart_plan.specs.Grids.{grids_of}
use Rattle.chart_plan.specs.Plots.{plots_of}
use Rattle.chart_plan.specs.Scales.{scale_of, seen_by}
use Rattle.chart_plan.specs.Selections.{selections_of}
use Rattle.chart_plan.specs.Shown.{scales_among}
use Rattle.chart_plan.specs.Views.{view_of}

-- the scales of a specification in normal form
abbrev pub all_scales : VlSpec → List UnitAt → List ScalePlan
all_scales s units = map (scale_of s.params units) (inferred s (scales_among units))

-- the plan of a unit, whose scales are among these
abbrev pub unit_by : List ParamOf → List ScalePlan → UnitAt → UnitPlan
unit_by params scales unit = unit_plan_of params unit (seen_by scales unit.number)

-- the space round a picture where none is said: 5 pixels
abbrev pub usual_padding : ℤ
usual_padding = pos (5 * million)

abbrev pub plan_with : VlSpec → List UnitAt → List ScalePlan → List PlotPlan → Plan
plan_with s units scales plots = record {
  units = map (unit_by s.params scales) units;
  scales = scales;
  plots = plots;
  grids = grids_of units;
  view = view_of s;
  padding = unwrap_or s.padding usual_padding;
  selections = selections_of units scales plots s.params;
}

abbrev pub plan_over : VlSpec → List UnitAt → List ScalePlan → Plan
plan_over s units scales = plan_with s units scales (plots_of s.config scales units)

-- the plan of a specification in normal form
abbrev pub plan_among : VlSpec → List UnitAt → Plan
plan_among s units = plan_over s units (all_scales s units)

abbrev pub normal_plan : VlSpec → Plan
normal_plan s = plan_among s (units_of s)

-- the plan of a specification
abbrev pub plan_of : VlSpec → Plan
plan_of s = normal_plan (normal_form s)
