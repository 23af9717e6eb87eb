-- What a Vega-Lite specification means to commands and scripts: its sources, parameters, selections and plots, and of each state what expressions read, what
-- is drawn and which rows the marks of units draw. The direct machine over it replies to commands and leaves states; what a script gives is the joined
-- replies of its lines, each from the state that the lines before it left, and a print is replied to with the chart.
use Rattle.std.specs.Prelude.{◌≡◌, refl, ℕ, ◌==◌, ◌&&◌, Bool, true, false, Option, Some, None, List, [], ◌∷◌, map, find, slice_get, unwrap_or}
use Rattle.std.specs.Prelude.{if◌then◌else◌}
use Rattle.std.specs.Option.{option_map_or}
use Rattle.std.specs.Str.{bytes_eq}
use Rattle.fixed_num.specs.Ranges.{◌>>=◌}
use Rattle.cell_value.specs.Datum.{Datum}
use Rattle.cell_value.specs.State.{State}
use Rattle.vl_spec.specs.declared.params.ParamKind.{ParamKind}
use Rattle.vl_spec.specs.declared.params.ParamKind.TheVariants as kind
use Rattle.vl_spec.specs.declared.params.ParamOf.{ParamOf}
use Rattle.vl_spec.specs.declared.sources.SourceOf.{SourceOf}
use Rattle.vl_spec.specs.declared.spec.VlSpec.{VlSpec}
use Rattle.scale_infer.specs.declared.codes.TheConstants.{TIME}
use Rattle.selection_events.specs.declared.selection.PlotOf.{PlotOf}
use Rattle.selection_events.specs.declared.selection.SelectionOf.{SelectionOf}
use Rattle.selection_events.specs.Kept.{Temporal}
use Rattle.param_flow.specs.declared.command.Command.{Command}
use Rattle.param_flow.specs.declared.reply.Reply.{Reply}
use Rattle.param_flow.specs.Machine.{reply_of, state_after}
use Rattle.param_flow.specs.Playing.{IsReply, without_notes}
use Rattle.param_flow.specs.Script.{IsOutputOf}
use Rattle.param_flow.specs.Semantics.{Semantics, ParamKind as MeantKind, ParamOf as MeantParam}
use Rattle.param_flow.specs.Semantics as meant
use Rattle.param_flow.specs.States.{IsStateFor}
use Rattle.plan_kit.specs.declared.plans.UnitPlan.{UnitPlan}
use Rattle.plan_kit.specs.declared.plan.Plan.{Plan}
use Rattle.plan_kit.specs.declared.plots.PlotPlan.{PlotPlan}
use Rattle.plan_kit.specs.declared.scales.ScalePlan.{ScalePlan}
use Rattle.plan_kit.specs.declared.selections.DragPlan.{DragPlan}
use Rattle.plan_kit.specs.declared.selections.SelectionPlan.{SelectionPlan}
use Rattle.chart_plan.specs.Plan.{plan_of}
use Rattle.chart_plan.specs.Selections.{place_word}
use Rattle.chart_meaning.specs.Charts.{picture_over, plots_of}
use Rattle.chart_meaning.specs.Items.{has_keys}
use Rattle.chart_meaning.specs.Parameters.{settled, values_in, values_told}
use Rattle.chart_meaning.specs.Parts.{whole_copy}
use Rattle.chart_meaning.specs.Plots.{least_unit}
use Rattle.chart_meaning.specs.Views.{rows_over}

-- ---- parameters

abbrev pub kind_meant : ParamKind → MeantKind
kind_meant (kind.Value cell) = meant.Settable
kind_meant (kind.Expr e) = meant.Computed
kind_meant (kind.Select s) = meant.Selection

abbrev pub param_meant : ParamOf → MeantParam
param_meant p = record { name = p.name; kind = kind_meant p.kind }

-- ---- rows of units

-- whether the items of a unit have keys
abbrev pub unit_has_keys : List UnitPlan → ℕ → Bool
unit_has_keys units unit = option_map_or (λ (u : UnitPlan). has_keys u.mark.shape) (slice_get units unit) false

abbrev pub rows_found : Plan → List ParamOf → State → ℕ → Option (List Datum)
rows_found p params st unit = do
  copy ← whole_copy (values_in params st) st.sources p
  rows_over p (settled params st) (values_in params st) unit copy

-- The rows that a unit of rects or symbols draws in a state, panel after panel; none of other units, and none where something is out of range, but of
-- such a state nothing is drawn.
abbrev pub rows_in : Plan → List ParamOf → State → ℕ → List Datum
rows_in p params st unit = if unit_has_keys p.units unit then unwrap_or (rows_found p params st unit) [] else []

-- ---- kinds of scales

-- whether two units are there and the same
abbrev pub is_same_unit : Option ℕ → Option ℕ → Bool
is_same_unit None b = false
is_same_unit (Some a) b = option_map_or (λ n. n == a) b false

abbrev pub is_plot_seen : PlotOf → PlotPlan → Bool
is_plot_seen seen plot = is_same_unit (least_unit seen.units) (least_unit plot.units)

abbrev pub is_drag : List ℕ → ℕ → DragPlan → Bool
is_drag channel plot d = d.plot == plot && option_map_or (bytes_eq channel) (place_word d.channel) false

-- the scale that a drag of a selection inverts along a channel in a plot, which is told by the least of its units
abbrev pub drag_found : Plan → PlotOf → SelectionOf → List ℕ → Option ScalePlan
drag_found p seen s channel = do
  plot ← find (is_plot_seen seen) p.plots
  plan ← find (λ (other : SelectionPlan). bytes_eq other.kept.name s.name) p.selections
  drag ← find (is_drag channel plot.number) plan.drags
  slice_get p.scales drag.scale

abbrev pub is_of_time : ScalePlan → Bool
is_of_time s = s.kind == TIME

-- whether the scale that a drag inverts is one of time
abbrev pub temporal_of : Plan → Temporal
temporal_of p plot s d = option_map_or is_of_time (drag_found p plot s d.channel) false

-- ---- meanings

-- the selections as events see them
abbrev pub selections_seen : Plan → List SelectionOf
selections_seen p = map (λ (s : SelectionPlan). s.kept) p.selections

-- the meaning by a plan
abbrev pub semantics_by : VlSpec → Plan → Semantics
semantics_by s p = record {
  sources = map (λ (source : SourceOf). source.name) s.sources;
  params = map param_meant s.params;
  selections = selections_seen p;
  plots = plots_of p;
  temporal = temporal_of p;
  values = values_told s.params;
  draw = picture_over p s.params;
  rows = rows_in p s.params;
}

-- The meaning of a Vega-Lite specification.
abbrev pub chart_semantics : VlSpec → Semantics
chart_semantics s = semantics_by s (plan_of s)

-- which states are those of the specification
abbrev pub IsChartState : VlSpec → State → Type 0
IsChartState s st = IsStateFor (chart_semantics s) st

-- what the direct machine replies to a command other than a print, and the state after it
abbrev pub chart_reply_of : VlSpec → State → Command → Reply
chart_reply_of s = reply_of (chart_semantics s)

abbrev pub chart_state_after : VlSpec → State → Command → State
chart_state_after s = state_after (chart_semantics s)

-- what is replied to a line, by its number, and the state after it
abbrev pub IsChartReply : VlSpec → State → ℕ → List ℕ → List ℕ → List ℕ → State → Type 0
IsChartReply s = IsReply (chart_semantics s) without_notes

-- the output of a script from a state, its notes, and the state after it
abbrev pub IsChartOutput : VlSpec → State → List ℕ → List ℕ → List ℕ → State → Type 0
IsChartOutput s = IsOutputOf (IsChartReply s)

-- The rules at work.

-- plots are the same where they have the same least unit
plots_by_their_units : (is_same_unit (least_unit (2 ∷ 3 ∷ [])) (least_unit (2 ∷ [])) ≡ true)
    × (is_same_unit (least_unit (2 ∷ [])) (least_unit (3 ∷ [])) ≡ false)
    × (is_same_unit (least_unit []) (least_unit []) ≡ false)
plots_by_their_units = (refl, refl, refl)
