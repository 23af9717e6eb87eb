-- The plan of the specification of a form: one plot of bars on a band scale along x and a linear scale along y. It is the same in whichever order its
-- channels stand.
use Rattle.std.proofs.Common.{◌≡◌, ℕ, pos, ◌*◌, ◌==◌, Bool, true, false, List, [], ◌∷◌, ◌++◌, Option, Some, None, refl, sym, ap, ◌∙◌, if◌then◌else◌}
use Rattle.std.specs.Prelude.{flat_map}
use Rattle.std.specs.Option.{option_map, option_and_then}
use Rattle.std.specs.List.{list_any}
use Rattle.fixed_num.specs.Number.{million}
use Rattle.json_exact.specs.declared.json.Json.{Json}
use Rattle.cell_value.specs.declared.cell.Cell.TheVariants.{Number, Text}
use Rattle.vl_spec.specs.declared.definitions.FieldType.TheVariants.{Quantitative, Nominal}
use Rattle.vl_spec.specs.declared.spec.VlSpec.{VlSpec}
use Rattle.vl_spec.specs.declared.views.Unit.{Unit as UnitView}
use Rattle.vl_spec.specs.declared.views.View.{fold-roll-View}
use Rattle.vl_spec.specs.declared.views.ViewKind.{ViewKind, fold-ViewKind, fold-roll-ViewKind}
use Rattle.vl_spec.specs.declared.views.ViewKind.TheVariants as kind
use Rattle.vl_spec.specs.declared.views.ViewKind.TheOpen as level
use Rattle.vl_normalize.specs.declared.codes.TheConstants.{X, Y, X2, Y2}
use Rattle.vl_compose.specs.Units.{UnitAt}
use Rattle.scale_infer.specs.Types.{type_of, is_aggregated}
use Rattle.plan_kit.specs.declared.cells.CellOf.TheVariants.{Field}
use Rattle.plan_kit.specs.declared.marks.Look.TheVariants as look
use Rattle.plan_kit.specs.declared.marks.LookWay.{LookWay}
use Rattle.plan_kit.specs.declared.marks.MarkPlan.{MarkPlan}
use Rattle.plan_kit.specs.declared.marks.MarkShape.TheVariants as shape
use Rattle.plan_kit.specs.declared.marks.Spot.TheVariants.{Place, EndOfBand, Base}
use Rattle.plan_kit.specs.declared.plans.UnitPlan.{UnitPlan}
use Rattle.unit_plan.specs.declared.seen.ScaleSeen.{ScaleSeen}
use Rattle.unit_plan.specs.declared.stacks.Stacked.{Stacked}
use Rattle.plan_kit.specs.declared.steps.Step.{Step}
use Rattle.plan_kit.specs.declared.steps.Step.TheVariants as step
use Rattle.unit_plan.specs.Bars.{bar_along}
use Rattle.unit_plan.specs.Bins.{bin_cuts, bin_steps, unit_cuts, unit_steps}
use Rattle.unit_plan.specs.Branches.{Branch}
use Rattle.unit_plan.specs.Ends.{always}
use Rattle.unit_plan.specs.Groups.{aggregates, group_steps, groups_of}
use Rattle.unit_plan.specs.Lanes.{Lane, across, branches_at, down, stacked_along}
use Rattle.unit_plan.specs.Looks.{color_in, opacity_in}
use Rattle.unit_plan.specs.Plans.{mark_plan}
use Rattle.unit_plan.specs.Reads.{read_steps, reads}
use Rattle.unit_plan.specs.Rows.{after, before}
use Rattle.unit_plan.specs.Seen.{seen_at}
use Rattle.unit_plan.specs.Selections.{is_selection}
use Rattle.unit_plan.specs.Shows.{ShownAt, facet_shows, shows_of}
use Rattle.unit_plan.specs.Stacks.{stack_step}
use Rattle.plan_kit.specs.declared.plan.Plan.{Plan}
use Rattle.plan_kit.specs.declared.plots.PlotPlan.{PlotPlan}
use Rattle.plan_kit.specs.declared.sizes.SizePlan.TheVariants as size
use Rattle.plan_kit.specs.declared.views.ViewPlan.TheVariants as view
use Rattle.chart_plan.specs.Plan.{plan_among, plan_over, plan_with, normal_plan, plan_of, unit_by}
use Rattle.chart_plan.specs.Plots.{plots_of}
use Rattle.chart_plan.specs.Scales.{seen_by}
use Rattle.chart_plan.specs.Views.{Tree, nothing, view_of}
use Rattle.chart_plan.specs.Views.{kind_here as kind_tree_here, faceted_here as facet_tree, joined_here as joined_tree_here}
use Rattle.chart_plan.specs.Views.{layer_here as layer_tree_here, view_here as view_tree}
use Rattle.first_form.specs.declared.form.FirstForm.{FirstForm}
use Rattle.first_form.specs.Bars.{default_color, step_width, plot_height}
use Rattle.chart_meaning.specs.FirstForms.{channels_of, form_spec}
use Rattle.chart_meaning.proofs.FormUnits.{unit_view, form_unit_at, normal_form_known, units_known}
use Rattle.chart_meaning.proofs.FormShown.{form_shows, shown_known, first_x, first_y, own_known, measure_known, stack_known, stack_none, branches_x}
use Rattle.chart_meaning.proofs.FormShown.{branches_y}
use Rattle.chart_meaning.proofs.FormScales.{form_scales, scales_known}

-- ---- what the plan is

-- over the band of its category, from the place of its amount to the base
abbrev pub form_mark : FirstForm → MarkPlan
form_mark form = record {
  shape = shape.Rect;
  across = record { near = always (Place 0 (Field form.x)) None ∷ []; far = always (EndOfBand 0 (Field form.x)) None ∷ [] };
  down = record { near = always (Place 1 (Field form.y)) None ∷ []; far = always (Base 1) None ∷ [] };
  stroked = false;
  line_width = None;
  color = record { test = None; gives = look.Written (Text default_color) } ∷ [];
  opacity = record { test = None; gives = look.Written (Number (pos million)) } ∷ [];
  size = [];
  sign = [];
  words = [];
  text = None;
  order = None;
  series = [];
}

abbrev pub form_unit : FirstForm → UnitPlan
form_unit form = record { number = 0; source = form.name; before = []; after = []; mark = form_mark form }

-- a step for each category wide, and 200 pixels high
abbrev pub form_plot : PlotPlan
form_plot = record {
  number = 0;
  units = 0 ∷ [];
  facets = [];
  title = None;
  width = size.Steps step_width 0;
  height = size.Pixels plot_height;
  axes = [];
}

abbrev pub form_plan : FirstForm → Plan
form_plan form = record {
  units = form_unit form ∷ [];
  scales = form_scales form;
  plots = form_plot ∷ [];
  grids = [];
  view = view.Plot 0;
  padding = pos (5 * million);
  selections = [];
}

-- ---- its unit

facets_none : (y_first : Bool) (form : FirstForm) → shows_of (form_unit_at y_first form) ≡ form_shows y_first form
facets_none false form = λ i. own_known false form i ++ facet_shows (form_unit_at false form)
facets_none true form = λ i. own_known true form i ++ facet_shows (form_unit_at true form)

-- a list of steps over what is shown
abbrev reads_among : List ShownAt → List Step
reads_among shows = flat_map (reads (Some Nominal) (Some Quantitative)) shows

reads_none : (y_first : Bool) (form : FirstForm) → reads_among (form_shows y_first form) ≡ []
reads_none false form = refl
reads_none true form = refl

bins_none : (y_first : Bool) (form : FirstForm) → flat_map bin_cuts (form_shows y_first form) ≡ []
bins_none false form = refl
bins_none true form = refl

times_none : (y_first : Bool) (form : FirstForm) → flat_map unit_cuts (form_shows y_first form) ≡ []
times_none false form = refl
times_none true form = refl

abbrev aggregates_among : List ShownAt → Bool
aggregates_among shows = list_any (λ (s : ShownAt). is_aggregated s.shows) shows

aggregates_none : (y_first : Bool) (form : FirstForm) → aggregates_among (form_shows y_first form) ≡ false
aggregates_none false form = refl
aggregates_none true form = refl

seconds_x : (y_first : Bool) (form : FirstForm) → branches_at (channels_of y_first form) X2 ≡ []
seconds_x false form = refl
seconds_x true form = refl

seconds_y : (y_first : Bool) (form : FirstForm) → branches_at (channels_of y_first form) Y2 ≡ []
seconds_y false form = refl
seconds_y true form = refl

abbrev selects : List ℕ → Bool
selects = is_selection []

module _ (form : FirstForm) where
  -- the scales as the unit sees them
  abbrev scales_seen : List ScaleSeen
  scales_seen = seen_by (form_scales form) 0

  abbrev written_color : List LookWay
  written_color = record { test = None; gives = look.Written (Text default_color) } ∷ []

  abbrev written_opacity : List LookWay
  written_opacity = record { test = None; gives = look.Written (Number (pos million)) } ∷ []

  color_known : (y_first : Bool) → color_in selects (form_unit_at y_first form) scales_seen ≡ written_color
  color_known false = refl
  color_known true = refl

  opacity_known : (y_first : Bool) → opacity_in selects (form_unit_at y_first form) scales_seen ≡ written_opacity
  opacity_known false = refl
  opacity_known true = refl

module _ (y_first : Bool) (form : FirstForm) where
  abbrev unit : UnitAt
  unit = form_unit_at y_first form

  abbrev seen : List ScaleSeen
  seen = scales_seen form

  -- no steps
  reads_known : read_steps unit ≡ []
  reads_known =
      (λ i. flat_map (reads (option_map type_of (first_x y_first form i)) (option_map type_of (first_y y_first form i))) (facets_none y_first form i))
      ∙ reads_none y_first form

  bins_known : bin_steps unit ≡ []
  bins_known = ap (flat_map bin_cuts) (facets_none y_first form) ∙ bins_none y_first form

  times_known : unit_steps unit ≡ []
  times_known = ap (flat_map unit_cuts) (facets_none y_first form) ∙ times_none y_first form

  before_known : before selects unit ≡ []
  before_known = λ i. [] ++ reads_known i ++ bins_known i ++ times_known i

  aggregates_known : aggregates unit ≡ false
  aggregates_known = ap aggregates_among (own_known y_first form) ∙ aggregates_none y_first form

  groups_known : group_steps unit ≡ []
  groups_known = ap (λ (is : Bool). if is then step.Group (groups_of unit) ∷ [] else []) aggregates_known

  after_known : after unit ≡ []
  after_known = λ i. groups_known i ++ stack_step (stack_known y_first form i)

  -- its mark
  abbrev lane_by : ℕ → ℕ → ℕ → Option Stacked → List Branch → List Branch → Lane
  lane_by channel second measure stacked branches seconds = record {
    channel = channel;
    second = second;
    scale = seen_at seen channel;
    is_measure = measure == channel;
    stacked = option_and_then (stacked_along channel) stacked;
    branches = branches;
    seconds = seconds;
  }

  across_known : bar_along selects (across unit seen) ≡ (form_mark form).across
  across_known =
      λ i. bar_along selects (lane_by X X2 (measure_known y_first form i) (stack_none y_first form i) (branches_x y_first form i) (seconds_x y_first form i))

  down_known : bar_along selects (down unit seen) ≡ (form_mark form).down
  down_known =
      λ i. bar_along selects (lane_by Y Y2 (measure_known y_first form i) (stack_none y_first form i) (branches_y y_first form i) (seconds_y y_first form i))

  mark_known : mark_plan selects unit seen ≡ form_mark form
  mark_known = λ i. record (form_mark form) {
    across = across_known i;
    down = down_known i;
    color = color_known form y_first i;
    opacity = opacity_known form y_first i;
  }

  unit_known : unit_by [] (form_scales form) unit ≡ form_unit form
  unit_known = λ i. record { number = 0; source = form.name; before = before_known i; after = after_known i; mark = mark_known i }

-- ---- its plot

plots_known : (y_first : Bool) (form : FirstForm) → plots_of None (form_scales form) (form_unit_at y_first form ∷ []) ≡ form_plot ∷ []
plots_known false form = rw (shown_known form.x Nominal, shown_known form.y Quantitative) refl
plots_known true form = rw (shown_known form.x Nominal, shown_known form.y Quantitative) refl

-- the top is one plot
abbrev tree_at : ViewKind → Tree
tree_at = fold-ViewKind Tree Tree Tree Tree Tree kind_tree_here facet_tree joined_tree_here layer_tree_here view_tree

unit_tree : (u : UnitView) → tree_at (kind.Unit u) nothing ≡ (view.Plot 0, record { plots = 1; grids = 0 })
unit_tree u =
    ap (λ (k : ViewKind). tree_at k nothing) (sym (kind.rolls-Unit u))
    ∙ ap (λ (t : Tree). t nothing)
    (fold-roll-ViewKind Tree Tree Tree Tree Tree kind_tree_here facet_tree joined_tree_here layer_tree_here view_tree (level.Unit u))

view_known : (y_first : Bool) (values : Option Json) (form : FirstForm) → view_of (form_spec y_first values form) ≡ view.Plot 0
view_known y_first values form =
    ap (λ (t : Tree). (t nothing).0)
    (fold-roll-View Tree Tree Tree Tree Tree kind_tree_here facet_tree joined_tree_here layer_tree_here view_tree (record {
      name = None;
      title = None;
      data_ = Some form.name;
      transform = None;
      params = [];
      width = None;
      height = None;
      resolve = None;
      kind = kind.Unit (unit_view y_first form);
    }))
    ∙ ap (λ tree. tree.0) (unit_tree (unit_view y_first form))

-- ---- the plan

module _ (y_first : Bool) (values : Option Json) (form : FirstForm) where
  abbrev spec : VlSpec
  spec = form_spec y_first values form

  abbrev units : List UnitAt
  units = form_unit_at y_first form ∷ []

  -- without facets there are no grids, and without parameters no selections
  parts_known : plan_with spec units (form_scales form) (form_plot ∷ []) ≡ form_plan form
  parts_known = λ i. record {
    units = unit_known y_first form i ∷ [];
    scales = form_scales form;
    plots = form_plot ∷ [];
    grids = [];
    view = view_known y_first values form i;
    padding = pos (5 * million);
    selections = [];
  }

  pub plan_known : plan_of spec ≡ form_plan form
  plan_known =
      ap normal_plan (normal_form_known y_first values form)
      ∙ ap (plan_among spec) (units_known y_first values form)
      ∙ ap (plan_over spec units) (scales_known y_first form values)
      ∙ ap (plan_with spec units (form_scales form)) (plots_known y_first form)
      ∙ parts_known
