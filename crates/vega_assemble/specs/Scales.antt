-- The scales of a plan as scales of the specification. Each has its kind, a ramp that of numbers or of instants; its domain, and what gives its domain in
-- place of that; its range: for places the width or the height of the plot; both flags where it is continuous, and its
-- paddings where it has bands or points. Two helpers stand for the middle and for the foot of a plot.
use Rattle.std.specs.Prelude.{◌≡◌, refl, ℕ, ◌==◌, ◌||◌, Bool, true, false, ℤ, pos, Option, Some, None, List, [], ◌∷◌, ◌++◌, if◌then◌else◌}
use Rattle.std.specs.List.{list_any}
use Rattle.fixed_num.specs.Number.{million}
use Rattle.cell_value.specs.declared.cell.Cell.TheVariants as cell
use Rattle.vega_spec.specs.declared.domains.Domain.{Domain}
use Rattle.vega_spec.specs.declared.domains.Domain.TheVariants as domain
use Rattle.vega_spec.specs.declared.scales.Range.{Range}
use Rattle.vega_spec.specs.declared.scales.Range.TheVariants as range
use Rattle.vega_spec.specs.declared.scales.Scale.{Scale}
use Rattle.vl_normalize.specs.declared.codes.TheConstants.{X, Y}
use Rattle.scale_infer.specs.declared.codes.TheConstants.{LINEAR, TIME, BAND, POINT, RAMP}
use Rattle.plan_kit.specs.declared.marks.Along.{Along}
use Rattle.plan_kit.specs.declared.marks.MarkPlan.{MarkPlan}
use Rattle.plan_kit.specs.declared.marks.Spot.{Spot}
use Rattle.plan_kit.specs.declared.marks.Spot.TheVariants as spot
use Rattle.plan_kit.specs.declared.marks.SpotWay.{SpotWay}
use Rattle.plan_kit.specs.declared.plans.UnitPlan.{UnitPlan}
use Rattle.guide_infer.specs.Axes.{is_continuous}
use Rattle.plan_kit.specs.declared.ranges.RangePlan.{RangePlan}
use Rattle.plan_kit.specs.declared.ranges.RangePlan.TheVariants as given
use Rattle.plan_kit.specs.declared.scales.ScalePlan.{ScalePlan}
use Rattle.vega_assemble.specs.Domains.{domain_written}
use Rattle.vega_assemble.specs.Names.{scale_name, middle_name, foot_name}

-- ---- ranges and kinds

abbrev pub plot_range : ℕ → Range
plot_range channel = if channel == Y then range.Height else range.Width

abbrev pub range_written : ℕ → RangePlan → Range
range_written channel given.Across = plot_range channel
range_written channel (given.Between from to) = range.Cells (cell.Number from ∷ cell.Number to ∷ [])
range_written channel (given.Entries cells) = range.Cells cells
range_written channel given.Colors = range.Category
range_written channel given.Blues = range.Ramp
range_written channel given.Signs = range.Symbol

-- the kind of a scale: a ramp is one of numbers or of instants
abbrev pub ramp_kind : Bool → ℕ
ramp_kind is_time = if is_time then TIME else LINEAR

abbrev pub kind_written : ℕ → Bool → ℕ
kind_written kind is_time = if kind == RAMP then ramp_kind is_time else kind

-- ---- members that some kinds have

abbrev pub flag_if : Bool → Bool → Option Bool
flag_if has flag = if has then Some flag else None

abbrev pub number_if : Bool → ℤ → Option ℤ
number_if has n = if has then Some n else None

-- whether there is something between bands, and something round all of them
abbrev pub has_inner : ℕ → Bool
has_inner kind = kind == BAND

abbrev pub has_outer : ℕ → Bool
has_outer kind = kind == BAND || kind == POINT

-- ---- scales

-- a scale of a name over a domain
abbrev pub scale_over : List ℕ → Domain → ScalePlan → Scale
scale_over name over s = record {
  name = name;
  type_ = kind_written s.kind s.is_time;
  domain = over;
  domain_raw = s.raw;
  range = range_written s.channel s.range;
  zero = flag_if (is_continuous s.kind) s.zero;
  nice = flag_if (is_continuous s.kind) s.nice;
  reverse = flag_if s.reverse true;
  padding = None;
  padding_inner = number_if (has_inner s.kind) s.inner;
  padding_outer = number_if (has_outer s.kind) s.outer;
}

-- a scale of the plan by its number
abbrev pub scale_written : List ℕ → List ScalePlan → ℕ × ScalePlan → Scale
scale_written stem scales s = scale_over (scale_name stem scales s.0) (domain_written stem s.0 (is_continuous s.1.kind) s.1.domain) s.1

-- ---- helpers

-- a scale of numbers between two along a plot
abbrev pub helper : List ℕ → ℕ → ℤ → ℤ → Scale
helper name channel from to = record {
  name = name;
  type_ = LINEAR;
  domain = domain.Cells (cell.Number from ∷ cell.Number to ∷ []);
  domain_raw = None;
  range = plot_range channel;
  zero = Some false;
  nice = Some false;
  reverse = None;
  padding = None;
  padding_inner = None;
  padding_outer = None;
}

abbrev pub middle_scale : List ℕ → ℕ → Scale
middle_scale stem channel = helper (middle_name stem channel) channel (pos 0) (pos 0)

abbrev pub foot_scale : List ℕ → ℕ → Scale
foot_scale stem channel = helper (foot_name stem channel) channel (pos 0) (pos million)

-- whether ends stand in the middle of a plot, or at its foot
abbrev pub is_middle : Spot → Bool
is_middle (spot.Pixels c) = false
is_middle (spot.Place s c) = false
is_middle (spot.Centre s c) = false
is_middle (spot.EndOfBand s c) = false
is_middle (spot.Base s) = false
is_middle spot.Middle = true
is_middle spot.Foot = false
is_middle spot.Nowhere = false

abbrev pub is_foot : Spot → Bool
is_foot (spot.Pixels c) = false
is_foot (spot.Place s c) = false
is_foot (spot.Centre s c) = false
is_foot (spot.EndOfBand s c) = false
is_foot (spot.Base s) = false
is_foot spot.Middle = false
is_foot spot.Foot = true
is_foot spot.Nowhere = false

abbrev pub some_way : (Spot → Bool) → List SpotWay → Bool
some_way is ways = list_any (λ (way : SpotWay). is way.gives) ways

abbrev pub some_end : (Spot → Bool) → Along → Bool
some_end is along = some_way is along.near || some_way is along.far

-- the ends of a mark along a channel
abbrev pub along : ℕ → MarkPlan → Along
along channel m = if channel == X then m.across else m.down

abbrev pub asks_for : (Spot → Bool) → ℕ → UnitPlan → Bool
asks_for is channel u = some_end is (along channel u.mark)

abbrev pub helper_if : Bool → Scale → List Scale
helper_if wanted scale = if wanted then scale ∷ [] else []

-- the helpers along a channel, of which each stands where a unit asks for it
abbrev pub helpers_along : List ℕ → List UnitPlan → ℕ → List Scale
helpers_along stem units channel =
    helper_if (list_any (asks_for is_middle channel) units) (middle_scale stem channel)
    ++ helper_if (list_any (asks_for is_foot channel) units) (foot_scale stem channel)

abbrev pub helpers : List ℕ → List UnitPlan → List Scale
helpers stem units = helpers_along stem units X ++ helpers_along stem units Y

-- The rules at work.

ramps_by_their_domains : (kind_written RAMP true ≡ TIME) × (kind_written RAMP false ≡ LINEAR) × (kind_written BAND false ≡ BAND)
ramps_by_their_domains = (refl, refl, refl)

places_of_a_plot : (range_written X given.Across ≡ range.Width) × (range_written Y given.Across ≡ range.Height)
places_of_a_plot = (refl, refl)

no_helper_without_units : helpers [] [] ≡ []
no_helper_without_units = refl
