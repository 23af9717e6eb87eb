-- The axis of a scale in a plot. It goes by what the plot's definitions show in the channel on this scale; one whose axis is null doesn't count, and
-- where all have it there is no axis. Each member comes from the first definition that gives it. Else an axis has labels, ticks and a line; grid
-- lines where the scale is continuous and the first field isn't binned; its labels are turned where it is a discrete one of x, by `labelAngle` where it
-- isn't 0; it stands below the plot, or left of it, where it is the first that is drawn in its channel, and else above it, or right of it; its
-- labels have the format of a unit of time. Its title is that of its definitions.
use Rattle.std.specs.Prelude.{◌≡◌, refl, ℕ, ◌==◌, ◌/◌, Bool, true, false, not, ◌&&◌, ◌||◌, ℤ, pos, unsigned_abs, min, max}
use Rattle.std.specs.Prelude.{Some, None, List, [], ◌∷◌, filter_map, codes, option_map, unwrap_or, if◌then◌else◌}
use Rattle.std.specs.Option.{option_map_or, option_or}
use Rattle.std.specs.Ordering.{int_eq}
use Rattle.fixed_num.specs.Number.{million}
use Rattle.guide_kit.specs.declared.axes.AxisOf.{AxisOf}
use Rattle.guide_kit.specs.declared.frames.Side.{Side as Edge}
use Rattle.guide_kit.specs.declared.frames.Side.TheVariants as edge
use Rattle.vl_normalize.specs.declared.codes.TheConstants.{X, Y}
use Rattle.vl_spec.specs.declared.definitions.Definition.{Definition}
use Rattle.vl_spec.specs.declared.guides.Axis.{Axis}
use Rattle.vl_spec.specs.declared.guides.Side.{Side}
use Rattle.vl_spec.specs.declared.guides.Side.TheVariants as side
use Rattle.scale_infer.specs.Types.{is_binned}
use Rattle.scale_infer.specs.declared.codes.TheConstants.{LINEAR, TIME, RAMP, BAND}
use Rattle.guide_infer.specs.First.{first_given}
use Rattle.guide_infer.specs.Labels.{default_format}
use Rattle.guide_infer.specs.Said.{axes_said, first_field}
use Rattle.guide_infer.specs.Titles.{axis_title, joined_titles, field_titled}

-- whether a scale of a kind is continuous
abbrev pub is_continuous : ℕ → Bool
is_continuous kind = kind == LINEAR || (kind == TIME || kind == RAMP)

-- the side of a plot
abbrev pub edge_of : Side → Edge
edge_of side.Left = edge.Left
edge_of side.Right = edge.Right
edge_of side.Top = edge.Top
edge_of side.Bottom = edge.Bottom

-- the side of an axis before which so many of its channel are drawn
abbrev pub first_side : ℕ → Edge
first_side channel = if channel == X then edge.Bottom else edge.Left

abbrev pub later_side : ℕ → Edge
later_side channel = if channel == X then edge.Top else edge.Right

abbrev pub default_side : ℕ → ℕ → Edge
default_side channel before = if before == 0 then first_side channel else later_side channel

-- whether the first field isn't binned, or there is none
abbrev pub is_unbinned : List Definition → Bool
is_unbinned definitions = not (option_map_or is_binned (first_field definitions) false)

-- whether an axis has grid lines, and whether its labels are turned, where nothing is said
abbrev pub default_grid : ℕ → List Definition → Bool
default_grid kind definitions = is_continuous kind && is_unbinned definitions

abbrev pub default_turn : ℕ → ℕ → Bool
default_turn channel kind = channel == X && not (is_continuous kind)

-- an angle turns labels unless it is 0
abbrev pub turns : ℤ → Bool
turns angle = not (int_eq angle (pos 0))

-- for how many ticks an axis asks: the whole part of a number, from 1 to 1,000
abbrev pub count_of : ℤ → ℕ
count_of n = max (min (unsigned_abs n / million) 1000) 1

-- the axis of a channel over a scale of a kind, before which so many of the channel are drawn, by the definitions that count and what they say
abbrev pub axis_said : ℕ → ℕ → ℕ → List Definition → List Axis → AxisOf
axis_said channel kind before definitions said = record {
  side = unwrap_or (option_map edge_of (first_given (λ (a : Axis). a.orient) said)) (default_side channel before);
  title = joined_titles (filter_map axis_title definitions);
  labels = unwrap_or (first_given (λ (a : Axis). a.labels) said) true;
  ticks = unwrap_or (first_given (λ (a : Axis). a.ticks) said) true;
  line = unwrap_or (first_given (λ (a : Axis). a.domain) said) true;
  grid = unwrap_or (first_given (λ (a : Axis). a.grid) said) (default_grid kind definitions);
  turned = unwrap_or (option_map turns (first_given (λ (a : Axis). a.label_angle) said)) (default_turn channel kind);
  count = option_map count_of (first_given (λ (a : Axis). a.tick_count) said);
  values = first_given (λ (a : Axis). a.values) said;
  format = option_or (first_given (λ (a : Axis). a.format) said) (default_format definitions);
}

abbrev pub axis_by : ℕ → ℕ → ℕ → List Definition → AxisOf
axis_by channel kind before definitions = axis_said channel kind before definitions (axes_said definitions)

-- The rules at work.

-- a field f, binned or not
abbrev the_field : Bool → Definition
the_field binned = field_titled (Some (codes "f")) None binned None None

-- an axis that says nothing, on a side, with a title
abbrev pub axis_on : Edge → List ℕ → AxisOf
axis_on at title = record {
  side = at;
  title = Some title;
  labels = true;
  ticks = true;
  line = true;
  grid = false;
  turned = false;
  count = None;
  values = None;
  format = None;
}

a_field_has_a_grid : axis_by Y LINEAR 0 (the_field false ∷ []) ≡ record (axis_on edge.Left (codes "f")) { grid = true }
a_field_has_a_grid = refl

bins_have_none : axis_by X LINEAR 0 (the_field true ∷ []) ≡ axis_on edge.Bottom (codes "f (binned)")
bins_have_none = refl

names_below_are_turned : axis_by X BAND 0 (the_field false ∷ []) ≡ record (axis_on edge.Bottom (codes "f")) { turned = true }
names_below_are_turned = refl

names_beside_are_not : axis_by Y BAND 0 (the_field false ∷ []) ≡ axis_on edge.Left (codes "f")
names_beside_are_not = refl

a_second_axis : (axis_by Y BAND 1 (the_field false ∷ []) ≡ axis_on edge.Right (codes "f")) × (default_side X 1 ≡ edge.Top)
a_second_axis = (refl, refl)

so_many_ticks : (count_of (pos 7000000) ≡ 7) × (count_of (pos 100000000) ≡ 100)
so_many_ticks = (refl, refl)
