-- What an axis of a specification shows.
use Rattle.std.specs.Prelude.{◌≡◌, refl, ℕ, ◌*◌, ◌/◌, Bool, true, false, ◌||◌, ℤ, pos, neg_ℤ, ◌≤ℤ◌, unsigned_abs}
use Rattle.std.specs.Prelude.{Option, Some, None, unwrap_or, IfSome, codes}
use Rattle.std.specs.Option.{option_map, option_map_or}
use Rattle.std.specs.Ordering.{int_eq}
use Rattle.fixed_num.specs.Number.{million}
use Rattle.guide_kit.specs.declared.axes.AxisOf.{AxisOf}
use Rattle.guide_kit.specs.declared.frames.Side.{Side as Edge}
use Rattle.guide_kit.specs.declared.frames.Side.TheVariants as edge
use Rattle.guide_kit.specs.Measures.{pixels}
use Rattle.vega_spec.specs.declared.guides.Axis.{Axis}
use Rattle.vega_spec.specs.declared.guides.Side.{Side}
use Rattle.vega_spec.specs.declared.guides.Side.TheVariants.{Left, Right, Top, Bottom}

-- the side of a plot
abbrev pub edge_of : Side → Edge
edge_of Left = edge.Left
edge_of Right = edge.Right
edge_of Top = edge.Top
edge_of Bottom = edge.Bottom

-- labels are turned exactly where their angle is -90 or 270 degrees
abbrev pub turns_labels : ℤ → Bool
turns_labels angle = int_eq angle (neg_ℤ (pos (90 * million))) || int_eq angle (pos (270 * million))

abbrev pub are_turned : Option ℤ → Bool
are_turned angle = option_map_or turns_labels angle false

-- for how many ticks an axis asks: from 1 to 1,000
abbrev pub IsCount : ℤ → Type 0
IsCount n = (pos million ≤ℤ n) × (n ≤ℤ pos (1000 * million))

abbrev pub whole_of : ℤ → ℕ
whole_of n = unsigned_abs n / million

-- what every caller asks of an axis
abbrev pub IsAxis : Axis → Type 0
IsAxis a = IfSome a.tick_count IsCount

-- an axis with what it leaves out: it has labels, ticks and a line, and no grid
abbrev pub axis_shown : Axis → AxisOf
axis_shown a = record {
  side = edge_of a.orient;
  title = a.title;
  labels = unwrap_or a.labels true;
  ticks = unwrap_or a.ticks true;
  line = unwrap_or a.domain true;
  grid = unwrap_or a.grid false;
  turned = are_turned a.label_angle;
  count = option_map whole_of a.tick_count;
  values = a.values;
  format = a.format;
}

-- ---- worked examples

abbrev pub an_axis_on : Side → Axis
an_axis_on side = record {
  scale = codes "y";
  orient = side;
  title = Some (codes "b");
  labels = None;
  ticks = None;
  domain = None;
  grid = Some true;
  label_angle = None;
  tick_count = None;
  values = None;
  format = None;
  edge = None;
}

angles_of_labels : (are_turned None ≡ false) × (are_turned (Some (pos 0)) ≡ false) × (are_turned (Some (neg_ℤ (pixels 90))) ≡ true)
    × (are_turned (Some (pixels 270)) ≡ true) × (are_turned (Some (pixels 90)) ≡ false)
angles_of_labels = (refl, refl, refl, refl, refl)

five_ticks : whole_of (pixels 5) ≡ 5
five_ticks = refl
