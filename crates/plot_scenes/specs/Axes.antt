-- The axes of a plot, each with the scale that it shows.
use Rattle.unicode_width.proofs.Computing.{unicode_width}
use Rattle.std.specs.Prelude.{◌≡◌, refl, ℕ, ◌≤◌, Bool, true, false, not, if◌then◌else◌, List, [], ◌∷◌, ◌++◌, map, ℤ, pos, neg_ℤ, Option}
use Rattle.std.specs.Prelude.{Some, None, IfSome, codes}
use Rattle.std.specs.Option.{option_map}
use Rattle.std.specs.List.{filter}
use Rattle.std.specs.Fmt.{digits as decimal_digits}
use Rattle.fixed_num.specs.Number.{rounded, floor_quotient, floored, ceiled}
use Rattle.fixed_num.specs.Decimal.{spelling, size_spelling, fraction_spelling, fraction_digits}
use Rattle.fixed_num.specs.Ranges.{◌>>=◌}
use Rattle.scale_kit.specs.declared.scale.Scale.{Scale}
use Rattle.scale_kit.specs.declared.scale.Scale.TheVariants.{Linear, Ordinal}
use Rattle.scale_kit.specs.Scale.{IsScale}
use Rattle.tick_kit.specs.Labels.{decimals_of, number_label}
use Rattle.tick_kit.specs.Steps.{step_of, spaced}
use Rattle.tick_kit.specs.Ticks.{multiples_in}
use Rattle.guide_text.specs.Labels.{label_of}
use Rattle.guide_text.specs.Widths.{columns_of}
use Rattle.guide_kit.specs.declared.axes.Guide.{Guide}
use Rattle.guide_kit.specs.declared.frames.Side.{Side}
use Rattle.guide_kit.specs.declared.frames.Side.TheVariants.{Left, Right, Top, Bottom}
use Rattle.guide_kit.specs.Axes.{axis_of}
use Rattle.guide_kit.specs.Items.{stroked, words_at, label_style, title_style, line_color, grid_color}
use Rattle.guide_kit.specs.Measures.{pixels, plus, minus, half}
use Rattle.guide_kit.specs.Ticks.{number_cells, decimals_on}
use Rattle.scene_tree.specs.declared.scene.Item.{Item}
use Rattle.scene_tree.specs.declared.shape.Anchor.TheVariants.{Middle, End}
use Rattle.scene_tree.specs.declared.shape.Shape.TheVariants.{Line}
use Rattle.plot_scenes.specs.declared.axes.Axes.{Axes}
use Rattle.plot_scenes.specs.declared.axes.AxisShown.{AxisShown}
use Rattle.plot_scenes.specs.declared.extents.Extents.{Extents}
use Rattle.plot_scenes.specs.Extents.{no_extents, at_side, widened}

-- no axes, where so much extends beyond the plot
abbrev pub no_axes : Extents → Axes
no_axes extents = record { grids = []; items = []; extents = extents }

-- some axes, and then others outside them
abbrev pub and_then : Axes → Axes → Axes
and_then inner outer = record { grids = inner.grids ++ outer.grids; items = inner.items ++ outer.items; extents = outer.extents }

-- one axis outside what extends beyond the plot at its side
abbrev pub one_axis : Side → Extents → Guide → Axes
one_axis side before guide = record { grids = guide.grid; items = guide.items; extents = widened side guide.extent before }

-- what every caller asks of an axis: that it asks for 1 to 1,000 ticks, if it does, and has a scale
abbrev pub IsAxisShown : AxisShown → Type 0
IsAxisShown a = IfSome a.axis.count (λ n. (1 ≤ n) × (n ≤ 1000)) × IsScale a.scale

-- an axis outside what extends beyond the plot at its side; None where a tick or its place is out of range
abbrev pub axis_outside : ℤ → ℤ → Extents → AxisShown → Option Axes
axis_outside width height before a =
    option_map (one_axis a.axis.side before) (axis_of a.axis a.scale width height (at_side a.axis.side before))

-- axes in their order, each outside those before it at its side
abbrev pub axes_outside : ℤ → ℤ → Extents → List AxisShown → Option Axes
axes_outside width height before [] = Some (no_axes before)
axes_outside width height before (a ∷ others) = do
  first ← axis_outside width height before a
  option_map (and_then first) (axes_outside width height first.extents others)

-- an axis below or above a plot runs along x, one beside it along y
abbrev pub runs_along_x : Side → Bool
runs_along_x Left = false
runs_along_x Right = false
runs_along_x Top = true
runs_along_x Bottom = true

-- whether an axis runs along x, or along y
abbrev pub runs_along : Bool → AxisShown → Bool
runs_along x a = if x then runs_along_x a.axis.side else not (runs_along_x a.axis.side)

-- all axes of a plot of this size: those along x, then those along y
abbrev pub axes_at : ℤ → ℤ → List AxisShown → Option Axes
axes_at width height axes = do
  across ← axes_outside width height no_extents (filter (runs_along true) axes)
  option_map (and_then across) (axes_outside width height across.extents (filter (runs_along false) axes))

-- ---- worked examples

-- a guide that extends so far
abbrev guide_of_extent : ℕ → Guide
guide_of_extent n = record { grid = []; items = []; extent = pixels n }

-- two axes at one side add, and one at another side stands alone
abbrev three_axes : Axes
three_axes =
    let first = one_axis Left no_extents (guide_of_extent 28) in
    let second = and_then first (one_axis Left first.extents (guide_of_extent 10)) in
    and_then second (one_axis Bottom second.extents (guide_of_extent 17))

extents_of_three_axes : three_axes.extents ≡ record { left = pixels 38; top = pos 0; right = pos 0; bottom = pixels 17 }
unfolding plus
extents_of_three_axes = refl

-- an axis with a grid and a title, over a scale
abbrev pub an_axis_at : Side → Scale → AxisShown
an_axis_at side s = record {
  axis = record {
    side = side;
    title = Some (codes "b");
    labels = true;
    ticks = true;
    line = true;
    grid = true;
    turned = false;
    count = None;
    values = None;
    format = None;
  };
  scale = s;
}

-- the axes along x, and those along y, each in their order
abbrev an_empty_axis : Side → AxisShown
an_empty_axis side = an_axis_at side (Ordinal [] [])

abbrev sides_along : Bool → List Side
sides_along x =
    map (λ (a : AxisShown). a.axis.side)
    (filter (runs_along x) (an_empty_axis Left ∷ an_empty_axis Bottom ∷ an_empty_axis Right ∷ an_empty_axis Top ∷ []))

axes_by_direction : (sides_along true ≡ Bottom ∷ Top ∷ []) × (sides_along false ≡ Left ∷ Right ∷ [])
axes_by_direction = (refl, refl)

-- the scale of a plot 80 pixels high, from 0 to 4
abbrev pub to_four : Scale
to_four = Linear (pos 0) (pixels 4) (pixels 80) (pos 0)

-- so many pixels below zero
abbrev below_zero : ℕ → ℤ
below_zero n = neg_ℤ (pixels n)

-- the lines of its grid and of its ticks, and its labels, at a height
abbrev grid_at : ℕ → Item
grid_at y = stroked grid_color (Line (pos 0) (pixels y) (pixels 40) (pixels y))

abbrev tick_at : ℕ → Item
tick_at y = stroked line_color (Line (below_zero 5) (pixels y) (pos 0) (pixels y))

abbrev label_at : ℕ → List ℕ → Item
label_at y text = words_at (label_style false End) (below_zero 7) (pixels y) text

-- the left axis of a plot of 40 by 80 pixels, with its grid and its title
abbrev pub at_the_left : Axes
at_the_left = record {
  grids = grid_at 80 ∷ grid_at 40 ∷ grid_at 0 ∷ [];
  items = stroked line_color (Line (pos 0) (pos 0) (pos 0) (pixels 80)) ∷ tick_at 80 ∷ tick_at 40 ∷ tick_at 0
      ∷ label_at 83 (codes "0") ∷ label_at 43 (codes "2") ∷ label_at 3 (codes "4")
      ∷ words_at (title_style true Middle) (below_zero 17) (pixels 40) (codes "b") ∷ [];
  extents = record { left = pixels 28; top = pos 0; right = pos 0; bottom = pos 0 };
}

an_axis_over_numbers : axes_at (pixels 40) (pixels 80) (an_axis_at Left to_four ∷ []) ≡ Some at_the_left
unfolding plus minus half rounded floor_quotient floored ceiled number_cells multiples_in step_of spaced decimals_on decimals_of label_of
    number_label decimal_digits spelling size_spelling fraction_spelling fraction_digits columns_of unicode_width
an_axis_over_numbers = refl
