-- Axes.
use Rattle.std.specs.Prelude.{◌≡◌, refl, ℕ, ◌+◌, min, max, Bool, true, false, not, if◌then◌else◌, List, [], ◌∷◌, ◌++◌, map, codes, ℤ, pos}
use Rattle.std.specs.Prelude.{neg_ℤ, Option, Some, None, unwrap_or}
use Rattle.unicode_width.proofs.Computing.{unicode_width}
use Rattle.std.specs.Option.{option_map, option_map_or, is_some}
use Rattle.fixed_num.specs.Number.{rounded, floor_quotient}
use Rattle.fixed_num.specs.Ranges.{◌>>=◌}
use Rattle.cell_value.specs.declared.cell.Cell.{Cell}
use Rattle.scene_tree.specs.declared.scene.Item.{Item}
use Rattle.scene_tree.specs.declared.shape.Anchor.{Anchor}
use Rattle.scene_tree.specs.declared.shape.Anchor.TheVariants.{Start, Middle, End}
use Rattle.scene_tree.specs.declared.shape.Shape.{Shape}
use Rattle.scene_tree.specs.declared.shape.Shape.TheVariants.{Line, Words}
use Rattle.scale_kit.specs.declared.scale.Scale.{Scale}
use Rattle.guide_text.specs.Widths.{columns_of, width_of, greatest_size}
use Rattle.guide_kit.specs.declared.axes.AxisOf.{AxisOf}
use Rattle.guide_kit.specs.declared.axes.Guide.{Guide}
use Rattle.guide_kit.specs.declared.frames.AxisFrame.{AxisFrame}
use Rattle.guide_kit.specs.declared.frames.Side.{Side}
use Rattle.guide_kit.specs.declared.frames.Side.TheVariants.{Bottom, Top, Left, Right}
use Rattle.guide_kit.specs.declared.ticks.Tick.{Tick}
use Rattle.guide_kit.specs.Items.{line_between, words_along, line_color, grid_color, label_style, title_style}
use Rattle.guide_kit.specs.Measures.{pixels, plus, minus, half}
use Rattle.guide_kit.specs.Sides.{frame_of, outward, are_turned, label_anchor, label_distance, label_along, title_distance}
use Rattle.guide_kit.specs.Ticks.{cells_shown, shows_of, count_for, tick_of, each_that_has}

-- the width of the widest of some texts, in pixels; 0 without any
abbrev pub widest : ℕ → List (List ℕ) → ℕ
widest column [] = 0
widest column (text ∷ texts) = max (width_of column text) (widest column texts)

-- the labels of ticks
abbrev pub labels_of : List Tick → List (List ℕ)
labels_of = map (λ (tick : Tick). tick.label)

-- how far labels reach: as high as a line is, or where they are turned or the axis runs along y as wide as the widest of them
abbrev pub label_reach : AxisFrame → Bool → List Tick → ℕ
label_reach f turned ticks = if f.plan.along_x then (if turned then widest 6 (labels_of ticks) else 10) else widest 6 (labels_of ticks)

-- how far the parts of an axis extend that it has: ticks 5 pixels, labels 2 and their reach, a title 15
abbrev pub tick_extent : AxisOf → ℕ
tick_extent a = if a.ticks then 5 else 0

abbrev pub label_extent : AxisOf → AxisFrame → List Tick → ℕ
label_extent a f ticks = if a.labels then (2 + label_reach f (are_turned f a.turned) ticks) else 0

abbrev pub title_extent : AxisOf → ℕ
title_extent a = if is_some a.title then 15 else 0

-- how far an axis extends outward, in whole pixels, cut to 10^11
abbrev pub extent_of : AxisOf → AxisFrame → List Tick → ℕ
extent_of a f ticks = min (tick_extent a + label_extent a f ticks + title_extent a) greatest_size

-- the line of the grid at a tick
abbrev pub grid_line : AxisFrame → Tick → Item
grid_line f tick = line_between f.plan.along_x grid_color tick.place (pos 0) tick.place f.depth

-- the line of an axis
abbrev pub axis_line : AxisFrame → Item
axis_line f = line_between f.plan.along_x line_color (pos 0) f.edge f.size f.edge

-- the line of a tick, 5 pixels outward, from its lesser end to the greater
abbrev pub tick_line : AxisFrame → Tick → Item
tick_line f tick =
    if f.plan.far then line_between f.plan.along_x line_color tick.place f.edge tick.place (outward f 5)
    else line_between f.plan.along_x line_color tick.place (outward f 5) tick.place f.edge

-- the label of a tick, by whether labels are turned and whether there are ticks
abbrev pub tick_label : AxisFrame → Bool → Bool → Tick → Item
tick_label f turned ticks tick =
    words_along f.plan.along_x (label_style turned (label_anchor f turned))
    (label_along f turned tick.place) (outward f (label_distance f turned ticks)) tick.label

-- the title of an axis of this extent; it is turned where the axis runs along y
abbrev pub axis_title : AxisFrame → ℕ → List ℕ → Item
axis_title f extent text =
    words_along f.plan.along_x (title_style (not f.plan.along_x) Middle) (half f.size) (outward f (title_distance f extent)) text

-- the parts of an axis that it has
abbrev pub grid_part : AxisOf → AxisFrame → List Tick → List Item
grid_part a f ticks = if a.grid then map (grid_line f) ticks else []

abbrev pub line_part : AxisOf → AxisFrame → List Item
line_part a f = if a.line then axis_line f ∷ [] else []

abbrev pub tick_part : AxisOf → AxisFrame → List Tick → List Item
tick_part a f ticks = if a.ticks then map (tick_line f) ticks else []

abbrev pub label_part : AxisOf → AxisFrame → List Tick → List Item
label_part a f ticks = if a.labels then map (tick_label f (are_turned f a.turned) a.ticks) ticks else []

abbrev pub title_part : AxisOf → AxisFrame → ℕ → List Item
title_part a f extent = option_map_or (λ text. axis_title f extent text ∷ []) a.title []

-- an axis with these ticks: its grid; its line, ticks, labels and title; and its extent
abbrev pub axis_with : AxisOf → AxisFrame → List Tick → Guide
axis_with a f ticks = record {
  grid = grid_part a f ticks;
  items = line_part a f ++ tick_part a f ticks ++ label_part a f ticks ++ title_part a f (extent_of a f ticks);
  extent = pixels (extent_of a f ticks);
}

-- the cells at which an axis has ticks: those that are given, or those that its scale shows for so many
abbrev pub axis_cells : Option (List Cell) → ℕ → Scale → Option (List Cell)
axis_cells (Some values) count s = Some values
axis_cells None count s = cells_shown count s

-- the ticks of an axis for so many; those of a given list too have labels with the decimals of the step for so many
abbrev pub axis_ticks : AxisOf → Scale → ℕ → Option (List Tick)
axis_ticks a s count = axis_cells a.values count s >>= each_that_has (tick_of s (shows_of count s) a.format)

-- an axis at a plot of this size, moved outward by an offset; none where a tick or its place is out of range
abbrev pub axis_of : AxisOf → Scale → ℤ → ℤ → ℤ → Option Guide
axis_of a s width height offset =
    let f = frame_of a.side width height offset in
    option_map (axis_with a f) (axis_ticks a s (unwrap_or a.count (count_for f.size)))

-- ---- worked examples

-- the sides of a plot of 40 by 80 pixels, and a tick at 20 with the label 7
abbrev at_side : Side → AxisFrame
at_side side = frame_of side (pixels 40) (pixels 80) (pos 0)

abbrev a_tick : Tick
a_tick = record { place = pixels 20; label = codes "7" }

abbrev below_zero : ℕ → ℤ
below_zero n = neg_ℤ (pixels n)

the_lines_of_axes : ((axis_line (at_side Bottom)).shape ≡ Line (pos 0) (pixels 80) (pixels 40) (pixels 80))
    × ((axis_line (at_side Left)).shape ≡ Line (pos 0) (pos 0) (pos 0) (pixels 80))
    × ((axis_line (at_side Top)).shape ≡ Line (pos 0) (pos 0) (pixels 40) (pos 0))
    × ((axis_line (at_side Right)).shape ≡ Line (pixels 40) (pos 0) (pixels 40) (pixels 80))
unfolding plus minus
the_lines_of_axes = (refl, refl, refl, refl)

the_lines_of_ticks : ((tick_line (at_side Bottom) a_tick).shape ≡ Line (pixels 20) (pixels 80) (pixels 20) (pixels 85))
    × ((tick_line (at_side Left) a_tick).shape ≡ Line (below_zero 5) (pixels 20) (pos 0) (pixels 20))
    × ((tick_line (at_side Top) a_tick).shape ≡ Line (pixels 20) (below_zero 5) (pixels 20) (pos 0))
    × ((tick_line (at_side Right) a_tick).shape ≡ Line (pixels 40) (pixels 20) (pixels 45) (pixels 20))
unfolding plus minus
the_lines_of_ticks = (refl, refl, refl, refl)

-- a label of a tick, which is written small
abbrev label_shape : ℤ → ℤ → Bool → Anchor → Shape
label_shape x y turned anchor = Words x y turned anchor 10 false (codes "7")

the_labels_of_ticks : ((tick_label (at_side Bottom) false true a_tick).shape ≡ label_shape (pixels 20) (pixels 97) false Middle)
    × ((tick_label (at_side Left) false true a_tick).shape ≡ label_shape (below_zero 7) (pixels 23) false End)
    × ((tick_label (at_side Top) false true a_tick).shape ≡ label_shape (pixels 20) (below_zero 7) false Middle)
    × ((tick_label (at_side Right) false true a_tick).shape ≡ label_shape (pixels 47) (pixels 23) false Start)
unfolding plus minus
the_labels_of_ticks = (refl, refl, refl, refl)

turned_labels : ((tick_label (at_side Bottom) true true a_tick).shape ≡ label_shape (pixels 23) (pixels 87) true End)
    × ((tick_label (at_side Top) true true a_tick).shape ≡ label_shape (pixels 23) (below_zero 7) true Start)
    × (are_turned (at_side Left) true ≡ false) × (are_turned (at_side Right) true ≡ false)
unfolding plus minus
turned_labels = (refl, refl, refl, refl)

labels_without_ticks : ((tick_label (at_side Bottom) false false a_tick).shape ≡ label_shape (pixels 20) (pixels 92) false Middle)
    × ((tick_label (at_side Left) false false a_tick).shape ≡ label_shape (below_zero 2) (pixels 23) false End)
    × ((tick_label (at_side Bottom) true false a_tick).shape ≡ label_shape (pixels 23) (pixels 82) true End)
unfolding plus minus
labels_without_ticks = (refl, refl, refl)

-- a title, which is bold
abbrev title_shape : ℤ → ℤ → Bool → Shape
title_shape x y turned = Words x y turned Middle 11 true (codes "b")

the_titles_of_axes : ((axis_title (at_side Bottom) 28 (codes "b")).shape ≡ title_shape (pixels 20) (pixels 108) false)
    × ((axis_title (at_side Left) 28 (codes "b")).shape ≡ title_shape (below_zero 17) (pixels 40) true)
    × ((axis_title (at_side Top) 28 (codes "b")).shape ≡ title_shape (pixels 20) (below_zero 17) false)
    × ((axis_title (at_side Right) 28 (codes "b")).shape ≡ title_shape (pixels 68) (pixels 40) true)
unfolding plus minus half rounded floor_quotient
the_titles_of_axes = (refl, refl, refl, refl)

the_grid_at_a_tick : ((grid_line (at_side Bottom) a_tick).shape ≡ Line (pixels 20) (pos 0) (pixels 20) (pixels 80))
    × ((grid_line (at_side Left) a_tick).shape ≡ Line (pos 0) (pixels 20) (pixels 40) (pixels 20))
the_grid_at_a_tick = (refl, refl)

-- an axis outside another goes outward
abbrev outside : Side → AxisFrame
outside side = frame_of side (pixels 40) (pixels 80) (pixels 28)

outside_another : ((axis_line (outside Left)).shape ≡ Line (below_zero 28) (pos 0) (below_zero 28) (pixels 80))
    × ((tick_label (outside Bottom) false true a_tick).shape ≡ label_shape (pixels 20) (pixels 125) false Middle)
unfolding plus minus
outside_another = (refl, refl)

-- an axis with all parts but values
abbrev whole_axis : Side → AxisOf
whole_axis side = record {
  side = side;
  title = Some (codes "b");
  labels = true;
  ticks = true;
  line = true;
  grid = true;
  turned = false;
  count = None;
  values = None;
  format = None;
}

abbrev left_axis : AxisOf
left_axis = whole_axis Left

abbrev bottom_axis : AxisOf
bottom_axis = whole_axis Bottom

extents : (extent_of bottom_axis (at_side Bottom) (a_tick ∷ []) ≡ 32) × (extent_of left_axis (at_side Left) (a_tick ∷ []) ≡ 28)
    × (extent_of (record left_axis { title = None; ticks = false }) (at_side Left) [] ≡ 2)
    × (extent_of (record bottom_axis { title = None; labels = false }) (at_side Bottom) [] ≡ 5)
unfolding columns_of unicode_width
extents = (refl, refl, refl, refl)
