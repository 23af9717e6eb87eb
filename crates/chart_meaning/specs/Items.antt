-- The items of a unit in a plot. A row has an item where it has all its places, its colour and its opacity, and no negative symbol size; or there is at
-- most one path for each combination of grouping cells, by first rows, through its rows by the cell of the dimension with ties by key, broken at rows
-- without a place. A path takes its colour, width and opacity from its first row in this order, with or without a place, and no other row's count; a
-- path without a point, or whose first row lacks a colour, gives no item. An area closes each run along its way back. Conditions are decided by the first
-- that holds; those behind it aren't evaluated. What a mark draws with is evaluated for each row, so a row without an item can be out of range. Items have
-- the number of their unit, and those of rects and symbols the keys of their rows.
use Rattle.std.specs.Prelude.{◌≡◌, refl, ℕ, ◌*◌, Bool, true, false, ℤ, pos, ◌+ℤ◌, Option, Some, None, List, [], ◌∷◌, map, if◌then◌else◌, codes, neg_ℤ}
use Rattle.std.specs.List.{filter_map}
use Rattle.std.specs.Option.{option_to_list, option_map, option_map_or}
use Rattle.std.specs.Result.{result_ok}
use Rattle.std.specs.Str.{bytes_eq}
use Rattle.fixed_num.specs.Number.{million, limit, rounded, floor_quotient, root_of}
use Rattle.fixed_num.specs.Ranges.{◌>>=◌, all_found, in_range}
use Rattle.cell_value.specs.declared.cell.Cell.{Cell}
use Rattle.cell_value.specs.declared.cell.Cell.TheVariants.{Null, Number, Text}
use Rattle.cell_value.specs.declared.state.Key.{Key}
use Rattle.cell_value.specs.Datum.{CellAt, Datum}
use Rattle.scale_kit.specs.declared.scale.Scale.{Scale}
use Rattle.scale_kit.specs.declared.scale.Scale.TheVariants.{Linear}
use Rattle.scale_kit.specs.Colors.{the_text, paint_of}
use Rattle.scale_kit.specs.Lines.{middle}
use Rattle.scale_kit.specs.Places.{the_number, place_of, place_in_band_of, base_of}
use Rattle.expr_syntax.specs.declared.expr.Expr.{Expr}
use Rattle.expr_eval.specs.Plain.{no_values}
use Rattle.expr_eval.specs.Value.{truth_of}
use Rattle.expr_eval.specs.Values.{Values}
use Rattle.plain_rows.specs.declared.transforms.SortBy.{SortBy}
use Rattle.plain_facets.specs.Facets.{part_of, key_of, distinct_keys, four_rows}
use Rattle.plain_orders.specs.Orders.{in_order, row_order}
use Rattle.vl_spec.specs.declared.marks.Align.{Align}
use Rattle.vl_spec.specs.declared.marks.Align.TheVariants as align
use Rattle.vl_spec.specs.declared.marks.Baseline.{Baseline}
use Rattle.vl_spec.specs.declared.marks.Baseline.TheVariants as baseline
use Rattle.scene_tree.specs.declared.scene.Item.{Item}
use Rattle.scene_tree.specs.declared.shape.Anchor.{Anchor}
use Rattle.scene_tree.specs.declared.shape.Anchor.TheVariants as anchor
use Rattle.scene_tree.specs.declared.shape.Shape.{Shape}
use Rattle.scene_tree.specs.declared.shape.Shape.TheVariants.{Circle}
use Rattle.mark_shapes.specs.declared.looks.Look.{Look}
use Rattle.mark_shapes.specs.declared.rules.Ends.{Ends}
use Rattle.mark_shapes.specs.declared.runs.Pass.{Pass}
use Rattle.mark_shapes.specs.declared.runs.PathStop.{PathStop}
use Rattle.mark_shapes.specs.declared.shown.Shown.{Shown}
use Rattle.mark_shapes.specs.declared.shown.Shown.TheVariants.{Absent, Given}
use Rattle.mark_shapes.specs.declared.spans.Span.{Span}
use Rattle.mark_shapes.specs.declared.texts.TextStyle.{TextStyle}
use Rattle.mark_shapes.specs.Items.{item_with}
use Rattle.mark_shapes.specs.Looks.{look_of}
use Rattle.mark_shapes.specs.Paths.{pass_of, stop_at, path_look, path_item}
use Rattle.mark_shapes.specs.Places.{place_of as near_place}
use Rattle.mark_shapes.specs.Rects.{rect_over}
use Rattle.mark_shapes.specs.Rules.{ends_of, line_between}
use Rattle.mark_shapes.specs.Runs.{points_of}
use Rattle.mark_shapes.specs.Shown.{shown}
use Rattle.mark_shapes.specs.Spans.{span_of}
use Rattle.mark_shapes.specs.Symbols.{symbol_of, symbol_with, side_shown}
use Rattle.mark_shapes.specs.Texts.{text_with, whole_size, middle_below, words_of_cell, words_or_none}
use Rattle.plan_kit.specs.declared.cells.CellOf.TheVariants as shows
use Rattle.plan_kit.specs.declared.marks.Along.{Along}
use Rattle.plan_kit.specs.declared.marks.Look.{Look as LookPlan}
use Rattle.plan_kit.specs.declared.marks.Look.TheVariants as look
use Rattle.plan_kit.specs.declared.marks.LookWay.{LookWay}
use Rattle.plan_kit.specs.declared.marks.MarkPlan.{MarkPlan}
use Rattle.plan_kit.specs.declared.marks.MarkShape.{MarkShape}
use Rattle.plan_kit.specs.declared.marks.MarkShape.TheVariants as shape
use Rattle.plan_kit.specs.declared.marks.Spot.{Spot}
use Rattle.plan_kit.specs.declared.marks.Spot.TheVariants as spot
use Rattle.plan_kit.specs.declared.marks.SpotWay.{SpotWay}
use Rattle.plan_kit.specs.declared.marks.TextLook.{TextLook}
use Rattle.plan_kit.specs.declared.marks.WordsWay.{WordsWay}
use Rattle.plan_kit.specs.declared.plans.UnitPlan.{UnitPlan}
use Rattle.chart_meaning.specs.Domains.{cell_shown}

-- A plot in which marks are drawn: its size, its scales by their numbers, and what expressions read.
pub record InPlot : Type 0 where
  pub width : ℤ
  pub height : ℤ
  pub scale : ℕ → Scale
  pub values : Values

-- ---- ways

-- whether a test holds for a row; without a test it does
abbrev pub is_met : Values → CellAt → Option Expr → Option Bool
is_met values row test = option_map_or (truth_of row values) test (Some true)

-- The first of some ways whose test holds for a row, if there is one. None where a test up to it is out of range.
abbrev pub first_met : {X : Type 0} → (X → Option Expr) → Values → CellAt → List X → Option (Option X)
first_met test values row [] = Some None
first_met test values row (way ∷ ways) = is_met values row (test way) >>= λ met. if met then Some (Some way) else first_met test values row ways

-- what the way that counts gives, where it gives something; absent where none counts
abbrev pub shown_by : {X Y : Type 0} → (X → Option (Option Y)) → Option X → Option (Shown Y)
shown_by gives None = Some Absent
shown_by gives (Some way) = option_map shown (gives way)

-- ---- places

-- along x or not: how long the plot is, and where marks stand that are at its foot
abbrev pub length_along : InPlot → Bool → ℤ
length_along plot across = if across then plot.width else plot.height

abbrev pub foot_along : InPlot → Bool → ℤ
foot_along plot across = if across then pos 0 else plot.height

-- one half, and one whole
abbrev pub half : ℤ
half = pos 500000

abbrev pub whole : ℤ
whole = pos million

-- Where a spot is. An outer None stands for a number out of range, an inner one for no place.
abbrev pub place_at : InPlot → Bool → CellAt → Spot → Option (Option ℤ)
place_at plot across row (spot.Pixels cell) = Some (the_number cell)
place_at plot across row (spot.Place s c) = cell_shown plot.values row c >>= λ cell. result_ok (place_of (plot.scale s) cell)
place_at plot across row (spot.Centre s c) = cell_shown plot.values row c >>= λ cell. result_ok (place_in_band_of (plot.scale s) cell half)
place_at plot across row (spot.EndOfBand s c) = cell_shown plot.values row c >>= λ cell. result_ok (place_in_band_of (plot.scale s) cell whole)
place_at plot across row (spot.Base s) = Some (Some (base_of (plot.scale s)))
place_at plot across row spot.Middle = Some (Some (middle (pos 0, length_along plot across)))
place_at plot across row spot.Foot = Some (Some (foot_along plot across))
place_at plot across row spot.Nowhere = Some None

-- a place moved by an offset, if there is one
abbrev pub moved_by : Option ℤ → Option ℤ → Option (Option ℤ)
moved_by None place = Some place
moved_by (Some offset) None = Some None
moved_by (Some offset) (Some place) = option_map Some (in_range (place +ℤ offset))

abbrev pub place_by : InPlot → Bool → CellAt → SpotWay → Option (Option ℤ)
place_by plot across row way = place_at plot across row way.gives >>= moved_by way.offset

-- an end of a mark for a row
abbrev pub end_at : InPlot → Bool → CellAt → List SpotWay → Option (Shown ℤ)
end_at plot across row ways = first_met (λ (way : SpotWay). way.test) plot.values row ways >>= shown_by (place_by plot across row)

-- ---- looks

-- the number that a look shows: the cell's own, or its place on the scale; and its colour or sign
abbrev pub amount_at : InPlot → CellAt → LookPlan → Option (Option ℤ)
amount_at plot row (look.Written cell) = Some (the_number cell)
amount_at plot row (look.OnScale s c) = cell_shown plot.values row c >>= λ cell. result_ok (place_of (plot.scale s) cell)

abbrev pub paint_at : InPlot → CellAt → LookPlan → Option (Option (List ℕ))
paint_at plot row (look.Written cell) = Some (the_text cell)
paint_at plot row (look.OnScale s c) = option_map (paint_of (plot.scale s)) (cell_shown plot.values row c)

-- the same of ways
abbrev pub amount_shown : InPlot → CellAt → List LookWay → Option (Shown ℤ)
amount_shown plot row ways =
    first_met (λ (way : LookWay). way.test) plot.values row ways >>= shown_by (λ (way : LookWay). amount_at plot row way.gives)

abbrev pub paint_shown : InPlot → CellAt → List LookWay → Option (Shown (List ℕ))
paint_shown plot row ways =
    first_met (λ (way : LookWay). way.test) plot.values row ways >>= shown_by (λ (way : LookWay). paint_at plot row way.gives)

-- a colour as that of what is inside, or of a line
abbrev pub as_fill : Bool → Shown (List ℕ) → Shown (List ℕ)
as_fill stroked color = if stroked then Absent else color

abbrev pub as_stroke : Bool → Shown (List ℕ) → Shown (List ℕ)
as_stroke stroked color = if stroked then color else Absent

-- the width of a line, if there is one
abbrev pub width_shown : Option ℤ → Shown ℤ
width_shown width = option_map_or Given width Absent

-- an item without a line has this width, which no picture shows
abbrev pub width_unseen : ℕ
width_unseen = 1

-- how the item of a row is painted; None inside where it lacks a colour or an opacity
abbrev pub painted_at : InPlot → MarkPlan → CellAt → Option (Option Look)
painted_at plot m row = do
  color ← paint_shown plot row m.color
  opacity ← amount_shown plot row m.opacity
  Some (look_of width_unseen (as_fill m.stroked color) (as_stroke m.stroked color) (width_shown m.line_width) opacity)

-- how a path is painted by its first row; an opacity that lacks is 1
abbrev pub path_painted_at : InPlot → MarkPlan → CellAt → Option (Option Look)
path_painted_at plot m row = do
  color ← paint_shown plot row m.color
  opacity ← amount_shown plot row m.opacity
  Some (path_look width_unseen (as_fill m.stroked color) (as_stroke m.stroked color) (width_shown m.line_width) opacity)

-- ---- shapes

-- where a rect stands along a direction: between its two ends, in either order
abbrev pub span_along : InPlot → Bool → CellAt → Along → Option (Option Span)
span_along plot across row along = do
  near ← end_at plot across row along.near
  far ← end_at plot across row along.far
  span_of near far Absent Absent

abbrev pub rect_at : InPlot → MarkPlan → CellAt → Option (Option Shape)
rect_at plot m row = do
  x ← span_along plot true row m.across
  y ← span_along plot false row m.down
  Some (rect_over x y)

-- where a mark of one place stands along a direction
abbrev pub place_along : InPlot → Bool → CellAt → Along → Option (Option ℤ)
place_along plot across row along = option_map (λ near. near_place near Absent) (end_at plot across row along.near)

abbrev pub symbol_at : InPlot → MarkPlan → CellAt → Option (Option Shape)
symbol_at plot m row = do
  x ← place_along plot true row m.across
  y ← place_along plot false row m.down
  size ← amount_shown plot row m.size
  sign ← paint_shown plot row m.sign
  symbol_with (symbol_of sign) (side_shown size) x y

-- where a rule begins and ends along a direction
abbrev pub ends_along : InPlot → Bool → CellAt → Along → Option (Option Ends)
ends_along plot across row along = do
  near ← end_at plot across row along.near
  far ← end_at plot across row along.far
  Some (ends_of (length_along plot across) near far)

abbrev pub rule_at : InPlot → MarkPlan → CellAt → Option (Option Shape)
rule_at plot m row = do
  x ← ends_along plot true row m.across
  y ← ends_along plot false row m.down
  Some (line_between x y)

-- how a text stands at its place: by its left, its middle or its right, and so far below
abbrev pub anchor_for : Align → Anchor
anchor_for align.Left = anchor.Start
anchor_for align.Center = anchor.Middle
anchor_for align.Right = anchor.End

abbrev pub below_for : ℕ → Baseline → ℤ
below_for size baseline.Top = pos (size * million)
below_for size baseline.Middle = middle_below size
below_for size baseline.Bottom = pos 0
below_for size baseline.Alphabetic = pos 0

abbrev pub style_for : ℕ → TextLook → TextStyle
style_for size text = record { size = size; anchor = anchor_for text.align; below = below_for size text.baseline }

-- the words of a row: the cell's display, or its label by a format; no words where no way counts
abbrev pub words_by : InPlot → CellAt → WordsWay → Option (Option (List ℕ))
words_by plot row way = option_map (λ cell. words_of_cell way.gives.format (Some cell)) (cell_shown plot.values row way.gives.cell)

abbrev pub words_at : InPlot → CellAt → List WordsWay → Option (Shown (List ℕ))
words_at plot row ways = first_met (λ (way : WordsWay). way.test) plot.values row ways >>= shown_by (words_by plot row)

abbrev pub text_by : InPlot → MarkPlan → CellAt → TextLook → Option (Option Shape)
text_by plot m row text = do
  x ← place_along plot true row m.across
  y ← place_along plot false row m.down
  words ← words_at plot row m.words
  text_with (style_for (whole_size text.size) text) x y (Some text.dx) (Some text.dy) (words_or_none words)

abbrev pub text_at : InPlot → MarkPlan → CellAt → Option (Option Shape)
text_at plot m row = option_map_or (text_by plot m row) m.text (Some None)

-- the shape of the item of a row; those of a path have none of their own
abbrev pub shape_at : MarkShape → InPlot → MarkPlan → CellAt → Option (Option Shape)
shape_at shape.Rect plot m row = rect_at plot m row
shape_at shape.Symbol plot m row = symbol_at plot m row
shape_at shape.Line plot m row = Some None
shape_at shape.Area plot m row = Some None
shape_at shape.Rule plot m row = rule_at plot m row
shape_at shape.Text plot m row = text_at plot m row

-- ---- items of rows

-- whether items have the keys of their rows: rects and symbols
abbrev pub has_keys : MarkShape → Bool
has_keys shape.Rect = true
has_keys shape.Symbol = true
has_keys shape.Line = false
has_keys shape.Area = false
has_keys shape.Rule = false
has_keys shape.Text = false

abbrev pub key_for : MarkShape → Key → Option Key
key_for form key = if has_keys form then Some key else None

-- the item of a row, if it has one; an outer None stands for a number out of range
abbrev pub item_at : InPlot → ℕ → MarkPlan → Datum → Option (Option Item)
item_at plot unit m row = do
  form ← shape_at m.shape plot m row.cell
  painted ← painted_at plot m row.cell
  Some (item_with unit (key_for m.shape row.key) form painted)

-- those of all rows, in their order
abbrev pub items_of_rows : InPlot → ℕ → MarkPlan → List Datum → Option (List Item)
items_of_rows plot unit m rows = option_map (filter_map (λ found. found)) (all_found (map (item_at plot unit m) rows))

-- ---- paths

-- rows in the order of a path: by a field, with ties by key
abbrev pub rising : List ℕ → SortBy
rising field = record { field = field; descending = false }

abbrev pub rows_along : Option (List ℕ) → List Datum → List Datum
rows_along field rows = in_order (row_order (option_to_list (option_map rising field))) rows

-- the rows of each path: those that have the same cells in the fields of its series, by first rows
abbrev pub rows_of_paths : List (List ℕ) → List Datum → List (List Datum)
rows_of_paths series rows = map (λ key. part_of series key rows) (distinct_keys (map (key_of series) rows))

-- where a path passes for a row, if it has a place along both directions
abbrev pub pass_along : InPlot → Bool → CellAt → Along → Option (Option Pass)
pass_along plot across row along = do
  near ← end_at plot across row along.near
  far ← end_at plot across row along.far
  Some (pass_of near Absent far)

abbrev pub stop_of : InPlot → MarkPlan → Datum → Option (Option PathStop)
stop_of plot m row = do
  x ← pass_along plot true row.cell m.across
  y ← pass_along plot false row.cell m.down
  Some (stop_at x y)

-- the item of a path over rows in its order, if it has one
abbrev pub path_begun : Bool → InPlot → ℕ → MarkPlan → Datum → List Datum → Option (Option Item)
path_begun closed plot unit m first rows = do
  stops ← all_found (map (stop_of plot m) rows)
  painted ← path_painted_at plot m first.cell
  Some (path_item unit (points_of closed stops) painted)

abbrev pub path_over : Bool → InPlot → ℕ → MarkPlan → List Datum → Option (Option Item)
path_over closed plot unit m [] = Some None
path_over closed plot unit m (first ∷ others) = path_begun closed plot unit m first (first ∷ others)

-- the items of all paths of a mark
abbrev pub items_of_paths : Bool → InPlot → ℕ → MarkPlan → List Datum → Option (List Item)
items_of_paths closed plot unit m rows =
    option_map (filter_map (λ found. found))
    (all_found (map (λ path. path_over closed plot unit m (rows_along m.order path)) (rows_of_paths m.series rows)))

-- ---- units

-- the items of a mark of this shape over rows
abbrev pub items_by : MarkShape → InPlot → ℕ → MarkPlan → List Datum → Option (List Item)
items_by shape.Rect plot unit m rows = items_of_rows plot unit m rows
items_by shape.Symbol plot unit m rows = items_of_rows plot unit m rows
items_by shape.Line plot unit m rows = items_of_paths false plot unit m rows
items_by shape.Area plot unit m rows = items_of_paths true plot unit m rows
items_by shape.Rule plot unit m rows = items_of_rows plot unit m rows
items_by shape.Text plot unit m rows = items_of_rows plot unit m rows

-- The items of a unit over its rows in a plot; None where a number is out of range.
abbrev pub unit_items : InPlot → UnitPlan → List Datum → Option (List Item)
unit_items plot u rows = items_by u.mark.shape plot u.number u.mark rows

-- The rules at work.

-- so many pixels
abbrev pixels : ℕ → ℤ
pixels n = pos (n * million)

-- a plot of 200 by 20 pixels, with 7 alone over its width and a null over its height
abbrev a_plot : InPlot
a_plot = record {
  width = pixels 200;
  height = pixels 20;
  scale = λ s. Linear (pixels 7) (pixels 7) (pos 0) (pixels 200);
  values = no_values;
}

abbrev always : Spot → List SpotWay
always s = record { test = None; gives = s; offset = None } ∷ []

abbrev written : Cell → List LookWay
written cell = record { test = None; gives = look.Written cell } ∷ []

-- circles of a written place
abbrev circles : MarkPlan
circles = record {
  shape = shape.Symbol;
  across = record { near = always (spot.Centre 0 (shows.Written (Number (pixels 7)))); far = [] };
  down = record { near = always spot.Middle; far = [] };
  stroked = false;
  line_width = None;
  color = written (Text (codes "#4c78a8"));
  opacity = written (Number (pos 700000));
  size = written (Number (pixels 30));
  sign = written (Text (codes "circle"));
  words = [];
  text = None;
  order = None;
  series = [];
}

-- a circle in the middle of a domain of one point: at 100, 10 with the radius 2.738613
a_circle_in_the_middle : (row : CellAt) → symbol_at a_plot circles row ≡ Some (Some (Circle (pixels 100) (pixels 10) (pos 2738613)))
unfolding rounded floor_quotient root_of
a_circle_in_the_middle row = refl

-- the ends of stacked bars: 1 to 4, 0 to -2 and 0 to 1 over 200 pixels from -2 up to 4
abbrev stacked : ℤ → ℤ → CellAt
stacked start end name = if bytes_eq name (codes "start") then Number start else Number end

abbrev over_six : InPlot
over_six = record a_plot { scale = λ s. Linear (neg_ℤ (pixels 2)) (pixels 4) (pixels 200) (pos 0) }

abbrev bar_from : ℤ → ℤ → Option (Option Span)
bar_from start end =
    span_along over_six false (stacked start end)
    (record { near = always (spot.Place 0 (shows.Field (codes "end"))); far = always (spot.Place 0 (shows.Field (codes "start"))) })

stacked_bars : (bar_from (pixels 1) (pixels 4) ≡ Some (Some (record { from = pos 0; size = pixels 100 })))
    × (bar_from (pos 0) (neg_ℤ (pixels 2)) ≡ Some (Some (record { from = pos 133333333; size = pos 66666667 })))
    × (bar_from (pos 0) (pixels 1) ≡ Some (Some (record { from = pixels 100; size = pos 33333333 })))
unfolding rounded floor_quotient
stacked_bars = (refl, refl, refl)

-- without a colour, or without a place, there is no item
without_an_item : (items_of_rows a_plot 0 (record circles { color = written Null }) four_rows ≡ Some [])
    × (items_of_rows a_plot 0 (record circles { down = record { near = always spot.Nowhere; far = [] } }) four_rows ≡ Some [])
unfolding rounded floor_quotient root_of
without_an_item = (refl, refl)

-- an offset that leads out of range
out_of_range : moved_by (Some (pos 1)) (Some (pos limit)) ≡ None
out_of_range = refl

-- the rows of four paths by `b`, and of one without series
ids_of_paths : (map (map (λ (row : Datum). row.key.id)) (rows_of_paths (codes "b" ∷ []) four_rows) ≡ (1 ∷ 4 ∷ []) ∷ (2 ∷ 3 ∷ []) ∷ [])
    × (map (map (λ (row : Datum). row.key.id)) (rows_of_paths [] four_rows) ≡ (1 ∷ 2 ∷ 3 ∷ 4 ∷ []) ∷ [])
ids_of_paths = (refl, refl)

-- 5, 7, 1 and 5: by the cell, with ties by key
ids_along_a_path : map (λ (row : Datum). row.key.id) (rows_along (Some (codes "v")) four_rows) ≡ 3 ∷ 1 ∷ 4 ∷ 2 ∷ []
ids_along_a_path = refl
