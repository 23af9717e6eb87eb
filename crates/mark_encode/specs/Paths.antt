-- The paths of lines and areas. An outer None stands for a number out of range.
use Rattle.std.specs.Prelude.{◌≡◌, refl, ℕ, Bool, true, false, pos, ◌*◌, Option, Some, None, List, [], ◌∷◌, map, codes, if◌then◌else◌}
use Rattle.std.specs.Option.{option_to_list}
use Rattle.std.specs.Str.{bytes_eq}
use Rattle.fixed_num.specs.Number.{million, limit, rounded, floor_quotient}
use Rattle.fixed_num.specs.Ranges.{◌>>=◌, all_found}
use Rattle.cell_value.specs.declared.cell.Cell.{Cell}
use Rattle.cell_value.specs.declared.cell.Cell.TheVariants.{Null, Number, Text}
use Rattle.cell_value.specs.Datum.{CellAt, Datum}
use Rattle.expr_eval.specs.Values.{Values}
use Rattle.expr_eval.specs.Plain.{no_values}
use Rattle.scale_kit.specs.declared.scale.Scale.{Scale}
use Rattle.scale_kit.specs.declared.scale.Scale.TheVariants.{Linear}
use Rattle.scene_tree.specs.declared.scene.Item.{Item}
use Rattle.scene_tree.specs.declared.shape.Point.{Point}
use Rattle.scene_tree.specs.declared.shape.Point.TheVariants.{Move, Line, Close}
use Rattle.scene_tree.specs.declared.shape.Shape.TheVariants.{Path}
use Rattle.vega_spec.specs.declared.marks.MarkType.{MarkType}
use Rattle.vega_spec.specs.declared.marks.MarkType.TheVariants as mark
use Rattle.mark_shapes.specs.declared.looks.Look.{Look}
use Rattle.mark_shapes.specs.declared.runs.Pass.{Pass}
use Rattle.mark_shapes.specs.declared.runs.PathStop.{PathStop}
use Rattle.mark_shapes.specs.Runs.{points_of}
use Rattle.mark_shapes.specs.Paths.{pass_of, path_item, path_look, stop_at}
use Rattle.mark_encode.specs.declared.channels.ChannelName.{ChannelName}
use Rattle.mark_encode.specs.declared.channels.ChannelName.TheVariants as name
use Rattle.mark_encode.specs.Channels.{ScaledValue}
use Rattle.mark_encode.specs.Values.{number_shown, color_shown, bare}
use Rattle.mark_encode.specs.Looks.{default_stroke_width, LookValues, looks_of}

-- the values in the channels that say where a path passes along one direction
pub record PassValues : Type 0 where
  pub near : List ScaledValue
  pub middle : List ScaledValue
  pub far : List ScaledValue

-- the values in the channels of a path, and whether it comes back
pub record PathValues : Type 0 where
  pub closed : Bool
  pub across : PassValues
  pub down : PassValues
  pub looks : LookValues

-- where a path passes along one direction for a row
abbrev pub pass_for : PassValues → Values → CellAt → Option (Option Pass)
pass_for along values cells = do
  n ← number_shown false cells values along.near
  m ← number_shown false cells values along.middle
  f ← number_shown true cells values along.far
  Some (pass_of n m f)

-- where a path passes for a row; it has a gap where the row lacks a place
abbrev pub stop_for : PathValues → Values → CellAt → Option (Option PathStop)
stop_for path values cells = do
  x ← pass_for path.across values cells
  y ← pass_for path.down values cells
  Some (stop_at x y)

-- the stops of a path, one for each row
abbrev pub stops_for : PathValues → Values → List Datum → Option (List (Option PathStop))
stops_for path values rows = all_found (map (λ (row : Datum). stop_for path values row.cell) rows)

-- how a path is painted by its first row
abbrev pub path_look_for : ℕ → LookValues → Values → CellAt → Option (Option Look)
path_look_for default looks values cells = do
  f ← color_shown cells values looks.fill
  s ← color_shown cells values looks.stroke
  w ← number_shown false cells values looks.stroke_width
  o ← number_shown false cells values looks.opacity
  Some (path_look default f s w o)

-- the items of a path over rows that is painted by the first of them: one, or none
abbrev pub path_of : ℕ → ℕ → PathValues → Values → Datum → List Datum → Option (List Item)
path_of unit default path values first rows = do
  stops ← stops_for path values rows
  look ← path_look_for default path.looks values first.cell
  Some (option_to_list (path_item unit (points_of path.closed stops) look))

-- the items of a path over rows; none over none
abbrev pub path_over : ℕ → ℕ → PathValues → Values → List Datum → Option (List Item)
path_over unit default path values [] = Some []
path_over unit default path values (first ∷ others) = path_of unit default path values first (first ∷ others)

-- whether the paths of a type of mark come back along a base
abbrev pub is_closed : MarkType → Bool
is_closed mark.Rect = false
is_closed mark.Symbol = false
is_closed mark.Line = false
is_closed mark.Area = true
is_closed mark.Rule = false
is_closed mark.Text = false
is_closed mark.Group = false

-- the values in a channel of far ends, which counts where a path comes back
abbrev pub far_values : Bool → (ChannelName → List ScaledValue) → ChannelName → List ScaledValue
far_values closed channels far = if closed then channels far else []

abbrev pub passes_of : Bool → (ChannelName → List ScaledValue) → ChannelName → ChannelName → ChannelName → PassValues
passes_of closed channels near middle far =
    record { near = channels near; middle = channels middle; far = far_values closed channels far }

-- the values of the channels of a mark that is a path, by their names
abbrev pub path_values_of : Bool → (ChannelName → List ScaledValue) → PathValues
path_values_of closed channels = record {
  closed = closed;
  across = passes_of closed channels name.X name.Xc name.X2;
  down = passes_of closed channels name.Y name.Yc name.Y2;
  looks = looks_of channels;
}

-- The items of a line or an area over its rows in order: one path, or none. It breaks at a row that lacks a place. Its colours, its width
-- and its opacity are those of the first row; without rows, without a point, or where that row lacks a colour, there is no item.
abbrev pub path_items_of : MarkType → ℕ → (ChannelName → List ScaledValue) → Values → List Datum → Option (List Item)
path_items_of type unit channels values rows =
    path_over unit (default_stroke_width type) (path_values_of (is_closed type) channels) values rows

-- The rules at work, in millionths.

-- a row by its cells under three names
abbrev row_of : Cell → Cell → Cell → Datum
row_of x y color = record {
  key = record { id = 1; branch = 0 };
  cell = λ n. if bytes_eq n (codes "x") then x else (if bytes_eq n (codes "y") then y else color);
}

abbrev whole : ℕ → Cell
whole n = Number (pos (n * million))

abbrev blue : Cell
blue = Text (codes "#4c78a8")

-- 0 to 3 over 200 pixels, and 0 to 4 over 200 pixels upward
abbrev rightward : Option Scale
rightward = Some (Linear (pos 0) (pos (3 * million)) (pos 0) (pos (200 * million)))

abbrev upward : Option Scale
upward = Some (Linear (pos 0) (pos (4 * million)) (pos (200 * million)) (pos 0))

-- one value of a channel: of a field, or a null that is written
abbrev of_field : Option Scale → List ℕ → List ScaledValue
of_field s n = record { value = record bare { field = Some n }; scale = s } ∷ []

abbrev of_null : Option Scale → List ScaledValue
of_null s = record { value = record bare { value = Some Null }; scale = s } ∷ []

abbrev line_channels : ChannelName → List ScaledValue
line_channels name.X = of_field rightward (codes "x")
line_channels name.Y = of_field upward (codes "y")
line_channels name.Stroke = of_field None (codes "c")
line_channels n = []

-- the far end along y is the base of the scale
abbrev area_channels : ChannelName → List ScaledValue
area_channels name.X = of_field rightward (codes "x")
area_channels name.Y = of_field upward (codes "y")
area_channels name.Y2 = of_null upward
area_channels name.Fill = of_field None (codes "c")
area_channels n = []

abbrev line_item : List Point → Item
line_item points = record {
  shape = Path points None;
  fill = None;
  stroke = Some (codes "#4c78a8");
  stroke_width = pos (2 * million);
  opacity = pos million;
  unit = Some 3;
  key = None;
}

-- M0,200 L66.666667,100 M200,0: the third of four rows lacks a place
a_line : path_items_of mark.Line 3 line_channels no_values
    (row_of (whole 0) (whole 0) blue ∷ row_of (whole 1) (whole 2) blue ∷ row_of (whole 2) Null blue ∷ row_of (whole 3) (whole 4) blue ∷ [])
    ≡ Some (line_item (Move (pos 0) (pos (200 * million)) ∷ Line (pos 66666667) (pos (100 * million)) ∷ Move (pos (200 * million)) (pos 0) ∷ []) ∷ [])
unfolding rounded floor_quotient
a_line = refl

-- an area goes back along the base
an_area : path_items_of mark.Area 3 area_channels no_values (row_of (whole 0) (whole 2) blue ∷ row_of (whole 3) (whole 4) blue ∷ [])
    ≡ Some (record {
      shape = Path (Move (pos 0) (pos (100 * million)) ∷ Line (pos (200 * million)) (pos 0) ∷ Line (pos (200 * million)) (pos (200 * million))
          ∷ Line (pos 0) (pos (200 * million)) ∷ Close ∷ []) None;
      fill = Some (codes "#4c78a8");
      stroke = None;
      stroke_width = pos million;
      opacity = pos million;
      unit = Some 3;
      key = None;
    } ∷ [])
unfolding rounded floor_quotient
an_area = refl

-- the first row paints the path, though it lacks a place; the colour of no other row counts
painted_by_the_first : path_items_of mark.Line 3 line_channels no_values (row_of (whole 0) Null blue ∷ row_of (whole 3) (whole 4) Null ∷ [])
    ≡ Some (line_item (Move (pos (200 * million)) (pos 0) ∷ []) ∷ [])
unfolding rounded floor_quotient
painted_by_the_first = refl

-- no item: the first row lacks a colour, all lack a place, there are none
without_an_item : (path_items_of mark.Line 3 line_channels no_values (row_of (whole 0) (whole 2) Null ∷ row_of (whole 3) (whole 4) blue ∷ []) ≡ Some [])
    × (path_items_of mark.Line 3 line_channels no_values (row_of (whole 0) Null blue ∷ row_of Null (whole 4) blue ∷ []) ≡ Some [])
    × (path_items_of mark.Line 3 line_channels no_values [] ≡ Some [])
unfolding rounded floor_quotient
without_an_item = (refl, refl, refl)

-- a place out of range at any row
a_place_too_far : path_items_of mark.Line 3 line_channels no_values (row_of (whole 0) (whole 2) Null ∷ row_of (Number (pos limit)) (whole 4) blue ∷ []) ≡ None
unfolding rounded floor_quotient
a_place_too_far = refl
