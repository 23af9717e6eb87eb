-- The copies of groups as the cells of a grid.
use Rattle.std.specs.Prelude.{◌≡◌, refl, ℕ, ◌+◌, ◌*◌, max, Bool, true, false, ℤ, pos, negsuc, Option, Some, None}
use Rattle.std.specs.Prelude.{List, [], ◌∷◌, ◌++◌, map, filter_map, length, zip, unwrap_or, is_some, codes, if◌then◌else◌}
use Rattle.std.specs.Option.{option_map_or}
use Rattle.fixed_num.specs.Number.{million}
use Rattle.fixed_num.specs.Ranges.{◌>>=◌}
use Rattle.cell_value.specs.declared.cell.Cell.{Cell}
use Rattle.cell_value.specs.declared.cell.Cell.TheVariants.{Number, Text}
use Rattle.cell_value.specs.Display.{display_of}
use Rattle.mark_encode.specs.declared.channels.ChannelName.TheVariants as channel
use Rattle.vega_spec.specs.declared.guides.Layout.{Layout}
use Rattle.vega_spec.specs.declared.marks.Facet.{Facet}
use Rattle.vega_spec.specs.declared.marks.Header.{Header as HeaderPlace}
use Rattle.vega_spec.specs.declared.marks.Header.TheVariants as header
use Rattle.vega_guides.specs.Shown.{whole_of}
use Rattle.plot_scenes.specs.declared.headers.Header.{Header}
use Rattle.vega_copies.specs.Outlines.{Object}
use Rattle.vega_copies.specs.Facts.{Facts, Found, NoneFound, FoundOf, copies_in}
use Rattle.vega_drawing.specs.declared.spots.GridSpot.{GridSpot}
use Rattle.vega_drawing.specs.declared.spots.Grid.{Grid}
use Rattle.vega_drawing.specs.Sizes.{size_in}
use Rattle.vega_drawing.specs.Scales.{spot_of, past, axis_past}
use Rattle.vega_drawing.specs.Frames.{Frame, encoded_number, inside_of, of_no_chart, as_grid}

-- how many copies were found
abbrev pub count_found : Found → ℕ
count_found NoneFound = 0
count_found (FoundOf made across others) = length (copies_in made) + count_found others

-- the columns that the first group asks for that crosses two fields, if one does
abbrev pub columns_asked : Found → Option ℕ
columns_asked NoneFound = None
columns_asked (FoundOf made across others) = option_map_or Some across (columns_asked others)

-- the columns of a layout: as many as it says, else as many as there are cells
abbrev pub columns_written : Layout → ℕ → ℕ
columns_written l cells = option_map_or whole_of l.columns cells

-- the grid of an object with a layout, from the copies found in it: a facet that crosses two fields has a column for each cell of the second; at least
-- one column
abbrev pub grid_of : Layout → Found → Grid
grid_of l found =
    let cells = count_found found in
    record { columns = max (unwrap_or (columns_asked found) (columns_written l cells)) 1; cells = cells }

-- the header that a facet draws for one of its fields, if it draws one at this place
abbrev pub draws_at : HeaderPlace → Option HeaderPlace → Bool
draws_at place None = false
draws_at header.Row (Some header.Row) = true
draws_at header.Row (Some header.Column) = false
draws_at header.Column (Some header.Row) = false
draws_at header.Column (Some header.Column) = true

abbrev pub is_row : HeaderPlace → Bool
is_row header.Row = true
is_row header.Column = false

abbrev pub header_for : HeaderPlace → (Option HeaderPlace) × (List ℕ × Cell) → Option Header
header_for place entry =
    if draws_at place entry.0 then Some (record { is_beside = is_row place; text = display_of entry.1.1 }) else None

-- the headers of a facet for the cells of a copy: that of the row before that of the column
abbrev pub headers_by : List (Option HeaderPlace) → List (List ℕ × Cell) → List Header
headers_by places cells =
    filter_map (header_for header.Row) (zip places cells) ++ filter_map (header_for header.Column) (zip places cells)

abbrev pub headers_of : Object → Facts → List Header
headers_of o facts =
    option_map_or (λ (f : Facet). headers_by (unwrap_or f.headers []) (unwrap_or facts.cells [])) o.facet []

-- what stands round a copy of a faceted group that stands at a spot of a grid; a group without a facet passes no spot
abbrev pub frame_past : Object → GridSpot → Frame → Frame
frame_past o spot outer =
    if is_some o.facet
    then record outer { scales = map (past spot) outer.scales; axes = map (axis_past spot) outer.axes }
    else outer

-- a number cut to the sizes that plots have
abbrev pub size_cut : ℤ → ℤ
size_cut n = size_in (Number n)

-- a copy that is a plot, with its size
abbrev pub sized : Object → Frame → Option Frame
sized o frame = do
  width ← encoded_number frame o channel.Width
  height ← encoded_number frame o channel.Height
  Some (record frame { width = size_cut width; height = size_cut height })

-- a copy with its size, where it is a plot; a grid has none
abbrev pub with_size : Object → Frame → Option Frame
with_size o frame = if is_some o.layout then Some (as_grid o frame) else sized o frame

-- the copy of a group that is a cell of a grid, before its size is known
abbrev pub cell_copy : Frame → Object → GridSpot → Facts → Frame
cell_copy outer o spot facts = record (inside_of of_no_chart (frame_past o spot outer) o facts) { headers = headers_of o facts ++ outer.headers }

-- the copy of a group with these facts that is the cell of this index in a grid
abbrev pub cell_at : Frame → Grid → Object → ℕ → Facts → Option Frame
cell_at outer grid o index facts = with_size o (cell_copy outer o (spot_of grid.columns grid.cells index) facts)

-- The rules at work.

-- the row's header comes first
headers_of_two_fields :
    headers_by (Some header.Column ∷ Some header.Row ∷ []) ((codes "c", Text (codes "u")) ∷ (codes "r", Text (codes "v")) ∷ [])
    ≡ record { is_beside = true; text = codes "v" } ∷ record { is_beside = false; text = codes "u" } ∷ []
headers_of_two_fields = refl

sizes_of_plots : (size_cut (negsuc 0) ≡ pos 0) × (size_cut (pos (7 * million)) ≡ pos (7 * million))
sizes_of_plots = (refl, refl)
