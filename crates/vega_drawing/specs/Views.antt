-- The views of copies of objects: plots, and grids over the views of the copies in them.
use Rattle.std.specs.Prelude.{◌≡◌, refl, ℕ, ◌+◌, ◌*◌, ℤ, pos, Option, Some, None, List, [], ◌++◌, map, length, unwrap_or}
use Rattle.std.specs.Option.{option_map, option_map_or}
use Rattle.std.specs.List.{enumerate_from}
use Rattle.fixed_num.specs.Number.{million}
use Rattle.fixed_num.specs.Ranges.{◌>>=◌, all_found}
use Rattle.vega_spec.specs.declared.guides.Layout.{Layout}
use Rattle.plot_scenes.specs.declared.views.GridShown.{GridShown}
use Rattle.plot_scenes.specs.declared.views.Placed.{Placed}
use Rattle.plot_scenes.specs.Views.{placed_plot, placed_grid}
use Rattle.vega_copies.specs.Outlines.{Object, Marks, NoMarks, AMark, AGroup}
use Rattle.vega_copies.specs.Facts.{Found, CopyFound, first_copies, behind_first}
use Rattle.vega_drawing.specs.declared.spots.Grid.{Grid}
use Rattle.vega_drawing.specs.Frames.{Frame}
use Rattle.vega_drawing.specs.Grids.{grid_of, cell_at}
use Rattle.vega_drawing.specs.Guides.{legends_in}
use Rattle.vega_drawing.specs.Insides.{ItemsOfMarks}
use Rattle.vega_drawing.specs.Plots.{plot_of}

-- the space between the cells of a layout, 20 pixels where none is given
abbrev pub spacing_of : Layout → ℤ
spacing_of l = unwrap_or l.padding (pos (20 * million))

-- the grid of a copy of an object, without what stands in it
abbrev pub grid_shown : Object → Frame → ℤ → ℕ → GridShown
grid_shown o frame spacing columns = record { columns = columns; spacing = spacing; title = o.title; legends = legends_in o frame }

-- a grid round its cells
abbrev pub grid_round : Object → Frame → ℤ → ℕ → List Placed → Placed
grid_round o frame spacing columns cells = placed_grid (grid_shown o frame spacing columns) cells

-- The grid of an object with or without a layout, from the copies found in it. Nothing reads it where there is no layout.
abbrev pub grid_here : Object → Found → Grid
grid_here o found = grid_of (unwrap_or o.layout (record { padding = None; columns = None })) found

-- The view of a copy of an object with these marks in it, where these are the views of the copies in it: with a layout a grid round them, else a
-- plot, of which those groups are parts.
abbrev pub view_round : ItemsOfMarks → Object → Marks → Found → Frame → Option (List Placed) → Option Placed
view_round items o marks found frame cells =
    option_map_or (λ (l : Layout). option_map (grid_round o frame (spacing_of l) (grid_of l found).columns) cells) o.layout
    (option_map placed_plot (plot_of items o marks found frame))

-- The views of the copies of groups as the cells of a grid, from an index on, in a copy of the object that has the layout. None where a number is
-- out of range.
abbrev pub views_in : ItemsOfMarks → Marks → Found → Frame → Grid → ℕ → Option (List Placed)
views_in items NoMarks found frame grid index = Some []
views_in items (AMark unit m others) found frame grid index = views_in items others (behind_first found) frame grid index
views_in items (AGroup o inside others) found frame grid index = do
  own ← all_found (map (λ (cell : ℕ × CopyFound). cell_at frame grid o cell.0 cell.1.facts >>= λ here.
      view_round items o inside cell.1.inside here (views_in items inside cell.1.inside here (grid_here o cell.1.inside) 0))
      (enumerate_from index (first_copies found)))
  rest ← views_in items others (behind_first found) frame grid (index + length (first_copies found))
  Some (own ++ rest)

-- the view of a copy of an object with these marks in it
abbrev pub view_of : ItemsOfMarks → Object → Marks → Found → Frame → Option Placed
view_of items o marks found frame = view_round items o marks found frame (views_in items marks found frame (grid_here o found) 0)

-- The rules at work.

the_space_between_cells : spacing_of (record { padding = None; columns = None }) ≡ pos (20 * million)
the_space_between_cells = refl
