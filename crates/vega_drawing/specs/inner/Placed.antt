-- Copies in grids behind references, as definitions see them.
use Rattle.std.specs.Prelude.{◌≡◌, ℕ, suc, ◌+◌, max, Option, Some, None, List, [], ◌∷◌, ◌++◌, map, length, unwrap_or, Result, Ok, Err, if◌then◌else◌}
use Rattle.std.specs.Option.{option_map, option_map_or}
use Rattle.std.specs.List.{enumerate_from}
use Rattle.std.specs.Borrow.{Bor}
use Rattle.fixed_num.specs.Ranges.{◌>>=◌, all_found}
use Rattle.cell_value.specs.declared.cell.Cell.{Cell}
use Rattle.expr_eval.specs.declared.error.EvalError.{EvalError}
use Rattle.expr_eval.specs.declared.error.EvalError.TheVariants as error
use Rattle.vega_scales.specs.declared.scaled.Scaled.{Scaled}
use Rattle.vega_signals.specs.Extents.{Settled}
use Rattle.vega_spec.specs.declared.guides.Layout.{Layout}
use Rattle.vega_spec.specs.declared.marks.Facet.{Facet}
use Rattle.vega_spec.specs.declared.marks.Header.{Header as HeaderPlace}
use Rattle.vega_spec.specs.declared.spec.Group.{Group, out-Group}
use Rattle.vega_spec.specs.declared.spec.VgMark.{VgMark, VgMark-F, out-VgMark}
use Rattle.plot_scenes.specs.declared.headers.Header.{Header}
use Rattle.plot_scenes.specs.declared.views.Placed.{Placed}
use Rattle.plot_scenes.specs.Views.{placed_plot}
use Rattle.vega_copies.specs.declared.facts.CopyFacts.{CopyFacts, out-CopyFacts}
use Rattle.vega_copies.specs.declared.facts.MarkFacts.{MarkFacts, out-MarkFacts}
use Rattle.vega_copies.specs.declared.facts.Step.{Step}
use Rattle.vega_copies.specs.Outlines.{Object, Marks}
use Rattle.vega_copies.specs.Facts.{Facts, Found, CopyFound}
use Rattle.vega_copies.specs.inner.FactsSeen.{ListsOnPaths, marks_seen}
use Rattle.vega_copies.specs.inner.Outlined.{marks_in, marks_from, is_group, group_object}
use Rattle.vega_drawing.specs.declared.frames.Frame.{Frame as HeldFrame}
use Rattle.vega_drawing.specs.declared.spots.Grid.{Grid}
use Rattle.vega_drawing.specs.Scales.{and_outer, own_scales}
use Rattle.vega_drawing.specs.Frames.{Frame, inside_of, of_no_chart}
use Rattle.vega_drawing.specs.Insides.{ItemsOfMarks}
use Rattle.vega_drawing.specs.Grids.{columns_written, headers_by, headers_of, grid_of, with_size, sized, cell_at}
use Rattle.vega_drawing.specs.Plots.{plot_of}
use Rattle.vega_drawing.specs.Views.{view_of, views_in, grid_round, spacing_of}
use Rattle.vega_drawing.specs.inner.Drawn.{entered}
use Rattle.vega_drawing.specs.inner.Levels.{values_over}

-- how many copies the facts have
abbrev pub copies_counted : List MarkFacts → ℕ
copies_counted [] = 0
copies_counted (found ∷ others) = length (out-MarkFacts found).copies + copies_counted others

-- the columns that the first of them asks for that crosses two fields
abbrev pub columns_found : List MarkFacts → Option ℕ
columns_found [] = None
columns_found (found ∷ others) = option_map_or Some (out-MarkFacts found).across (columns_found others)

abbrev pub grid_found : Layout → List MarkFacts → Grid
grid_found l found =
    record { columns = max (unwrap_or (columns_found found) (columns_written l (copies_counted found))) 1; cells = copies_counted found }

-- the view of a copy of an object with this layout and these marks
abbrev pub grid_of_object : ItemsOfMarks → Object → Layout → Marks → Found → Frame → Option Placed
grid_of_object items o l marks found frame =
    option_map (grid_round o frame (spacing_of l) (grid_of l found).columns) (views_in items marks found frame (grid_of l found) 0)

-- the view of a copy of a group, by what it has in it
abbrev pub view_inside : ItemsOfMarks → ℕ → ℕ → VgMark-F Group VgMark → Found → Frame → Option Placed
view_inside items unit number m found here =
    view_of items (group_object number m) (marks_from unit (suc number) (marks_in (out-Group m.group))) found here

-- its view once its scales are known
abbrev pub view_scaled : ItemsOfMarks → Frame → ℕ → ℕ → VgMark-F Group VgMark → Found → Option Placed
view_scaled items frame unit number m found = with_size (group_object number m) frame >>= view_inside items unit number m found

-- the same before its own scales are
abbrev pub view_named : ItemsOfMarks → Frame → ℕ → ℕ → VgMark-F Group VgMark → List Scaled → Found → Option Placed
view_named items named unit number m domains found =
    view_scaled items (record named { scales = and_outer named.scales (own_scales of_no_chart (group_object 0 m).scales domains) }) unit number m found

-- the same in a copy with these headers to which steps lead, where these are the levels of signals and the cells of the facets round it
abbrev pub view_entered : ItemsOfMarks → ListsOnPaths → HeldFrame → List Step → List (Bor Settled) → Option (Bor (List (List ℕ × Cell))) → List Header
    → ℕ → ℕ → VgMark-F Group VgMark → CopyFacts → Option Placed
view_entered items lists outer path levels cells headers unit number m copy =
    view_named items (record (entered lists outer path levels cells) { headers = headers }) unit number m (out-CopyFacts copy).domains
    (marks_seen lists path (values_over outer.values.stores.now levels) 0 (out-CopyFacts copy).inside)

-- a copy in what stands round it, with its headers
abbrev pub headed : Frame → Object → Facts → Frame
headed outer o facts = record (inside_of of_no_chart outer o facts) { headers = headers_of o facts ++ outer.headers }

abbrev pub view_at : ItemsOfMarks → Frame → ℕ → ℕ → VgMark-F Group VgMark → CopyFound → Option Placed
view_at items outer unit number m copy = view_scaled items (headed outer (group_object number m) copy.facts) unit number m copy.inside

-- the view of the copy that is the cell of an index in a grid
abbrev pub cell_seen : ItemsOfMarks → Frame → Grid → ℕ → ℕ → VgMark-F Group VgMark → ℕ × CopyFound → Option Placed
cell_seen items outer grid unit number m cell =
    cell_at outer grid (group_object number m) cell.0 cell.1.facts >>= view_inside items unit number m cell.1.inside

-- the views of the cells that a mark has in a grid, from an index on: a group those of these copies
abbrev pub views_of_mark : ItemsOfMarks → Frame → Grid → ℕ → ℕ → VgMark → ℕ → List CopyFound → Option (List Placed)
views_of_mark items outer grid unit number m index copies =
    if is_group (out-VgMark m) then all_found (map (cell_seen items outer grid unit number (out-VgMark m)) (enumerate_from index copies)) else Some []

-- how many cells a mark has, where it has so many copies
abbrev pub cells_of_mark : VgMark → ℕ → ℕ
cells_of_mark m copies = if is_group (out-VgMark m) then copies else 0

-- Views were added; it is `Overflow` exactly where there are none, unless memory was refused.
abbrev pub AddsViews : {X : Type 0} → Result X EvalError → List Placed → List Placed → Option (List Placed) → Type 0
AddsViews (Ok x) old new views = option_map (λ more. old ++ more) views ≡ Some new
AddsViews (Err error.Overflow) old new views = views ≡ None
AddsViews (Err error.Memory) old new views = Unit {0}

-- the view of a copy that is a plot, with its size
abbrev pub sized_plot : ItemsOfMarks → Frame → ℕ → ℕ → VgMark-F Group VgMark → Found → Option Placed
sized_plot items frame unit number m found = do
  here ← sized (group_object number m) frame
  option_map placed_plot (plot_of items (group_object number m) (marks_from unit (suc number) (marks_in (out-Group m.group))) found here)

-- the headers of a copy with these cells
abbrev pub headers_with : Object → Option (List (List ℕ × Cell)) → List Header
headers_with o cells = option_map_or (λ (f : Facet). headers_by (unwrap_or f.headers []) (unwrap_or cells [])) o.facet []

-- the places of the headers of a facet
abbrev pub header_places_of : Option Facet → List (Option HeaderPlace)
header_places_of facet = unwrap_or (facet >>= λ (f : Facet). f.headers) []
