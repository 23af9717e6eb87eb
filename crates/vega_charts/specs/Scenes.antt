-- What is drawn of a Vega specification over rows: its picture, and the scales of its plots.
use Rattle.std.specs.Prelude.{◌≡◌, refl, ℕ, ◌*◌, true, pos, Option, Some, None, List, [], ◌∷◌, map, flat_map, length, codes}
use Rattle.std.specs.Option.{option_map}
use Rattle.std.specs.List.{enumerate_from}
use Rattle.fixed_num.specs.Number.{million}
use Rattle.fixed_num.specs.Ranges.{◌>>=◌, all_found}
use Rattle.cell_value.specs.State.{Dataset}
use Rattle.expr_eval.specs.Plain.{no_values}
use Rattle.plain_facets.specs.Facets.{four_rows}
use Rattle.vega_spec.specs.declared.guides.Edge.{Edge}
use Rattle.vega_spec.specs.declared.guides.Edge.TheVariants.{FirstColumn}
use Rattle.vega_spec.specs.declared.marks.Facet.{Facet}
use Rattle.vega_spec.specs.declared.marks.Header.TheVariants as header
use Rattle.vega_spec.specs.declared.scales.Range.TheVariants as range
use Rattle.vega_spec.specs.declared.spec.VgSpec.{VgSpec}
use Rattle.vega_lists.specs.Scopes.{no_lists, with_list}
use Rattle.plot_scenes.specs.declared.headers.Header.{Header}
use Rattle.plot_scenes.specs.declared.scenes.Drawing.{Drawing}
use Rattle.plot_scenes.specs.declared.views.Part.{Part}
use Rattle.plot_scenes.specs.declared.views.Part.TheVariants.{Title, OfPlot}
use Rattle.plot_scenes.specs.declared.views.Placed.{Placed}
use Rattle.plot_scenes.specs.Views.{placed_plot}
use Rattle.vega_copies.specs.Outlines.{Object, Marks, NoMarks, AMark, AGroup, Opened, bare, a_symbol}
use Rattle.vega_copies.specs.Scopes.{Names, outermost}
use Rattle.vega_copies.specs.Facets.{by}
use Rattle.vega_copies.specs.Facts.{NoneFound, CopyFound, first_copies, found_in, facts_of}
use Rattle.vega_drawing.specs.Drawings.{drawn_from_facts}
use Rattle.vega_drawing.specs.Frames.{Frame}
use Rattle.vega_drawing.specs.Grids.{cell_at}
use Rattle.vega_drawing.specs.Plots.{plot_of}
use Rattle.vega_drawing.specs.Scales.{a_scale, an_axis}
use Rattle.vega_drawing.specs.Tops.{round_top, top_frame}
use Rattle.vega_drawing.specs.Views.{grid_round, view_of}
use Rattle.vega_charts.specs.Items.{items_in_copy}

-- What is drawn where names stand for lists and values at the top: from the facts of its copies, with the items of its marks over their rows.
-- None where a number is out of range.
abbrev pub drawing_over : VgSpec → List Dataset → Opened → Names → Option Drawing
drawing_over g sources top names = facts_of sources top.object top.marks names >>= drawn_from_facts items_in_copy g top

-- The rules at work.

-- an object with a layout and a scale, and the names round it
abbrev a_grid_object : Object
a_grid_object = record bare {
  scales = a_scale (codes "x") range.Width ∷ [];
  layout = Some (record { padding = None; columns = Some (pos (3 * million)) });
}

abbrev round_names : Names
round_names = record (outermost no_values) { lists = with_list (codes "t") four_rows no_lists }

-- how many items each plot of a view draws, in order
abbrev items_of_part : Part → List ℕ
items_of_part (Title text) = []
items_of_part (OfPlot here) = length here.panel.items ∷ []

abbrev items_of_plots : Placed → List ℕ
items_of_plots view = flat_map items_of_part view.parts

-- a plot, and then twice one for each of three cells with a header; these have an axis over the scale of the grid where they are in the first
-- of three columns, and all seven have that of the grid. Each axis is its title alone.
abbrev with_header : Facet → Facet
with_header f = record f { headers = Some (Some header.Column ∷ []) }

abbrev with_an_axis : Option Edge → Object → Object
with_an_axis e o = record o { axes = an_axis (codes "x") e ∷ [] }

abbrev a_faceted : Marks → Marks
a_faceted others =
    AGroup (with_an_axis (Some FirstColumn) (record bare { facet = Some (with_header (by (codes "a" ∷ []) None)) }))
    (AMark 0 a_symbol NoMarks) others

abbrev seven_plots : Marks
seven_plots = AGroup bare NoMarks (a_faceted (a_faceted NoMarks))

abbrev a_whole_grid : Option Placed
a_whole_grid = do
  found ← facts_of [] (with_an_axis None a_grid_object) seven_plots round_names
  frame ← top_frame None None (with_an_axis None a_grid_object) found.facts
  view_of items_in_copy (with_an_axis None a_grid_object) seven_plots found.inside frame

two_facets_in_a_grid : option_map items_of_plots a_whole_grid ≡ Some (1 ∷ 2 ∷ 2 ∷ 3 ∷ 2 ∷ 2 ∷ 3 ∷ [])
two_facets_in_a_grid = refl

-- a legend of fills and of sizes
abbrev with_a_legend : Object → Object
with_a_legend o = record o {
  legends = record { fill = Some (codes "x"); opacity = None; shape = None; size = Some (codes "x"); title = None; format = None } ∷ [];
}

-- how many legends are drawn of a grid round these cells
abbrev legends_round : List Placed → Option ℕ
legends_round cells = do
  found ← facts_of [] (with_a_legend a_grid_object) NoMarks round_names
  frame ← top_frame None None (with_a_legend a_grid_object) found.facts
  Some (length (grid_round (with_a_legend a_grid_object) frame (pos 0) 1 cells).legends)

-- they are where a plot stands in it
legends_of_grids : (legends_round [] ≡ Some 0)
    × (plot_of items_in_copy bare NoMarks NoneFound (round_top round_names) >>= (λ plot. legends_round (placed_plot plot ∷ [])) ≡ Some 2)
legends_of_grids = (refl, refl)

-- the headers of the copies of a faceted group where these are round it
abbrev a_headed : Object
a_headed = record bare { facet = Some (with_header (by (codes "a" ∷ []) None)) }

abbrev under_headers : List Header → Frame
under_headers outer = record (round_top round_names) { headers = outer }

abbrev texts_of_headers : Frame → List (List ℕ)
texts_of_headers frame = map (λ (h : Header). h.text) frame.headers

abbrev headers_of_cell : List Header → ℕ × CopyFound → Option (List (List ℕ))
headers_of_cell outer cell =
    option_map texts_of_headers (cell_at (under_headers outer) (record { columns = 3; cells = 3 }) a_headed cell.0 cell.1.facts)

abbrev headers_under : List Header → Option (List (List (List ℕ)))
headers_under outer = do
  found ← found_in [] (AGroup a_headed NoMarks NoMarks) round_names
  all_found (map (headers_of_cell outer) (enumerate_from 0 (first_copies found)))

-- its own stand before those round it
inner_headers_first : headers_under (record { is_beside = true; text = codes "o" } ∷ [])
    ≡ Some ((codes "y" ∷ codes "o" ∷ []) ∷ (codes "x" ∷ codes "o" ∷ []) ∷ (codes "z" ∷ codes "o" ∷ []) ∷ [])
inner_headers_first = refl
