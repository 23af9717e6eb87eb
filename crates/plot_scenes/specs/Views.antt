-- Plots and grids with all that is drawn in them, as boxes of a layout and the parts that stand at its places. They ask for no name.
use Rattle.std.specs.Prelude.{◌≡◌, refl, ℕ, ℤ, pos, Bool, true, false, if◌then◌else◌, Option, Some, None, List, [], ◌∷◌, ◌++◌}
use Rattle.std.specs.Prelude.{map, flat_map, option_to_list, is_some, codes}
use Rattle.std.specs.Option.{option_map}
use Rattle.std.specs.List.{All, list_any}
use Rattle.cell_value.specs.Row.{row_of}
use Rattle.scene_tree.specs.declared.scene.Item.{Item}
use Rattle.scene_tree.specs.declared.scene.Panel.{Panel}
use Rattle.guide_kit.specs.Measures.{pixels, plus}
use Rattle.view_layout.specs.declared.boxes.BoxOf.{BoxOf}
use Rattle.view_layout.specs.declared.boxes.BoxTree.TheVariants as tree
use Rattle.plot_scenes.specs.declared.extents.Extents.{Extents}
use Rattle.plot_scenes.specs.declared.headers.Header.{Header}
use Rattle.plot_scenes.specs.declared.legends.LegendShown.{LegendShown}
use Rattle.plot_scenes.specs.declared.views.Plot.{Plot}
use Rattle.plot_scenes.specs.declared.views.GridShown.{GridShown}
use Rattle.plot_scenes.specs.declared.views.Part.{Part}
use Rattle.plot_scenes.specs.declared.views.Part.TheVariants.{Title, OfPlot}
use Rattle.plot_scenes.specs.declared.views.Placed.{Placed}
use Rattle.plot_scenes.specs.Extents.{no_extents}
use Rattle.plot_scenes.specs.Headers.{header_items, with_headers}
use Rattle.plot_scenes.specs.Legends.{IsLegendShown}
use Rattle.plot_scenes.specs.Titles.{title_items, with_title}

-- ---- plots

-- how far what belongs to a plot extends: its axes, its headers and its title, each outside those before it
abbrev pub extents_with_headers : Plot → Extents
extents_with_headers p = with_headers p.axes.extents p.headers

abbrev pub extents_of : Plot → Extents
extents_of p = with_title p.title (extents_with_headers p)

-- the items of a plot in their order: the title, the headers, the grids, the axes and the marks
abbrev pub items_of_plot : Plot → List Item
items_of_plot p =
    title_items p.title p.width (extents_with_headers p) ++ header_items p.width p.height p.axes.extents p.headers
    ++ p.axes.grids ++ p.axes.items ++ p.items

-- the panel of a plot, whose place isn't known yet
abbrev pub plot_panel : Plot → Panel
plot_panel p = record {
  x = pos 0;
  y = pos 0;
  width = p.width;
  height = p.height;
  view = p.view;
  facet = option_map row_of p.cells;
  items = items_of_plot p;
}

-- a plot of this size with what extends beyond its sides, as a box
abbrev pub box_of : ℤ → ℤ → Extents → BoxOf
box_of width height e = record {
  left = e.left;
  top = e.top;
  width = width;
  height = height;
  right = e.right;
  bottom = e.bottom;
}

-- a plot as a box, and its panel
abbrev pub placed_plot : Plot → Placed
placed_plot p = record {
  boxes = tree.Leaf (box_of p.width p.height (extents_of p));
  parts = OfPlot (record { panel = plot_panel p; scales = p.scales }) ∷ [];
  legends = p.legends;
  has_plot = true;
}

-- ---- grids

-- the title of a grid, if it has one, before what stands in its cells
abbrev pub titled : Option (List ℕ) → List Part
titled title = option_to_list (option_map Title title)

-- whether there is a plot among some views
abbrev pub has_plots : List Placed → Bool
has_plots = list_any (λ (v : Placed). v.has_plot)

-- the legends of a grid are drawn where a plot stands in it
abbrev pub legends_over : GridShown → List Placed → List LegendShown
legends_over g inside = if has_plots inside then g.legends else []

-- a grid of these cells: its title stands before them, its legends before theirs
abbrev pub placed_grid : GridShown → List Placed → Placed
placed_grid g inside = record {
  boxes = tree.Grid g.columns g.spacing (is_some g.title) (map (λ (v : Placed). v.boxes) inside);
  parts = titled g.title ++ flat_map (λ (v : Placed). v.parts) inside;
  legends = legends_over g inside ++ flat_map (λ (v : Placed). v.legends) inside;
  has_plot = has_plots inside;
}

-- what every caller asks of the legends of a view
abbrev pub HasLegends : Placed → Type 0
HasLegends v = All IsLegendShown v.legends

-- ---- worked examples

-- a plot of a size without axes, marks and legends
abbrev pub a_plot : ℕ → ℕ → List Header → Plot
a_plot width height headers = record {
  width = pixels width;
  height = pixels height;
  title = None;
  headers = headers;
  axes = record { grids = []; items = []; extents = no_extents };
  items = [];
  view = None;
  cells = None;
  legends = [];
  scales = [];
}

abbrev pub a_grid : ℕ → Option (List ℕ) → GridShown
a_grid columns title = record { columns = columns; spacing = pixels 20; title = title; legends = [] }

abbrev above : List ℕ → List Header
above text = record { is_beside = false; text = text } ∷ []

-- a header of 15 pixels extends above the box of its plot
a_box_below_its_header : (placed_plot (a_plot 100 20 (above (codes "u")))).boxes ≡ tree.Leaf (record {
  left = pos 0;
  top = pixels 15;
  width = pixels 100;
  height = pixels 20;
  right = pos 0;
  bottom = pos 0;
})
unfolding plus
a_box_below_its_header = refl

-- two plots with headers side by side in a grid, and beside that grid another plot
abbrev pub a_facet_beside_a_plot : Option (List ℕ) → Placed
a_facet_beside_a_plot title =
    placed_grid (a_grid 2 None)
    (placed_grid (a_grid 2 title) (placed_plot (a_plot 100 20 (above (codes "u"))) ∷ placed_plot (a_plot 100 20 (above (codes "v"))) ∷ [])
    ∷ placed_plot (a_plot 20 200 []) ∷ [])

abbrev is_title : Part → Bool
is_title (Title text) = true
is_title (OfPlot here) = false

-- the title of the inner grid stands before its two plots
a_title_before_the_plots : map is_title (a_facet_beside_a_plot (Some (codes "t"))).parts ≡ true ∷ false ∷ false ∷ false ∷ []
a_title_before_the_plots = refl
