-- Where an event acts: in which panel of a picture, and on which units there. Places are millionths of a pixel.
use Rattle.std.specs.Prelude.{◌≡◌, refl, ℕ, ◌*◌, ◌==◌, ℤ, pos, ◌-ℤ◌, Bool, false, ◌&&◌, Option, Some, None, is_some, List, [], ◌∷◌, filter}
use Rattle.std.specs.Prelude.{find, slice_get}
use Rattle.std.specs.Option.{option_map, option_map_or}
use Rattle.std.specs.List.{list_any}
use Rattle.fixed_num.specs.Number.{million}
use Rattle.fixed_num.specs.Ranges.{◌>>=◌}
use Rattle.scene_tree.specs.declared.scene.Scene.{Scene}
use Rattle.scene_tree.specs.declared.scene.Panel.{Panel}
use Rattle.scene_tree.specs.declared.shape.Shape.TheVariants.{Rect}
use Rattle.scene_tree.specs.Hits.{holds_point, places_where, last}
use Rattle.selection_events.specs.declared.selection.SelectionOf.{SelectionOf}
use Rattle.selection_events.specs.declared.selection.PlotOf.{PlotOf}

-- ---- the panel

-- a panel holds a point of the picture, inside of it or on its edges
abbrev pub holds : Panel → ℤ → ℤ → Bool
holds panel x y = holds_point (Rect (pos 0) (pos 0) panel.width panel.height) (x -ℤ panel.x) (y -ℤ panel.y)

-- it is a plot with marks, and holds the point
abbrev pub is_plot_at : ℤ → ℤ → Panel → Bool
is_plot_at x y panel = is_some panel.view && holds panel x y

-- the panel in which an event at a point acts, by its index in the scene: of the plots with marks that hold the point the last
abbrev pub panel_at : Scene → ℤ → ℤ → Option ℕ
panel_at scene x y = last (places_where (is_plot_at x y) scene.panels)

-- that panel, with its index
abbrev pub place_at : Scene → ℤ → ℤ → Option (ℕ × Panel)
place_at scene x y = do
  index ← panel_at scene x y
  option_map (λ panel. (index, panel)) (slice_get scene.panels index)

-- ---- its units

-- whether a plot draws a unit
abbrev pub has_unit : ℕ → PlotOf → Bool
has_unit unit plot = list_any (λ u. u == unit) plot.units

-- the plot that draws a unit
abbrev pub plot_with : List PlotOf → ℕ → Option PlotOf
plot_with plots unit = find (has_unit unit) plots

-- the plot of a panel: the view of a panel is the least of the units that its plot draws
abbrev pub plot_of : List PlotOf → Panel → Option PlotOf
plot_of plots panel = panel.view >>= plot_with plots

-- the units of a selection in a plot, the least first
abbrev pub units_in : SelectionOf → PlotOf → List ℕ
units_in s plot = filter (λ u. has_unit u plot) s.units

-- the units of a selection in a panel: the selection concerns the panel where there is one
abbrev pub units_in_panel : List PlotOf → SelectionOf → Panel → List ℕ
units_in_panel plots s panel = option_map_or (units_in s) (plot_of plots panel) []

-- The rules at work.

-- a panel of 20 by 10 pixels at this place of the picture, whose plot has this least unit, if it has marks
abbrev a_panel : ℕ → ℕ → Option ℕ → Panel
a_panel x y view = record {
  x = pos (x * million);
  y = pos (y * million);
  width = pos (20 * million);
  height = pos (10 * million);
  view = view;
  facet = None;
  items = [];
}

abbrev a_scene : List Panel → Scene
a_scene panels = record { width = pos 0; height = pos 0; panels = panels }

-- two panels one over the other, and one without marks over both
abbrev some_panels : Scene
some_panels = a_scene (a_panel 5 5 (Some 0) ∷ a_panel 15 5 (Some 1) ∷ a_panel 5 5 None ∷ [])

the_last_panel_counts : (panel_at some_panels (pos (15 * million)) (pos (15 * million)) ≡ Some 1)
    × (panel_at some_panels (pos 14999999) (pos (5 * million)) ≡ Some 0)
    × (panel_at some_panels (pos (35 * million)) (pos (10 * million)) ≡ Some 1)
    × (panel_at some_panels (pos 35000001) (pos (10 * million)) ≡ None)
the_last_panel_counts = (refl, refl, refl, refl)

-- two plots, and a selection of units of both
abbrev two_plots : List PlotOf
two_plots = record { units = 0 ∷ 1 ∷ []; facet = None } ∷ record { units = 2 ∷ 3 ∷ 4 ∷ []; facet = None } ∷ []

abbrev of_units : List ℕ → SelectionOf
of_units units = record { name = []; units = units; click = None; toggle = None; clears = false; drag = [] }

units_by_panels : (units_in_panel two_plots (of_units (1 ∷ 3 ∷ 4 ∷ [])) (a_panel 0 0 (Some 2)) ≡ 3 ∷ 4 ∷ [])
    × (units_in_panel two_plots (of_units (1 ∷ [])) (a_panel 0 0 (Some 2)) ≡ [])
    × (units_in_panel two_plots (of_units (1 ∷ [])) (a_panel 0 0 None) ≡ [])
units_by_panels = (refl, refl, refl)
