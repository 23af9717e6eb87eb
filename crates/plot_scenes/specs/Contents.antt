-- How plots and grids stand, as panels of a picture.
use Rattle.std.specs.Prelude.{◌≡◌, refl, ℕ, ℤ, pos, true, false, None, List, [], ◌∷◌, map, zip, codes}
use Rattle.fixed_num.specs.Number.{rounded, floor_quotient}
use Rattle.scene_tree.specs.declared.scene.Item.{Item}
use Rattle.scene_tree.specs.declared.scene.Panel.{Panel}
use Rattle.scene_tree.specs.declared.shape.Anchor.TheVariants.{Middle}
use Rattle.scene_tree.specs.declared.shape.Shape.TheVariants.{Words}
use Rattle.guide_kit.specs.Items.{words_at, view_title_style}
use Rattle.guide_kit.specs.Measures.{pixels, plus, minus, half}
use Rattle.view_layout.specs.declared.boxes.PlaceOf.{PlaceOf}
use Rattle.view_layout.specs.declared.boxes.LaidWithTitles.{LaidWithTitles}
use Rattle.view_layout.specs.Layout.{layout_with_titles_of}
use Rattle.plot_scenes.specs.Lengths.{title_space}
use Rattle.plot_scenes.specs.declared.views.PanelHere.{PanelHere}
use Rattle.plot_scenes.specs.declared.views.Part.{Part}
use Rattle.plot_scenes.specs.declared.views.Part.TheVariants.{Title, OfPlot}
use Rattle.plot_scenes.specs.declared.views.Placed.{Placed}
use Rattle.plot_scenes.specs.declared.contents.Content.{Content}
use Rattle.plot_scenes.specs.Views.{a_plot, placed_plot}

-- the title of a grid as wide as the grid, with its baseline 13 pixels below the grid's top
abbrev pub grid_title : ℤ → List ℕ → Item
grid_title width text = words_at (view_title_style Middle) (half width) (pixels 13) text

-- the panel of the title of a grid at a place behind the padding: as wide as the grid, and 23 pixels high
abbrev pub title_panel : ℤ → PlaceOf → List ℕ → Panel
title_panel padding place text = record {
  x = plus padding place.x;
  y = plus padding place.y;
  width = place.width;
  height = title_space;
  view = None;
  facet = None;
  items = grid_title place.width text ∷ [];
}

-- a panel of a plot at a place behind the padding
abbrev pub moved_panel : ℤ → PlaceOf → Panel → Panel
moved_panel padding place panel = record panel { x = plus padding place.x; y = plus padding place.y }

-- a part at its place of the content, which begins behind the padding
abbrev pub panel_at : ℤ → PlaceOf → Part → PanelHere
panel_at padding place (Title text) = record { panel = title_panel padding place text; scales = [] }
panel_at padding place (OfPlot here) = record { panel = moved_panel padding place here.panel; scales = here.scales }

-- parts at their places, one after the other
abbrev pub panels_at : ℤ → List Part → List PlaceOf → List PanelHere
panels_at padding parts places = map (λ (entry : Part × PlaceOf). panel_at padding entry.1 entry.0) (zip parts places)

abbrev pub content_with : ℤ → LaidWithTitles → List Part → Content
content_with padding laid parts = record {
  width = laid.width;
  height = laid.height;
  panels = panels_at padding parts laid.places;
}

-- the content that the view of the top is: its size, and its panels where they stand behind the padding
abbrev pub content_of : ℤ → Placed → Content
content_of padding top = content_with padding (layout_with_titles_of top.boxes) top.parts

-- ---- worked examples

-- the title of a grid 220 pixels wide, and a plot of 100 by 20 below it
abbrev pub a_titled_plot : Content
a_titled_plot =
    content_with (pixels 5) (record {
      places = record { x = pos 0; y = pos 0; width = pixels 220 } ∷ record { x = pos 0; y = pixels 38; width = pixels 100 } ∷ [];
      width = pixels 220;
      height = pixels 58;
    })
    (Title (codes "t") ∷ (placed_plot (a_plot 100 20 [])).parts)

-- they stand behind a padding of 5
abbrev sides_of : Panel → List ℤ
sides_of p = p.x ∷ p.y ∷ p.width ∷ p.height ∷ []

panels_behind_the_padding : map (λ (p : PanelHere). sides_of p.panel) a_titled_plot.panels
    ≡ (pixels 5 ∷ pixels 5 ∷ pixels 220 ∷ pixels 23 ∷ []) ∷ (pixels 5 ∷ pixels 43 ∷ pixels 100 ∷ pixels 20 ∷ []) ∷ []
unfolding plus
panels_behind_the_padding = refl

the_title_of_a_grid : (grid_title (pixels 220) (codes "t")).shape ≡ Words (pixels 110) (pixels 13) false Middle 13 true (codes "t")
unfolding plus minus half rounded floor_quotient
the_title_of_a_grid = refl
