-- A plot that stands alone, in no facet and without headers: its picture.
use Rattle.std.specs.Prelude.{◌≡◌, refl, ℕ, ◌*◌, List, [], ◌∷◌, ◌++◌, map, ℤ, pos, ◌+ℤ◌, ◌*ℤ◌, ◌≤ℤ◌, Option, Some, None}
use Rattle.std.specs.Int.{int_min}
use Rattle.std.specs.Option.{option_map}
use Rattle.fixed_num.specs.Number.{million, limit}
use Rattle.fixed_num.specs.Ranges.{◌>>=◌}
use Rattle.scale_kit.specs.Scale.{IsPixel}
use Rattle.scale_kit.specs.declared.scale.ScaleIn.{ScaleIn}
use Rattle.scene_tree.specs.declared.scene.Item.{Item}
use Rattle.scene_tree.specs.declared.scene.Panel.{Panel}
use Rattle.scene_tree.specs.declared.scene.Scene.{Scene}
use Rattle.guide_kit.specs.declared.legends.Block.{Block}
use Rattle.guide_kit.specs.Measures.{pixels, plus}
use Rattle.view_layout.specs.declared.boxes.Laid.{Laid}
use Rattle.view_layout.specs.Layout.{laid_of, leaf_of}
use Rattle.plot_scenes.specs.declared.axes.Axes.{Axes}
use Rattle.plot_scenes.specs.declared.axes.AxisShown.{AxisShown}
use Rattle.plot_scenes.specs.declared.contents.Content.{Content}
use Rattle.plot_scenes.specs.declared.extents.Extents.{Extents}
use Rattle.plot_scenes.specs.declared.legends.LegendShown.{LegendShown}
use Rattle.plot_scenes.specs.declared.scenes.Drawing.{Drawing}
use Rattle.plot_scenes.specs.declared.views.Plot.{Plot}
use Rattle.plot_scenes.specs.Axes.{axes_at, at_the_left}
use Rattle.plot_scenes.specs.Extents.{no_extents}
use Rattle.plot_scenes.specs.Legends.{blocks_of}
use Rattle.plot_scenes.specs.Scenes.{scene_with, drawing_with}
use Rattle.plot_scenes.specs.Titles.{title_items, with_title}
use Rattle.plot_scenes.specs.Views.{box_of, placed_plot}

-- how a plot alone stands with what extends beyond its sides: behind its left and its top extent
abbrev pub laid_alone : ℤ → ℤ → Extents → Laid
laid_alone width height e = laid_of (leaf_of (box_of width height e))

-- where the first of some plots stands
abbrev pub first_place : List (ℤ × ℤ) → ℤ × ℤ
first_place [] = (pos 0, pos 0)
first_place (place ∷ places) = place

-- the panel of a plot that stands so behind the padding
abbrev pub panel_alone : ℤ → ℤ → ℤ → Laid → Option ℕ → List Item → Panel
panel_alone padding width height laid view items = record {
  x = plus padding (first_place laid.places).0;
  y = plus padding (first_place laid.places).1;
  width = width;
  height = height;
  view = view;
  facet = None;
  items = items;
}

-- the content that a plot alone is, whose scales don't matter to the picture
abbrev pub content_alone : ℤ → ℤ → ℤ → Laid → Option ℕ → List Item → Content
content_alone padding width height laid view items = record {
  width = laid.width;
  height = laid.height;
  panels = record { panel = panel_alone padding width height laid view items; scales = [] } ∷ [];
}

-- its items in their order: the title, the grids, the axes and the marks
abbrev pub items_alone : Option (List ℕ) → ℤ → Axes → List Item → List Item
items_alone title width axes marks = title_items title width axes.extents ++ axes.grids ++ axes.items ++ marks

-- the picture of a plot of this size with its title, these axes, these items of its marks and these legends, with the padding all round
abbrev pub scene_alone : ℤ → ℤ → ℤ → Option (List ℕ) → Axes → Option ℕ → List Item → List Block → Scene
scene_alone padding width height title axes view marks blocks =
    scene_with padding (content_alone padding width height (laid_alone width height (with_title title axes.extents)) view
    (items_alone title width axes marks)) blocks

-- the same of axes and legends with the scales that they show; None where a tick or its place is out of range
abbrev pub picture_of_plot : ℤ → ℤ → ℤ → Option (List ℕ) → List AxisShown → List LegendShown → Option ℕ → List Item → Option Scene
picture_of_plot padding width height title axes legends view marks = do
  drawn ← axes_at width height axes
  blocks ← blocks_of legends
  Some (scene_alone padding width height title drawn view marks blocks)

-- a plot in no facet and without headers is drawn so, where it is the whole chart
abbrev pub APlotAloneIsDrawn : Type 0
APlotAloneIsDrawn = (padding : ℤ) (of_chart : List ScaleIn) (plot : Plot) → plot.headers ≡ [] → plot.cells ≡ None
    → option_map (λ (d : Drawing). d.scene) (drawing_with padding of_chart (placed_plot plot))
    ≡ option_map (scene_alone padding plot.width plot.height plot.title plot.axes plot.view plot.items) (blocks_of plot.legends)

-- a plot of this size with the padding round it
abbrev pub plain_scene : ℤ → ℤ → ℤ → Option ℕ → List Item → Scene
plain_scene padding width height view marks = record {
  width = int_min (width +ℤ pos 2 *ℤ padding) (pos limit);
  height = int_min (height +ℤ pos 2 *ℤ padding) (pos limit);
  panels = record { x = padding; y = padding; width = width; height = height; view = view; facet = None; items = marks } ∷ [];
}

-- a padding is from 0 to 1,000 pixels
abbrev pub IsSpace : ℤ → Type 0
IsSpace padding = (pos 0 ≤ℤ padding) × (padding ≤ℤ pos (1000 * million))

-- without axes, legends and title a plot is the plot with the padding round it
abbrev pub ABarePlotIsPlain : Type 0
ABarePlotIsPlain = (padding width height : ℤ) (view : Option ℕ) (marks : List Item) → IsSpace padding → IsPixel width → IsPixel height
    → picture_of_plot padding width height None [] [] view marks ≡ Some (plain_scene padding width height view marks)

-- ---- worked examples

-- a plot of 40 by 80 pixels whose left axis extends 28 stands at 33, 5; the picture is 78 by 90, and the grid comes before the axis
a_plot_behind_its_axis : scene_alone (pixels 5) (pixels 40) (pixels 80) None at_the_left (Some 0) [] [] ≡ record {
  width = pixels 78;
  height = pixels 90;
  panels = record {
    x = pixels 33;
    y = pixels 5;
    width = pixels 40;
    height = pixels 80;
    view = Some 0;
    facet = None;
    items = at_the_left.grids ++ at_the_left.items;
  } ∷ [];
}
unfolding plus
a_plot_behind_its_axis = refl

-- blocks of 22 by 43 and 32 by 100 pixels beside a plot of 40 by 80
abbrev a_block : ℕ → ℕ → Block
a_block width height = record { items = []; width = pixels width; height = pixels height }

abbrev no_axes_drawn : Axes
no_axes_drawn = record { grids = []; items = []; extents = no_extents }

abbrev beside : Scene
beside = scene_alone (pixels 5) (pixels 40) (pixels 80) None no_axes_drawn None [] (a_block 22 43 ∷ a_block 32 100 ∷ [])

-- they begin 18 behind the content at its top, one below the other with a gap of 18; the picture is as high as the legends
legends_beside_a_plot : (beside.width ≡ pixels 100) × (beside.height ≡ pixels 171)
    × (map (λ (p : Panel). p.x) beside.panels ≡ pixels 5 ∷ pixels 63 ∷ pixels 63 ∷ [])
    × (map (λ (p : Panel). p.y) beside.panels ≡ pixels 5 ∷ pixels 5 ∷ pixels 66 ∷ [])
unfolding plus
legends_beside_a_plot = (refl, refl, refl, refl)
