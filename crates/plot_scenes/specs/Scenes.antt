-- What is drawn: the picture, and the scales of its plots.
use Rattle.std.specs.Prelude.{◌≡◌, refl, ℕ, ℤ, Option, Some, None, List, [], ◌∷◌, ◌++◌, map, flat_map, codes}
use Rattle.std.specs.Option.{option_map}
use Rattle.std.specs.List.{enumerate_from}
use Rattle.scale_kit.specs.declared.scale.Scale.TheVariants.{Ordinal}
use Rattle.scale_kit.specs.declared.scale.ScaleIn.{ScaleIn}
use Rattle.scale_kit.specs.declared.scale.ScaleSet.{ScaleSet}
use Rattle.scene_tree.specs.declared.scene.Panel.{Panel}
use Rattle.scene_tree.specs.declared.scene.Scene.{Scene}
use Rattle.guide_kit.specs.declared.legends.Block.{Block}
use Rattle.guide_kit.specs.Measures.{pixels, plus}
use Rattle.plot_scenes.specs.declared.contents.Content.{Content}
use Rattle.plot_scenes.specs.declared.views.PanelHere.{PanelHere}
use Rattle.plot_scenes.specs.declared.views.Placed.{Placed}
use Rattle.plot_scenes.specs.declared.scenes.Drawing.{Drawing}
use Rattle.plot_scenes.specs.Legends.{blocks_of}
use Rattle.plot_scenes.specs.Contents.{content_of, a_titled_plot}
use Rattle.plot_scenes.specs.Lengths.{gap}
use Rattle.plot_scenes.specs.Panels.{legend_panels, reach_right, reach_down}

-- the panels of a content
abbrev pub panels_in : List PanelHere → List Panel
panels_in = map (λ (p : PanelHere). p.panel)

-- what reaches so far to the right and down, and then legends: the picture goes as far as both reach, with the padding behind that
abbrev pub scene_beside : ℤ → ℤ → ℤ → List Panel → List Panel → Scene
scene_beside padding right lower panels legends = record {
  width = plus (reach_right right legends) padding;
  height = plus (reach_down lower legends) padding;
  panels = panels ++ legends;
}

-- The picture of a content and legends: they begin 18 pixels to the right of the content, at its top, one below the other; the picture goes
-- as far as both reach, with the padding all round.
abbrev pub scene_with : ℤ → Content → List Block → Scene
scene_with padding content blocks =
    let right = plus padding content.width in
    scene_beside padding right (plus padding content.height) (panels_in content.panels) (legend_panels (plus right gap) padding blocks)

-- a scale of a panel by the panel's index in the scene
abbrev pub scale_at : ℕ → ScaleIn → ScaleIn
scale_at index s = record s { panel = Some index }

-- the scales of a panel by its index in the scene
abbrev pub scales_at : ℕ × PanelHere → List ScaleIn
scales_at entry = map (scale_at entry.0) entry.1.scales

-- the scales of the whole chart, and then those of each panel
abbrev pub scales_with : List ScaleIn → Content → ScaleSet
scales_with of_chart content = record { scales = of_chart ++ flat_map scales_at (enumerate_from 0 content.panels) }

-- what is drawn of a content and legends
abbrev pub drawn : ℤ → List ScaleIn → Content → List Block → Drawing
drawn padding of_chart content blocks = record { scene = scene_with padding content blocks; scales = scales_with of_chart content }

-- what is drawn of a view with the scales of the whole chart; None where a tick of a legend or its place is out of range
abbrev pub drawing_with : ℤ → List ScaleIn → Placed → Option Drawing
drawing_with padding of_chart top = option_map (drawn padding of_chart (content_of padding top)) (blocks_of top.legends)

-- ---- worked examples

-- a content of 220 by 58 and a block of 30 by 100: the picture is 278 by 110, and the legend stands last
abbrev a_picture : Scene
a_picture = scene_with (pixels 5) a_titled_plot (record { items = []; width = pixels 30; height = pixels 100 } ∷ [])

the_size_of_a_picture : (a_picture.width ≡ pixels 278) × (a_picture.height ≡ pixels 110)
    × (map (λ (p : Panel). p.x) a_picture.panels ≡ pixels 5 ∷ pixels 5 ∷ pixels 243 ∷ [])
unfolding plus
the_size_of_a_picture = (refl, refl, refl)

-- a scale of the second panel
abbrev a_scale : ScaleIn
a_scale = record { panel = None; name = codes "s"; scale = Ordinal [] [] }

abbrev two_panels : Content
two_panels = record a_titled_plot { panels = map (λ (p : PanelHere). record p { scales = a_scale ∷ [] }) a_titled_plot.panels }

scales_by_their_panels : map (λ (s : ScaleIn). s.panel) (scales_with (a_scale ∷ []) two_panels).scales
    ≡ None ∷ Some 0 ∷ Some 1 ∷ []
scales_by_their_panels = refl
