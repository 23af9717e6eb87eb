-- A plot that stands alone is drawn with its guides round it; without guides it is the plot alone.
use Rattle.std.proofs.Common.{◌≡◌, ℕ, ◌+◌, ◌*◌, ◌^◌, ◌≤◌, ℤ, pos, negsuc, ◌+ℤ◌, ◌*ℤ◌, List, [], ◌∷◌, ◌++◌, Option, Some, None, refl, sym}
use Rattle.std.proofs.Common.{ap, ◌∙◌, arith, append-nil}
use Rattle.std.specs.Prelude.{min}
use Rattle.std.specs.Int.{int_min}
use Rattle.std.specs.Option.{option_map}
use Rattle.std.proofs.lemmas.Int.{ints, clamps}
use Rattle.fixed_num.specs.Number.{million, limit}
use Rattle.cell_value.specs.declared.cell.Cell.{Cell}
use Rattle.scale_kit.specs.Scale.{IsPixel}
use Rattle.scale_kit.specs.declared.scale.ScaleIn.{ScaleIn}
use Rattle.scene_tree.specs.declared.scene.Scene.{Scene}
use Rattle.guide_kit.specs.declared.legends.Block.{Block}
use Rattle.guide_kit.specs.Measures.{plus}
use Rattle.guide_kit.proofs.CutLemmas.{sum_within}
use Rattle.view_layout.specs.Lengths.{number_of}
use Rattle.view_layout.specs.Grid.{whole}
use Rattle.view_layout.specs.declared.boxes.BoxOf.{BoxOf}
use Rattle.view_layout.specs.declared.boxes.BoxTree.{fold-roll-BoxTree}
use Rattle.view_layout.specs.declared.boxes.BoxTree.TheOpen as form
use Rattle.view_layout.specs.declared.boxes.BoxTree.TheVariants as tree
use Rattle.view_layout.specs.Layout.{Cell as Box, cell_here, cell_of, leaf_of, span_of, laid_with_titles_of, layout_with_titles_of}
use Rattle.plot_scenes.specs.declared.headers.Header.{Header}
use Rattle.plot_scenes.specs.declared.scenes.Drawing.{Drawing}
use Rattle.plot_scenes.specs.declared.views.Part.TheVariants.{OfPlot}
use Rattle.plot_scenes.specs.declared.views.Plot.{Plot}
use Rattle.plot_scenes.specs.Contents.{content_of, content_with}
use Rattle.plot_scenes.specs.Legends.{blocks_of}
use Rattle.plot_scenes.specs.Scenes.{scene_with, drawn}
use Rattle.plot_scenes.specs.Titles.{title_items, with_title}
use Rattle.plot_scenes.specs.Views.{box_of, placed_plot}
use Rattle.plot_scenes.specs.OnePlot.{scene_alone, IsSpace, APlotAloneIsDrawn, ABarePlotIsPlain}

-- ---- with its guides

-- a plot alone stands as its box
leaf : (b : BoxOf) → layout_with_titles_of (tree.Leaf b) ≡ laid_with_titles_of (leaf_of b)
leaf b = ap laid_with_titles_of (ap cell_of (sym (tree.rolls-Leaf b)) ∙ fold-roll-BoxTree Box cell_here (form.Leaf b))

module _ (padding : ℤ) (of_chart : List ScaleIn) (plot : Plot) where
  -- its picture with other headers, and in other facets
  abbrev pictured : List Header → Option (List (List ℕ × Cell)) → List Block → Scene
  pictured headers cells blocks =
      scene_with padding (content_of padding (placed_plot (record plot { headers = headers; cells = cells }))) blocks

  abbrev alone_pictured : List Block → Scene
  alone_pictured = scene_alone padding plot.width plot.height plot.title plot.axes plot.view plot.items

  without_headers : (blocks : List Block) → pictured [] None blocks ≡ alone_pictured blocks
  without_headers blocks = λ i.
      scene_with padding (content_with padding (leaf (box_of plot.width plot.height (with_title plot.title plot.axes.extents)) i) (OfPlot (record {
        panel = record {
          x = pos 0;
          y = pos 0;
          width = plot.width;
          height = plot.height;
          view = plot.view;
          facet = None;
          items = append-nil (title_items plot.title plot.width plot.axes.extents) i ++ plot.axes.grids ++ plot.axes.items ++ plot.items;
        };
        scales = plot.scales;
      }) ∷ [])) blocks

  by_blocks : plot.headers ≡ [] → plot.cells ≡ None → (found : Option (List Block))
      → option_map (λ (d : Drawing). d.scene) (option_map (drawn padding of_chart (content_of padding (placed_plot plot))) found)
      ≡ option_map alone_pictured found
  by_blocks headers cells None = refl
  by_blocks headers cells (Some blocks) = ap Some ((λ i. pictured (headers i) (cells i) blocks) ∙ without_headers blocks)

pub alone : APlotAloneIsDrawn
alone padding of_chart plot headers cells = by_blocks padding of_chart plot headers cells (blocks_of plot.legends)

-- ---- without guides

-- a plot takes up its size where nothing extends beyond it
own_size : (size : ℤ) → IsPixel size → number_of (whole (span_of (pos 0) size (pos 0))) ≡ size
own_size (pos n) is =
    let most : n ≤ 10 ^ 11 * million = omega (arith, ints, is.1) in
    let same : min (min (0 + min (n + 0) limit) limit) limit ≡ n = omega (arith, most) in
    ap pos same
own_size (negsuc n) is = absurd (omega (arith, ints, is.0))

module _ (padding : ℤ) (space : IsSpace padding) where
  at_padding : plus padding (pos 0) ≡ padding
  at_padding =
      sym (sum_within padding (pos 0) padding (omega (arith, ints, space.0, space.1), omega (arith, ints, space.0, space.1))
      (omega (arith, ints)))

  picture_size : (size : ℤ) → IsPixel size → plus (plus padding size) padding ≡ int_min (size +ℤ pos 2 *ℤ padding) (pos limit)
  picture_size size is =
      let inner : padding +ℤ size ≡ plus padding size = sum_within padding size (padding +ℤ size) (
        omega (arith, ints, space.0, space.1, is.0, is.1),
        omega (arith, ints, space.0, space.1, is.0, is.1),
      ) refl in
      let outer : (padding +ℤ size) +ℤ padding ≡ plus (padding +ℤ size) padding = sum_within (padding +ℤ size) padding
      ((padding +ℤ size) +ℤ padding) (
        omega (arith, ints, space.0, space.1, is.0, is.1),
        omega (arith, ints, space.0, space.1, is.0, is.1),
      ) refl in
      let uncut : (padding +ℤ size) +ℤ padding ≡ int_min (size +ℤ pos 2 *ℤ padding) (pos limit) = omega
      (arith, ints, clamps, space.0, space.1, is.0, is.1) in
      ap (λ n. plus n padding) (sym inner) ∙ sym outer ∙ uncut

  across : (size : ℤ) → IsPixel size
      → plus (plus padding (number_of (whole (span_of (pos 0) size (pos 0))))) padding ≡ int_min (size +ℤ pos 2 *ℤ padding) (pos limit)
  across size is = ap (λ n. plus (plus padding n) padding) (own_size size is) ∙ picture_size size is

pub bare : ABarePlotIsPlain
bare padding width height view marks space w h = λ i. Some (record {
  width = across padding space width w i;
  height = across padding space height h i;
  panels = record {
    x = at_padding padding space i;
    y = at_padding padding space i;
    width = width;
    height = height;
    view = view;
    facet = None;
    items = marks;
  } ∷ [];
})
