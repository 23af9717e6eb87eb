-- The title of a plot.
use Rattle.std.specs.Prelude.{◌≡◌, refl, ℕ, ℤ, pos, Option, Some, List, [], ◌∷◌, codes}
use Rattle.std.specs.Option.{option_map_or}
use Rattle.scene_tree.specs.declared.scene.Item.{Item}
use Rattle.guide_kit.specs.Measures.{pixels, plus}
use Rattle.guide_kit.specs.Titles.{title_of}
use Rattle.guide_kit.specs.declared.frames.Side.TheVariants.{Top}
use Rattle.plot_scenes.specs.declared.extents.Extents.{Extents}
use Rattle.plot_scenes.specs.Extents.{no_extents, widened}
use Rattle.plot_scenes.specs.Lengths.{title_space}

-- the title of a plot of this width, above what extends above it
abbrev pub title_items : Option (List ℕ) → ℤ → Extents → List Item
title_items title width e = option_map_or (λ text. title_of text width e.top ∷ []) title []

-- the extents with the title: it adds to what extends above
abbrev pub with_title : Option (List ℕ) → Extents → Extents
with_title title e = option_map_or (λ text. widened Top title_space e) title e

-- ---- worked examples

-- a title adds 23 above
a_title_above : with_title (Some (codes "t")) no_extents ≡ record { left = pos 0; top = pixels 23; right = pos 0; bottom = pos 0 }
unfolding plus
a_title_above = refl
