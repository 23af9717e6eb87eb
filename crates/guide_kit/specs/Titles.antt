-- The titles of views.
use Rattle.std.specs.Prelude.{◌≡◌, refl, List, ℕ, codes, ℤ, pos, neg_ℤ, Some, None, false, true}
use Rattle.fixed_num.specs.Number.{rounded, floor_quotient}
use Rattle.scene_tree.specs.declared.scene.Item.{Item}
use Rattle.scene_tree.specs.declared.shape.Shape.TheVariants.{Words}
use Rattle.scene_tree.specs.declared.shape.Anchor.TheVariants.{Middle}
use Rattle.guide_kit.specs.Items.{words_at, view_title_style}
use Rattle.guide_kit.specs.Measures.{pixels, plus, minus, half}

-- the title of a view of this width: at its middle, 10 pixels above what extends so far above it
abbrev pub title_of : List ℕ → ℤ → ℤ → Item
title_of text width above = words_at (view_title_style Middle) (half width) (minus (pos 0) (plus above (pixels 10))) text

-- ---- worked examples

a_title : title_of (codes "t") (pixels 41) (pixels 28) ≡ record {
  shape = Words (pos 20500000) (neg_ℤ (pixels 38)) false Middle 13 true (codes "t");
  fill = Some (codes "#000");
  stroke = None;
  stroke_width = pixels 1;
  opacity = pixels 1;
  unit = None;
  key = None;
}
unfolding half plus minus rounded floor_quotient
a_title = refl
