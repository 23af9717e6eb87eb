-- How guides are painted.
use Rattle.std.specs.Prelude.{ℕ, Bool, true, false, if◌then◌else◌, List, codes, ℤ, Some, None}
use Rattle.scene_tree.specs.declared.scene.Item.{Item}
use Rattle.scene_tree.specs.declared.shape.Shape.{Shape}
use Rattle.scene_tree.specs.declared.shape.Shape.TheVariants.{Line, Words}
use Rattle.scene_tree.specs.declared.shape.Anchor.{Anchor}
use Rattle.guide_kit.specs.declared.items.Style.{Style}
use Rattle.guide_kit.specs.Measures.{pixels}

-- a line of a colour, one pixel wide
abbrev pub stroked : List ℕ → Shape → Item
stroked color shape = record {
  shape = shape;
  fill = None;
  stroke = Some color;
  stroke_width = pixels 1;
  opacity = pixels 1;
  unit = None;
  key = None;
}

-- a shape that is filled with a colour, and so opaque
abbrev pub filled : List ℕ → ℤ → Shape → Item
filled color opacity shape = record {
  shape = shape;
  fill = Some color;
  stroke = None;
  stroke_width = pixels 1;
  opacity = opacity;
  unit = None;
  key = None;
}

-- the colours of lines and ticks, of grids and of texts
abbrev pub line_color : List ℕ
line_color = codes "#888"

abbrev pub grid_color : List ℕ
grid_color = codes "#ddd"

abbrev pub text_color : List ℕ
text_color = codes "#000"

-- a line between two places, each so far along an axis and so far across it; the axis runs along x or along y
abbrev pub line_between : Bool → List ℕ → ℤ → ℤ → ℤ → ℤ → Item
line_between along_x color from from_across to to_across =
    stroked color (if along_x then Line from from_across to to_across else Line from_across from to_across to)

-- a text at a place
abbrev pub words_at : Style → ℤ → ℤ → List ℕ → Item
words_at style x y text = filled text_color (pixels 1) (Words x y style.turned style.anchor style.size style.bold text)

-- a text so far along an axis and so far across it
abbrev pub words_along : Bool → Style → ℤ → ℤ → List ℕ → Item
words_along along_x style along across text = if along_x then words_at style along across text else words_at style across along text

-- the styles of labels, of the titles of axes and legends, and of those of views, by whether they are turned and their anchor
abbrev pub label_style : Bool → Anchor → Style
label_style turned anchor = record { turned = turned; anchor = anchor; size = 10; bold = false }

abbrev pub title_style : Bool → Anchor → Style
title_style turned anchor = record { turned = turned; anchor = anchor; size = 11; bold = true }

abbrev pub view_title_style : Anchor → Style
view_title_style anchor = record { turned = false; anchor = anchor; size = 13; bold = true }
