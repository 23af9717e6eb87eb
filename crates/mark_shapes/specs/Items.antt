-- The items of shapes that are painted.
use Rattle.std.specs.Prelude.{◌≡◌, refl, ℕ, pos, Option, Some, None, codes}
use Rattle.fixed_num.specs.Number.{million}
use Rattle.fixed_num.specs.Ranges.{◌>>=◌}
use Rattle.cell_value.specs.declared.state.Key.{Key}
use Rattle.scene_tree.specs.declared.scene.Item.{Item}
use Rattle.scene_tree.specs.declared.shape.Shape.{Shape}
use Rattle.scene_tree.specs.declared.shape.Shape.TheVariants.{Rect}
use Rattle.mark_shapes.specs.declared.looks.Look.{Look}
use Rattle.mark_shapes.specs.Looks.{bar_look}
use Rattle.mark_shapes.specs.Rects.{rect_over}

-- a shape that is painted, as the item of a mark
abbrev pub item_with : ℕ → Option Key → Option Shape → Option Look → Option Item
item_with unit key found painted = do
  shape ← found
  look ← painted
  Some (record {
    shape = shape;
    fill = look.fill;
    stroke = look.stroke;
    stroke_width = look.stroke_width;
    opacity = look.opacity;
    unit = Some unit;
    key = key;
  })

-- The rules at work.

-- the key of a row, and its rect
abbrev the_key : Key
the_key = record { id = 7; branch = 0 }

abbrev the_rect : Option Shape
the_rect = rect_over (Some (record { from = pos 1; size = pos 18 })) (Some (record { from = pos 98; size = pos 102 }))

the_item_of_a_row : item_with 3 (Some the_key) the_rect (Some bar_look) ≡ Some (record {
  shape = Rect (pos 1) (pos 98) (pos 18) (pos 102);
  fill = Some (codes "#4c78a8");
  stroke = None;
  stroke_width = pos million;
  opacity = pos million;
  unit = Some 3;
  key = Some the_key;
})
the_item_of_a_row = refl

-- a row that lacks a place or a look has no item
rows_without_an_item : (item_with 3 (Some the_key) (rect_over None (Some (record { from = pos 98; size = pos 102 }))) (Some bar_look) ≡ None)
    × (item_with 3 (Some the_key) the_rect None ≡ None)
rows_without_an_item = (refl, refl)
