-- A picture of one circle in one panel, and the row of which it is.
use Rattle.std.specs.Prelude.{ℕ, ◌*◌, ℤ, pos, true, Some, None, [], ◌∷◌, codes}
use Rattle.fixed_num.specs.Number.{million}
use Rattle.cell_value.specs.declared.cell.Cell.TheVariants.{Flag}
use Rattle.cell_value.specs.declared.state.Key.{Key}
use Rattle.cell_value.specs.Datum.{Datum}
use Rattle.scale_kit.specs.declared.scale.Scale.TheVariants.{Linear}
use Rattle.scale_kit.specs.declared.scale.ScaleSet.{ScaleSet}
use Rattle.scene_tree.specs.declared.scene.Scene.{Scene}
use Rattle.scene_tree.specs.declared.scene.Panel.{Panel}
use Rattle.scene_tree.specs.declared.scene.Item.{Item}
use Rattle.scene_tree.specs.declared.shape.Shape.TheVariants.{Circle}

abbrev pub pixels : ℕ → ℤ
pixels n = pos (n * million)

-- the key of the row
abbrev pub the_key : Key
the_key = record { id = 3; branch = 0 }

-- the row, in which each name has a true flag
abbrev pub the_row : Datum
the_row = record { key = the_key; cell = λ name. Flag true }

-- the circle
abbrev pub the_circle : Item
the_circle = record {
  shape = Circle (pixels 10) (pixels 10) (pixels 3);
  fill = None;
  stroke = None;
  stroke_width = pixels 1;
  opacity = pixels 1;
  unit = Some 0;
  key = Some the_key;
}

-- its panel, 100 by 20 pixels large
abbrev pub the_panel : Panel
the_panel = record {
  x = pixels 5;
  y = pixels 5;
  width = pixels 100;
  height = pixels 20;
  view = Some 0;
  facet = None;
  items = the_circle ∷ [];
}

abbrev pub the_scene : Scene
the_scene = record { width = pixels 110; height = pixels 30; panels = the_panel ∷ [] }

-- a scale of 0 to 10 over the panel's width
abbrev pub the_scales : ScaleSet
the_scales = record { scales = record { panel = None; name = codes "s"; scale = Linear (pos 0) (pixels 10) (pos 0) (pixels 100) } ∷ [] }
