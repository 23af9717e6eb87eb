-- The panels of a picture.
use Rattle.std.specs.Prelude.{List, [], ◌∷◌, fold, ℤ, None}
use Rattle.std.specs.Int.{int_max}
use Rattle.scene_tree.specs.declared.scene.Panel.{Panel}
use Rattle.guide_kit.specs.declared.legends.Block.{Block}
use Rattle.guide_kit.specs.Measures.{plus}
use Rattle.plot_scenes.specs.Lengths.{gap}

-- a legend as a panel with the size of its block
abbrev pub legend_panel : ℤ → ℤ → Block → Panel
legend_panel x y block = record {
  x = x;
  y = y;
  width = block.width;
  height = block.height;
  view = None;
  facet = None;
  items = block.items;
}

-- where the next legend begins below one
abbrev pub next_top : ℤ → Block → ℤ
next_top y block = plus (plus y block.height) gap

-- legends one below the other with gaps, the first with its corner at x, y
abbrev pub legend_panels : ℤ → ℤ → List Block → List Panel
legend_panels x y [] = []
legend_panels x y (block ∷ blocks) = legend_panel x y block ∷ legend_panels x (next_top y block) blocks

-- the right and the lower end of a panel
abbrev pub right_end : Panel → ℤ
right_end p = plus p.x p.width

abbrev pub lower_end : Panel → ℤ
lower_end p = plus p.y p.height

-- the farther of an end and that of a panel
abbrev pub farther_right : ℤ → Panel → ℤ
farther_right most p = int_max most (right_end p)

abbrev pub farther_down : ℤ → Panel → ℤ
farther_down most p = int_max most (lower_end p)

-- how far panels and what reaches so far reach together
abbrev pub reach_right : ℤ → List Panel → ℤ
reach_right far panels = fold farther_right far panels

abbrev pub reach_down : ℤ → List Panel → ℤ
reach_down far panels = fold farther_down far panels
