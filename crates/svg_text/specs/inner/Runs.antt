-- Items in runs.
use Rattle.std.specs.Prelude.{ℕ, List}
use Rattle.std.specs.List.{flat_map}
use Rattle.scene_tree.specs.declared.scene.Item.{Item}
use Rattle.svg_text.specs.SceneText.{item_text}

-- the lines of a run's items
abbrev pub run_text : List Item → List ℕ
run_text run = flat_map item_text run
