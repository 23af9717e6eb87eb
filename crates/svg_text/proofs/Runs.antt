-- Items in runs are printed as the items of one list.
use Rattle.std.proofs.Common.{◌≡◌, List, [], ◌∷◌, ◌++◌, refl, sym, ap, ◌∙◌}
use Rattle.std.specs.List.{flat_map}
use Rattle.std.proofs.lemmas.Grind.{flat_map-append}
use Rattle.scene_tree.specs.declared.scene.Item.{Item}
use Rattle.scene_tree.specs.Items.{joined}
use Rattle.svg_text.specs.SceneText.{item_text}
use Rattle.svg_text.specs.inner.Runs.{run_text}

runs_text : (runs : List (List Item)) → flat_map run_text runs ≡ flat_map item_text (joined runs)
runs_text [] = refl
runs_text (run ∷ runs) =
    ap (λ t. flat_map item_text run ++ t) (runs_text runs) ∙ sym (flat_map-append item_text run (joined runs))

-- runs of these items
pub items_text : (runs : List (List Item)) (items : List Item) → joined runs ≡ items → flat_map run_text runs ≡ flat_map item_text items
items_text runs items are = runs_text runs ∙ ap (flat_map item_text) are
