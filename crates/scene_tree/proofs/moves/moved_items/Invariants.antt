use Rattle.std.proofs.Common.{◌≡◌, take, drop, map}
use Rattle.fixed_num.specs.Ranges.{all_found}
use Rattle.fixed_num.proofs.FoundLemmas.{after}
use Rattle.scene_tree.specs.Moves.{moved_item}
use Rattle.scene_tree.proofs.moves.moved_items.Given as goal

abbrev pub invariant-loop-item : goal.invariant-loop-item
invariant-loop-item l =
    after (take l.item-index l.item-items) (all_found (map (moved_item l.dx l.dy) (drop l.item-index l.item-items)))
    ≡ all_found (map (moved_item l.dx l.dy) l.fn.items)
