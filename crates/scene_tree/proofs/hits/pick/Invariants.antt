use Rattle.std.proofs.Common.{◌≡◌, take}
use Rattle.std.specs.List.{flat_map, enumerate_from}
use Rattle.scene_tree.specs.Hits.{hits_in, last}
use Rattle.scene_tree.proofs.hits.pick.Given as goal

abbrev pub invariant-loop-panel : goal.invariant-loop-panel
invariant-loop-panel l =
    last (flat_map (hits_in l.x l.y) (enumerate_from 0 (take l.panel l.panels)))
    ≡ last (flat_map (hits_in l.x l.y) (enumerate_from 0 l.panels))
