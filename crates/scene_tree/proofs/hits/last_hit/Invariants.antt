use Rattle.std.proofs.Common.{◌≡◌, ◌&&◌, take}
use Rattle.scene_tree.specs.Hits.{has_key, holds_point, places_where, last}
use Rattle.scene_tree.proofs.hits.last_hit.Given as goal

abbrev pub invariant-loop-at : goal.invariant-loop-at
invariant-loop-at l =
    last (places_where (λ item. has_key item && holds_point item.shape l.x l.y) (take l.at l.items))
    ≡ last (places_where (λ item. has_key item && holds_point item.shape l.x l.y) l.items)
