use Rattle.std.proofs.Common.{◌≡◌, ◌&&◌, length, take}
use Rattle.scene_tree.specs.Items.{joined}
use Rattle.scene_tree.specs.Hits.{has_key, holds_point, places_where, last}
use Rattle.scene_tree.proofs.hits.last_hit_among.Given as goal

abbrev pub invariant-loop-at : goal.invariant-loop-at
invariant-loop-at l =
    (l.before ≡ length (joined (take l.at l.runs)))
    × (last (places_where (λ item. has_key item && holds_point item.shape l.x l.y) (joined (take l.at l.runs)))
    ≡ last (places_where (λ item. has_key item && holds_point item.shape l.x l.y) l.items))
