use Rattle.scene_tree.proofs.SquareLemmas.{order_of_parts}
use Rattle.scene_tree.proofs.squares.is_within_radius.Goals as goal

pub returns : goal.returns
returns c =
    order_of_parts _ _ _ _ _ _ _ _ _ c.square_of-a.ensures.value c.square_of-b.ensures.value
    c.square_of-most.ensures.value c.square_of-most.ensures.low_in_reach
