use Rattle.std.proofs.Common.{◌≡◌, ◌++◌, length}
use Rattle.std.specs.Vec.Iter.{into_iter_items, into_iter_len}
use Rattle.plan_kit.specs.Joins.{chunks}
use Rattle.plan_kit.proofs.joins.chunks_of_two.Given as goal

abbrev pub invariant-loop-first : goal.invariant-loop-first
invariant-loop-first g l =
    (into_iter_len l.left ≡ length (into_iter_items l.left)) × (l.out ++ chunks (into_iter_items l.left) ≡ chunks l.fn.items)

abbrev pub decreases-loop-first : goal.decreases-loop-first
decreases-loop-first g l = into_iter_len l.left
