use Rattle.std.proofs.Common.{◌≡◌, ◌++◌, map}
use Rattle.std.specs.Vec.Iter.{into_iter_items}
use Rattle.plan_kit.specs.Joins.{pair_of}
use Rattle.plan_kit.proofs.joins.push_pairs.Given as goal

abbrev pub invariant-loop-two : goal.invariant-loop-two
invariant-loop-two l = l.out ++ map (pair_of l.op) (into_iter_items l.two-iterator) ≡ l.initial.out ++ map (pair_of l.op) l.fn.chunks
