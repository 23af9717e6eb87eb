use Rattle.std.proofs.Common.{◌≡◌, length}
use Rattle.tick_kit.specs.Domains.{ascending}
use Rattle.plain_facets.proofs.OrderLemmas.{placed_all}
use Rattle.plain_facets.proofs.sets.in_order.Given as goal

abbrev pub invariant-loop-item : goal.invariant-loop-item
invariant-loop-item g l = placed_all g.T.Ord.cmp l.left.items l.found.keys ≡ ascending g.T.Ord.cmp l.fn.items.items

abbrev pub decreases-loop-item : goal.decreases-loop-item
decreases-loop-item g l = length l.left.items
