use Rattle.std.proofs.Common.{◌≡◌, map, take, Some}
use Rattle.fixed_num.specs.Ranges.{all_found}
use Rattle.domain_kit.specs.Orders.{ranked}
use Rattle.domain_kit.specs.inner.Held.{values_held}
use Rattle.domain_kit.proofs.orders.each_ranked.Given as goal

abbrev pub invariant-loop-cell : goal.invariant-loop-cell
invariant-loop-cell l = all_found (map (ranked l.op (values_held l.held)) (take l.cell-index l.cells)) ≡ Some l.ranks
