use Rattle.std.proofs.Common.{◌≡◌, ◌++◌, map, drop}
use Rattle.std.specs.List.{enumerate_from}
use Rattle.vega_lists.specs.Orders.{sort_by}
use Rattle.vega_lists.proofs.orders.sort_of.Given as goal

abbrev pub invariant-loop-place : goal.invariant-loop-place
invariant-loop-place l =
    l.sort ++ map (sort_by l.orders) (enumerate_from l.place (drop l.place l.fields)) ≡ map (sort_by l.orders) (enumerate_from 0 l.fields)
