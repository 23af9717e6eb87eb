use Rattle.std.proofs.Common.{◌≡◌, ◌++◌, drop}
use Rattle.std.specs.List.{flat_map, enumerate_from}
use Rattle.vega_assemble.specs.Keys.{orders_for}
use Rattle.vega_assemble.proofs.keys.push_all_orders.Given as goal

abbrev pub invariant-loop-place : goal.invariant-loop-place
invariant-loop-place l =
    l.out ++ flat_map (orders_for l.stem l.facet l.units) (enumerate_from l.place (drop l.place l.field-items))
    ≡ l.fn.out ++ flat_map (orders_for l.stem l.facet l.units) (enumerate_from 0 l.field-items)
