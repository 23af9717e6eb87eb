use Rattle.std.proofs.Common.{◌≡◌, ◌++◌, drop}
use Rattle.std.specs.List.{flat_map, enumerate_from}
use Rattle.vega_assemble.specs.Lists.{lists_for_scale}
use Rattle.vega_assemble.proofs.assembled.push_all_lists.Given as goal

abbrev pub invariant-loop-number : goal.invariant-loop-number
invariant-loop-number l =
    l.out ++ flat_map (lists_for_scale l.stem l.p.grids) (enumerate_from l.number (drop l.number l.p.scales))
    ≡ l.fn.out ++ flat_map (lists_for_scale l.stem l.p.grids) (enumerate_from 0 l.p.scales)
