use Rattle.std.proofs.Common.{◌≡◌, ◌++◌, drop}
use Rattle.std.specs.List.{flat_map, enumerate_from}
use Rattle.vega_assemble.specs.Drags.{outer_lists}
use Rattle.vega_assemble.proofs.drags.push_all_outer.Given as goal

abbrev pub invariant-loop-number : goal.invariant-loop-number
invariant-loop-number l =
    l.out ++ flat_map (outer_lists l.stem l.selections) (enumerate_from l.number (drop l.number l.scales))
    ≡ l.fn.out ++ flat_map (outer_lists l.stem l.selections) (enumerate_from 0 l.scales)
