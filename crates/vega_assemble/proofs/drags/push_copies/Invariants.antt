use Rattle.std.proofs.Common.{◌≡◌, ◌++◌, drop}
use Rattle.std.specs.List.{flat_map, enumerate_from}
use Rattle.vega_assemble.specs.Drags.{copies_for}
use Rattle.vega_assemble.proofs.drags.push_copies.Given as goal

abbrev pub invariant-loop-selection : goal.invariant-loop-selection
invariant-loop-selection l =
    l.out ++ flat_map (copies_for l.stem l.scales l.plot.number) (enumerate_from l.selection (drop l.selection l.selections))
    ≡ l.fn.out ++ flat_map (copies_for l.stem l.scales l.plot.number) (enumerate_from 0 l.selections)
