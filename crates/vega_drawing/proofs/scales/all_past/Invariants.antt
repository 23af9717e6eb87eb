use Rattle.std.proofs.Common.{◌≡◌, ◌++◌, drop, map}
use Rattle.vega_drawing.specs.Scales.{past}
use Rattle.vega_drawing.specs.inner.Kept.{scale_seen}
use Rattle.vega_drawing.proofs.scales.all_past.Given as goal

abbrev pub invariant-loop-scale : goal.invariant-loop-scale
invariant-loop-scale l =
    map scale_seen l.out ++ map (past l.spot) (map scale_seen (drop l.scale-index l.scales)) ≡ map (past l.spot) (map scale_seen l.scales)
