use Rattle.std.proofs.Common.{◌≡◌, ◌++◌, drop}
use Rattle.vega_drawing.proofs.scales.spots_copied.Given as goal

abbrev pub invariant-loop-spot : goal.invariant-loop-spot
invariant-loop-spot l = l.out ++ drop l.spot-index l.spots ≡ l.spots
