use Rattle.std.proofs.Common.{◌≤◌, length, drop}
use Rattle.mark_encode.specs.inner.Scales.{scales_of, FindsScales}
use Rattle.mark_encode.proofs.scales.first_places.Given as goal

abbrev pub invariant-loop-left : goal.invariant-loop-left
invariant-loop-left l = (l.left ≤ length l.scales) × FindsScales l.places (scales_of l.scales) (drop l.left l.scales)

abbrev pub decreases-loop-left : goal.decreases-loop-left
decreases-loop-left l = l.left
