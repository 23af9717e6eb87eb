use Rattle.std.proofs.Common.{◌≤◌, length, drop}
use Rattle.scale_kit.specs.inner.Index.{IsPlaceIndexFrom}
use Rattle.scale_kit.proofs.indexed.index.Given as goal

abbrev pub invariant-loop-left : goal.invariant-loop-left
invariant-loop-left l = (l.left ≤ length l.cells) × IsPlaceIndexFrom l.places l.left (drop l.left l.cells)

abbrev pub decreases-loop-left : goal.decreases-loop-left
decreases-loop-left l = l.left
