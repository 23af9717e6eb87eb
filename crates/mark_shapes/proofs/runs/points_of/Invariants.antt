use Rattle.std.proofs.Common.{◌≡◌, ◌++◌, drop}
use Rattle.mark_shapes.specs.Runs.{points_of}
use Rattle.mark_shapes.specs.inner.Begun.{points_behind}
use Rattle.mark_shapes.proofs.runs.points_of.Given as goal

abbrev pub invariant-loop-stop : goal.invariant-loop-stop
invariant-loop-stop l = l.points ++ points_behind l.closed l.run (drop l.stop-index l.stops) ≡ points_of l.closed l.stops
