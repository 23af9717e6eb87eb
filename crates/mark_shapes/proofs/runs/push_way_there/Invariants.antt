use Rattle.std.proofs.Common.{◌≡◌, ◌++◌, map, take}
use Rattle.mark_shapes.specs.Runs.{line_there}
use Rattle.mark_shapes.proofs.runs.push_way_there.Given as goal

abbrev pub invariant-loop-stop : goal.invariant-loop-stop
invariant-loop-stop l = l.points ≡ l.initial.points ++ map line_there (take l.stop-index l.others)
