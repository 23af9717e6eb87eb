use Rattle.std.proofs.Common.{◌≡◌, drop}
use Rattle.vl_trails.specs.Trails.{value_under}
use Rattle.vl_trails.proofs.placing.value_under.Given as goal

abbrev pub invariant-loop-number : goal.invariant-loop-number
invariant-loop-number l = value_under l.here (drop l.number-index l.place) ≡ value_under l.tree l.place
