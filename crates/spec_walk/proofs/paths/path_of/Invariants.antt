use Rattle.std.proofs.Common.{◌≡◌, ◌++◌, drop}
use Rattle.spec_walk.specs.Paths.{path_of}
use Rattle.spec_walk.proofs.paths.path_of.Given as goal

abbrev pub invariant-loop-number : goal.invariant-loop-number
invariant-loop-number l = l.path ++ path_of l.here (drop l.number-index l.place) ≡ path_of l.tree l.place
