use Rattle.std.proofs.Common.{◌≡◌, length}
use Rattle.std.specs.Prelude.{fold}
use Rattle.view_layout.specs.Grid.{larger, greatest, every}
use Rattle.view_layout.proofs.spans.greatest_apart.Given as goal

abbrev pub invariant-loop-rest : goal.invariant-loop-rest
invariant-loop-rest l = fold larger l.found (every l.n 0 l.rest) ≡ greatest (every l.n 0 l.spans)

abbrev pub decreases-loop-rest : goal.decreases-loop-rest
decreases-loop-rest l = length l.rest
