use Rattle.std.proofs.Common.{◌≡◌, ◌++◌, map, length}
use Rattle.view_layout.specs.Grid.{greatest, groups_of, rows_of}
use Rattle.view_layout.proofs.spans.rows_of.Given as goal

abbrev pub invariant-loop-rest : goal.invariant-loop-rest
invariant-loop-rest l = l.out ++ map greatest (groups_of l.n l.rest) ≡ rows_of l.n l.spans

abbrev pub decreases-loop-rest : goal.decreases-loop-rest
decreases-loop-rest l = length l.rest
