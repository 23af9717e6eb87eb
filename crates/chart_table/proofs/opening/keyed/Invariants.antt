use Rattle.chart_table.specs.Counted.{AreCounted}
use Rattle.chart_table.proofs.opening.keyed.Given as goal

abbrev pub invariant-loop-row : goal.invariant-loop-row
invariant-loop-row l = AreCounted l.keyed
