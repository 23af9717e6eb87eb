use Rattle.chart_table.specs.Counted.{AreAllCounted}
use Rattle.chart_table.proofs.opening.add_sets.Given as goal

abbrev pub invariant-loop-set : goal.invariant-loop-set
invariant-loop-set l = AreAllCounted l.sources
