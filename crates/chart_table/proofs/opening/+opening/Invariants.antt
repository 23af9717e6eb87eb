use Rattle.chart_table.specs.Counted.{AreAllCounted}
use Rattle.chart_table.proofs.opening.+opening.Given as goal

abbrev pub invariant-add_marks-loop-mark : goal.invariant-add_marks-loop-mark
invariant-add_marks-loop-mark l = AreAllCounted l.sources
