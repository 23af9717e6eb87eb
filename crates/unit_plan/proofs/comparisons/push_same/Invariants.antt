use Rattle.std.proofs.Common.{◌≡◌, ◌++◌, drop, map}
use Rattle.expr_syntax.specs.declared.expr.BinOp.TheVariants.{Same}
use Rattle.unit_plan.specs.Comparisons.{compared}
use Rattle.unit_plan.proofs.comparisons.push_same.Given as goal

abbrev pub invariant-loop-cell : goal.invariant-loop-cell
invariant-loop-cell l = l.out ++ map (compared l.test Same) (drop l.cell-index l.cells) ≡ l.fn.out ++ map (compared l.test Same) l.cells
