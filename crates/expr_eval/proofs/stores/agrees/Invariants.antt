use Rattle.std.proofs.Common.{◌≡◌, drop}
use Rattle.expr_eval.specs.inner.Stores.{agrees_with}
use Rattle.expr_eval.proofs.stores.agrees.Given as goal

abbrev pub invariant-loop-cell : goal.invariant-loop-cell
invariant-loop-cell l = agrees_with (drop l.cell-index l.cells) l.tuple ≡ agrees_with l.cells l.tuple
