use Rattle.std.proofs.Common.{◌≡◌, drop}
use Rattle.std.specs.List.{list_any}
use Rattle.expr_eval.specs.inner.Stores.{agrees_with}
use Rattle.expr_eval.proofs.stores.any_agrees.Given as goal

abbrev pub invariant-loop-tuple : goal.invariant-loop-tuple
invariant-loop-tuple l = list_any (agrees_with l.cells) (drop l.tuple-index l.tuples) ≡ list_any (agrees_with l.cells) l.tuples
