use Rattle.std.proofs.Common.{◌≡◌, drop}
use Rattle.vega_copies.specs.Fitting.{fitted}
use Rattle.vega_copies.proofs.folds.fitted.Given as goal

abbrev pub invariant-loop-transform : goal.invariant-loop-transform
invariant-loop-transform l = fitted l.product (drop l.transform-index l.transforms) ≡ fitted l.fn.before l.transforms
