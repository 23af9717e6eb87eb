use Rattle.std.proofs.Common.{◌≡◌, drop, map}
use Rattle.vega_copies.specs.Fitting.{products_fitted}
use Rattle.vega_copies.specs.inner.Tested.{products_over, products_at}
use Rattle.vega_copies.proofs.folds.products_fitted.Given as goal

abbrev pub invariant-loop-set : goal.invariant-loop-set
invariant-loop-set l =
    let outer = products_at (map (λ level. level.now) l.outer) in
    products_fitted (products_over l.own outer) (drop l.set-index l.sets) ≡ products_fitted (products_over l.fn.begun outer) l.sets
