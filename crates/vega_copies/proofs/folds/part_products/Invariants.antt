use Rattle.std.proofs.Common.{◌≡◌, drop, map}
use Rattle.std.specs.Prelude.{zip}
use Rattle.vega_copies.specs.Fitting.{with_part_products}
use Rattle.vega_copies.specs.inner.Tested.{products_over, products_at}
use Rattle.vega_copies.proofs.folds.part_products.Given as goal

abbrev pub invariant-loop-at : goal.invariant-loop-at
invariant-loop-at l =
    let outer = products_at (map (λ level. level.now) l.outer) in
    products_over l.own outer ≡ with_part_products (drop l.at (zip l.names l.lists)) outer
