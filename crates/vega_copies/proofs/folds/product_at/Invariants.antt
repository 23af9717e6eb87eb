use Rattle.std.proofs.Common.{◌≡◌, drop, map}
use Rattle.vega_copies.specs.inner.Tested.{products_at}
use Rattle.vega_copies.proofs.folds.product_at.Given as goal

abbrev pub invariant-loop-level : goal.invariant-loop-level
invariant-loop-level l =
    products_at (map (λ level. level.now) (drop l.level-index l.levels)) l.name ≡ products_at (map (λ level. level.now) l.levels) l.name
