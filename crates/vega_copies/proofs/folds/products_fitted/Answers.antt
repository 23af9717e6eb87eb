use Rattle.std.proofs.Common.{map, ◌∙◌}
use Rattle.vega_lists.specs.Products.{Products}
use Rattle.vega_copies.specs.Fitting.{fitted}
use Rattle.vega_copies.specs.inner.Tested.{products_over, products_at}
use Rattle.vega_copies.proofs.ProductLemmas.{set_more}
use Rattle.vega_copies.proofs.folds.products_fitted.Goals as goal

pub loop-set-preserved : goal.loop-set-preserved
loop-set-preserved c =
    let outer : Products = products_at (map (λ level. level.now) c.args.outer.now) in
    set_more c.args.sets.now c.loop-set.set-index c.set-item.result c.in-Some.product (products_over c.loop-set.own outer)
    (products_over c.put_product.new.places outer) _ c.loop-set-test.true c.set-item.is
    (c.in-Some.ensures ∙ (λ i. fitted (c.begun_product.ensures i) (c.transforms_of.ensures i))) (c.in_ok-put_product.ensures outer)
    c.loop-set.invariant
