use Rattle.std.proofs.Common.{◌-◌, map, arith, ap, ◌∙◌}
use Rattle.vega_lists.specs.Products.{Products, with_product}
use Rattle.vega_copies.specs.inner.Tested.{products_over, products_at}
use Rattle.vega_copies.proofs.ProductLemmas.{no_part_yet, part_put}
use Rattle.vega_copies.proofs.folds.part_products.Goals as goal

pub loop-at-init : goal.loop-at-init
loop-at-init c =
    let outer : Products = products_at (map (λ level. level.now) c.args.outer.now) in
    c.no_products-own.ensures outer ∙ no_part_yet c.args.names.now c.args.lists.now c.min-at.result outer c.min-at.ensures

pub loop-at-preserved : goal.loop-at-preserved
loop-at-preserved c =
    let outer : Products = products_at (map (λ level. level.now) c.args.outer.now) in
    let few = c.loop-at.auto.at in
    let all = c.min-at.ensures in
    let some = c.loop-at-test.true in
    part_put c.args.names.now c.args.lists.now (c.loop-at.at - 1) c.loop-at.at c.index-names-at.result c.index-lists-at.result c.loop-at.own
    c.put_product.new.places outer (omega (arith, some)) (grind (arith, few, all, some)) (grind (arith, few, all, some)) c.loop-at.invariant
    (c.in_ok-put_product.ensures outer
    ∙ (λ i. with_product (c.index-names-at.is i) ((c.product_at.ensures ∙ ap outer (c.as_str.ensures ∙ c.index-lists-at.is)) i)
    (products_over c.loop-at.own outer)))
