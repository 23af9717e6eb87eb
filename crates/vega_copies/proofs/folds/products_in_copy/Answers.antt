use Rattle.std.proofs.Common.{Option, map, ap, ◌∙◌}
use Rattle.vega_spec.specs.declared.marks.Facet.{Facet}
use Rattle.vega_lists.specs.Products.{Products}
use Rattle.vega_copies.specs.Fitting.{products_in_copy}
use Rattle.vega_copies.specs.inner.Tested.{products_at}
use Rattle.vega_copies.proofs.folds.products_in_copy.Goals as goal

pub returns-in-None : goal.returns-in-None
returns-in-None c =
    let outer : Products = products_at (map (λ level. level.now) c.args.outer.now) in
    c.no_products.ensures outer ∙ ap (λ (f : Option Facet). products_in_copy f outer) c.in-None.ensures
