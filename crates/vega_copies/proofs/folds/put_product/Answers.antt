use Rattle.std.proofs.Common.{◌∙◌}
use Rattle.std.specs.String.{string_bytes}
use Rattle.vega_copies.proofs.ProductLemmas.{product_put}
use Rattle.vega_copies.proofs.folds.put_product.Goals as goal

pub returns : goal.returns
returns c =
    product_put (string_bytes c.into_string.result) c.args.name.now c.args.places.now c.insert.new.self c.args.product
    (c.into_string.ensures ∙ c.in_ok-copy.ensures) c.in_ok-insert.ensures.updates
