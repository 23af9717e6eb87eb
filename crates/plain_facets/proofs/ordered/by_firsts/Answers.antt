use Rattle.std.proofs.Common.{◌∙◌}
use Rattle.plain_facets.proofs.OrderLemmas.{as_firsts}
use Rattle.plain_facets.proofs.ordered.by_firsts.Goals as goal

pub returns : goal.returns
returns c = c.in_ok-in_direction.ensures ∙ as_firsts c.in_ok-besides.besides c.args.pairs.now c.args.descending c.in_ok-besides.ensures
