use Rattle.std.proofs.Common.{◌∙◌, ap, map}
use Rattle.plain_facets.proofs.OrderLemmas.{falling_gives}
use Rattle.plain_facets.proofs.ordered.by_falling.Goals as goal

pub returns : goal.returns
returns c =
    falling_gives c.args.besides.now c.args.pairs.now (λ r. r.0) _ _ _ c.in_ok-falling.ensures c.in_ok-found.ensures
    (c.in_ok-seconds.ensures ∙ ap (map (λ pair. pair.1)) c.as_slice.ensures.value)
