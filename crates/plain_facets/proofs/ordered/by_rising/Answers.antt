use Rattle.std.proofs.Common.{◌∙◌, ap, map}
use Rattle.plain_facets.proofs.OrderLemmas.{rising_gives}
use Rattle.plain_facets.proofs.ordered.by_rising.Goals as goal

pub returns : goal.returns
returns c =
    rising_gives c.args.besides.now c.args.pairs.now _ _ _ c.in_ok-rising.ensures c.in_ok-found.ensures
    (c.in_ok-seconds.ensures ∙ ap (map (λ pair. pair.1)) c.as_slice.ensures.value)
