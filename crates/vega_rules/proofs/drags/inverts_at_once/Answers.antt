use Rattle.vega_rules.proofs.DragLemmas.{inverts_once}
use Rattle.vega_rules.proofs.drags.inverts_at_once.Goals as goal

pub returns-then-of_top : goal.returns-then-of_top
returns-then-of_top c =
    inverts_once c.args.parts.now c.args.scale.now c.in_ok-of_top.of_top c.in_ok-inverts.inverts
    c.in_ok-of_top.ensures c.if-of_top.true c.in_ok-inverts.ensures
