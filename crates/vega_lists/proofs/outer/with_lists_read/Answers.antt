use Rattle.std.proofs.Common.{subst}
use Rattle.vega_lists.specs.inner.Places.{IsHeldWhere}
use Rattle.vega_lists.proofs.OuterLemmas.{then_takes, then_held}
use Rattle.vega_lists.proofs.outer.with_lists_read.Goals as goal

pub returns-clause-takes : goal.returns-clause-takes
returns-clause-takes g c =
    then_takes (g.O.ListReader.named c.args.outer.now) c.args.lists c.in_ok-begun.begun c.with_looked_up.result c.in_ok-begun.ensures.takes
    c.with_looked_up.ensures.takes

pub returns-clause-source : goal.returns-clause-source
returns-clause-source g c =
    then_held (g.O.ListReader.named c.args.outer.now) c.in_ok-begun.begun c.with_looked_up.result c.args.set.now.source c.with_looked_up.ensures.takes
    (subst (IsHeldWhere c.in_ok-begun.begun) c.as_ref.ensures.value c.in_ok-begun.ensures.held)
