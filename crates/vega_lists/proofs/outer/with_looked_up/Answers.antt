use Rattle.std.proofs.Common.{subst}
use Rattle.vega_lists.specs.inner.Places.{IsHeldWhere}
use Rattle.vega_lists.proofs.OuterLemmas.{takes_more}
use Rattle.vega_lists.proofs.outer.with_looked_up.Goals as goal

pub loop-transform-preserved : goal.loop-transform-preserved
loop-transform-preserved g c =
    takes_more (g.O.ListReader.named c.args.outer.now) c.args.lists c.loop-transform.next
    c.in_ok-next.next c.args.transforms.now c.loop-transform.transform-index
    c.transform-item.result c.loop-transform-test.true c.transform-item.is c.loop-transform.invariant c.in_ok-next.ensures.takes
    (subst (IsHeldWhere c.in_ok-next.next) c.list_read.ensures c.in_ok-next.ensures.held)
