use Rattle.view_layout.proofs.GridLemmas.{column-next}
use Rattle.view_layout.proofs.spans.columns_of.Goals as goal

pub loop-k-preserved : goal.loop-k-preserved
loop-k-preserved c =
    rw (c.in_ok-push.ensures.ok, c.greatest_apart.ensures, c.behind.ensures)
    (column-next c.args.n c.args.spans.now c.loop-k.out _ c.loop-k.k c.min-k-end.result c.loop-k-test.true c.loop-k.invariant)
