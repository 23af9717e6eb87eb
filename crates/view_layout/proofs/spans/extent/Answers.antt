use Rattle.view_layout.proofs.GridLemmas.{reach-at}
use Rattle.view_layout.proofs.spans.extent.Goals as goal

pub loop-span-preserved : goal.loop-span-preserved
loop-span-preserved c =
    rw (c.plus-end.ensures, c.plus.ensures, c.whole.ensures)
    (reach-at c.args.gap c.loop-span.end c.whole-end.result _ c.loop-span.span-index _ c.loop-span-test.true c.loop-span.invariant)
