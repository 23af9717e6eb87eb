use Rattle.view_layout.proofs.GridLemmas.{positions-start, positions-at}
use Rattle.view_layout.proofs.spans.positions.Goals as goal

pub loop-span-init : goal.loop-span-init
loop-span-init c = rw c.in_ok-out.ensures (positions-start c.args.from c.args.gap c.args.spans.now)

pub loop-span-preserved : goal.loop-span-preserved
loop-span-preserved c =
    rw (
      c.in_ok-push.ensures.ok,
      c.plus-in-loop-span.ensures,
      c.plus.ensures,
      c.plus-passed.ensures,
      c.plus-in-loop-span-2.ensures,
      c.whole.ensures,
    )
    (positions-at c.args.from c.args.gap c.loop-span.passed c.loop-span.out _ c.args.spans.now c.loop-span.span-index _
    c.loop-span-test.true c.loop-span.invariant)
