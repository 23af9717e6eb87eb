use Rattle.vega_lists.proofs.StepLemmas.{first_at, more_at}
use Rattle.vega_lists.proofs.steps.run.Goals as goal

pub next_rows-requires-clause-folds : goal.next_rows-requires-clause-folds
next_rows-requires-clause-folds g c =
    first_at _ _ _ c.args.transforms.now c.loop-transform.transform-index
    c.transform-item.result c.loop-transform.made c.loop-transform-test.true c.transform-item.is
    c.loop-transform.invariant

pub loop-transform-preserved : goal.loop-transform-preserved
loop-transform-preserved g c =
    more_at _ _ _ c.args.transforms.now c.loop-transform.transform-index c.transform-item.result
    c.loop-transform.made c.in-Ok.next c.loop-transform-test.true c.transform-item.is
    c.loop-transform.invariant c.in-Ok.ensures.read c.in-Ok.ensures.rows
