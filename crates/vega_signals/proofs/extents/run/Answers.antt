use Rattle.vega_signals.proofs.ExtentLemmas.{next_may_fold, one_more, left_at_the_end, found_at_the_end}
use Rattle.vega_signals.proofs.extents.run.Goals as goal

pub rows_left-requires-clause-folds : goal.rows_left-requires-clause-folds
rows_left-requires-clause-folds g c =
    next_may_fold _ _ _ _ c.args.transforms.now c.loop-transform.transform-index
    c.transform-item.result c.loop-transform.left c.loop-transform.out c.loop-transform-test.true
    c.transform-item.is c.loop-transform.invariant

pub loop-transform-preserved : goal.loop-transform-preserved
loop-transform-preserved g c =
    one_more _ _ _ _ c.args.transforms.now c.loop-transform.transform-index
    c.transform-item.result c.loop-transform.left c.loop-transform.out c.loop-transform-test.true
    c.transform-item.is c.loop-transform.invariant c.in_ok-next.next c.push_extent.new.out
    c.in_ok-next.ensures.read c.in_ok-next.ensures.rows c.in_ok-push_extent.ensures

pub returns-clause-read : goal.returns-clause-read
returns-clause-read g c =
    left_at_the_end _ _ _ _ c.args.transforms.now c.loop-transform.transform-index c.loop-transform.left
    c.loop-transform.out c.loop-transform-test.false c.loop-transform.invariant

pub returns-clause-extents : goal.returns-clause-extents
returns-clause-extents g c =
    found_at_the_end _ _ _ _ c.args.transforms.now c.loop-transform.transform-index c.loop-transform.left
    c.loop-transform.out c.loop-transform-test.false c.loop-transform.invariant
