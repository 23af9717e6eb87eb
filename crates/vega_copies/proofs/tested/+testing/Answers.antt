use Rattle.vega_copies.proofs.TreeLemmas.{objects_stop, objects_go_on}
use Rattle.vega_copies.proofs.tested.+testing.Goals as goal

pub are_objects-returns-then-not-are_objects_in : goal.are_objects-returns-then-not-are_objects_in
are_objects-returns-then-not-are_objects_in t c =
    objects_stop c.args.marks.now c.loop-mark.mark-index c.mark-item.result c.are_objects_in.result c.loop-mark-test.true c.mark-item.is
    c.are_objects_in.ensures c.loop-mark.invariant c.if-not-are_objects_in.true

pub are_objects-loop-mark-preserved : goal.are_objects-loop-mark-preserved
are_objects-loop-mark-preserved t c =
    objects_go_on c.args.marks.now c.loop-mark.mark-index c.mark-item.result c.are_objects_in.result c.loop-mark-test.true c.mark-item.is
    c.are_objects_in.ensures c.loop-mark.invariant c.if-not-are_objects_in.false
