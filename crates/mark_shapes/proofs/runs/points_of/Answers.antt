use Rattle.mark_shapes.proofs.RunLemmas.{begins, one_passed, all_passed}
use Rattle.mark_shapes.proofs.runs.points_of.Goals as goal

pub loop-stop-init : goal.loop-stop-init
loop-stop-init c = begins c.args.closed _ _ c.args.stops.now c.new-points.ensures c.new-run.ensures

pub loop-stop-preserved : goal.loop-stop-preserved
loop-stop-preserved c =
    one_passed c.args.closed c.args.stops.now c.loop-stop.stop-index _ c.loop-stop.points _ c.loop-stop.run c.stop-item.result _
    c.loop-stop-test.true c.stop-item.is c.loop-stop.invariant c.in_ok-go_on.ensures

pub returns : goal.returns
returns c =
    all_passed c.args.closed c.args.stops.now c.loop-stop.stop-index _ c.loop-stop.points _ c.loop-stop.run c.loop-stop-test.false
    c.loop-stop.invariant c.in_ok-end_run.ensures.points
