use Rattle.plot_scenes.proofs.AxisLemmas.{begun, next, stopped, ended}
use Rattle.plot_scenes.proofs.axes.axes_outside.Goals as goal

pub loop-shown-init : goal.loop-shown-init
loop-shown-init c =
    begun c.args.size.now.0 c.args.size.now.1 c.args.x c.args.axes.now c.args.before c.no_axes-all.result c.no_axes-all.ensures

pub returns-in-Err : goal.returns-in-Err
returns-in-Err c =
    stopped c.args.size.now.0 c.args.size.now.1 c.args.x c.args.axes.now c.loop-shown.shown-index _ c.loop-shown.all _ c.in-Err.error
    c.loop-shown-test.true c.shown-item.is c.loop-shown.invariant c.in-Err.ensures

pub loop-shown-preserved : goal.loop-shown-preserved
loop-shown-preserved c =
    next c.args.size.now.0 c.args.size.now.1 c.args.x c.args.axes.now c.loop-shown.shown-index _ c.loop-shown.all c.in-Ok.more _
    c.loop-shown-test.true c.shown-item.is c.loop-shown.invariant c.in-Ok.ensures

pub returns : goal.returns
returns c =
    ended c.args.size.now.0 c.args.size.now.1 c.args.x c.args.axes.now c.loop-shown.shown-index c.loop-shown.all _
    c.loop-shown-test.false c.loop-shown.invariant
