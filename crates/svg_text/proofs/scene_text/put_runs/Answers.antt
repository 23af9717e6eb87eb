use Rattle.svg_text.specs.inner.Runs.{run_text}
use Rattle.svg_text.proofs.Steps.{prints_nothing, prints_item, prints_to_item, prints_all}
use Rattle.svg_text.proofs.scene_text.put_runs.Goals as goal

pub loop-run-init : goal.loop-run-init
loop-run-init g c = prints_nothing c.args.out.now c.args.page.now _

pub returns-in_err-put_run : goal.returns-in_err-put_run
returns-in_err-put_run g c =
    prints_to_item run_text c.args.runs.now c.loop-run.run-index c.run-item.result c.loop-run-test.true c.run-item.is
    c.from_residual.ensures.0 c.loop-run.invariant c.in_err-put_run.ensures

pub loop-run-preserved : goal.loop-run-preserved
loop-run-preserved g c = prints_item run_text c.args.runs.now c.loop-run.run-index c.run-item.result c.loop-run-test.true
    c.run-item.is c.loop-run.invariant c.in_ok-put_run.ensures

pub returns : goal.returns
returns g c = prints_all run_text c.args.runs.now c.loop-run.run-index c.loop-run-test.false c.loop-run.invariant
