use Rattle.mark_shapes.proofs.RunLemmas.{goes_on, ends_run}
use Rattle.mark_shapes.proofs.runs.go_on.Goals as goal

pub returns-in-Some : goal.returns-in-Some
returns-in-Some c =
    rw c.in-Some.is (goes_on c.args.closed c.push.result c.args.points.now c.args.run.now _ c.in-Some.stop c.push.ensures.ok)

pub returns-in-None : goal.returns-in-None
returns-in-None c =
    rw c.in-None.is (ends_run c.args.closed c.end_run.result c.args.points.now _ c.args.run.now _ c.end_run.ensures.points c.end_run.ensures.run)
