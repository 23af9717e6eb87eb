use Rattle.std.proofs.Common.{ap, sym, ◌∙◌, Some}
use Rattle.expr_eval.specs.Value.{value_of}
use Rattle.expr_eval.specs.Reads.{reads_of}
use Rattle.expr_eval.proofs.Several.{stops_all, all_more, steps_more, steps_then_one}
use Rattle.expr_eval.proofs.value.+value.Goals as goal

pub eval_all-returns-in-Err-clause-value : goal.eval_all-returns-in-Err-clause-value
eval_all-returns-in-Err-clause-value g t c =
    stops_all (value_of (g.R.RowReader.cells c.args.row.now) (g.P.ParamReader.values c.args.params.now)) c.args.args.now
    c.loop-arg.arg-index _ c.loop-arg-test.true c.arg-item.is c.in-Err.e c.in-Err.ensures.value

pub eval_all-returns-in-Err-clause-steps : goal.eval_all-returns-in-Err-clause-steps
eval_all-returns-in-Err-clause-steps g t c =
    steps_then_one (reads_of (g.P.ParamReader.values c.args.params.now)) c.args.args.now c.loop-arg.arg-index _ _ _ _ c.loop-arg-test.true
    c.arg-item.is c.loop-arg.invariant.steps c.in-Err.ensures.steps

pub eval_all-loop-arg-preserved : goal.eval_all-loop-arg-preserved
eval_all-loop-arg-preserved g t c = record {
  values =
      all_more (value_of (g.R.RowReader.cells c.args.row.now) (g.P.ParamReader.values c.args.params.now)) c.args.args.now
      c.loop-arg.arg-index _ c.loop-arg.out c.in-Ok.cell c.loop-arg-test.true c.arg-item.is c.loop-arg.invariant.values
      c.in-Ok.ensures.value
      ∙ ap Some (sym c.in_ok-push-in-Ok.ensures.ok);
  steps =
      steps_more (reads_of (g.P.ParamReader.values c.args.params.now)) c.args.args.now c.loop-arg.arg-index _ _ _ _ c.loop-arg-test.true
      c.arg-item.is c.loop-arg.invariant.steps c.in-Ok.ensures.steps;
}
