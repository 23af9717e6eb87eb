use Rattle.std.proofs.Common.{◌∙◌, ap, sym, Some}
use Rattle.expr_eval.proofs.Several.{stops_all, all_more}
use Rattle.vega_signals.specs.Signals.{valued_here}
use Rattle.vega_signals.proofs.signals.all_valued.Goals as goal

pub returns-in-Err : goal.returns-in-Err
returns-in-Err c = stops_all valued_here c.args.settled.now c.loop-entry.entry-index _ c.loop-entry-test.true c.entry-item.is c.in-Err.error c.in-Err.ensures

pub loop-entry-preserved : goal.loop-entry-preserved
loop-entry-preserved c =
    all_more valued_here c.args.settled.now c.loop-entry.entry-index _ c.loop-entry.out
    c.in-Ok.valued c.loop-entry-test.true c.entry-item.is c.loop-entry.invariant
    c.in-Ok.ensures
    ∙ ap Some (sym c.in_ok-push-in-Ok.ensures.ok)
