use Rattle.std.proofs.Common.{◌∙◌, ap, sym, Some}
use Rattle.expr_eval.proofs.Several.{stops_all, all_more}
use Rattle.domain_kit.specs.Orders.{ranked}
use Rattle.domain_kit.specs.inner.Held.{values_held}
use Rattle.domain_kit.proofs.orders.each_ranked.Goals as goal

pub returns-in-Err : goal.returns-in-Err
returns-in-Err c =
    stops_all (ranked c.args.op (values_held c.args.held.now)) c.args.cells.now c.loop-cell.cell-index _ c.loop-cell-test.true
    c.cell-item.is c.in-Err.error c.in-Err.ensures

pub loop-cell-preserved : goal.loop-cell-preserved
loop-cell-preserved c =
    all_more (ranked c.args.op (values_held c.args.held.now)) c.args.cells.now c.loop-cell.cell-index _ c.loop-cell.ranks c.in-Ok.rank
    c.loop-cell-test.true c.cell-item.is c.loop-cell.invariant c.in-Ok.ensures
    ∙ ap Some (sym c.in_ok-push-in-Ok.ensures.ok)
