use Rattle.guide_kit.specs.Ticks.{tick_of}
use Rattle.guide_kit.proofs.EachLemmas.{next_found, stopped_at}
use Rattle.guide_kit.proofs.ticks.ticks_of.Goals as goal

pub returns-in-Err : goal.returns-in-Err
returns-in-Err c =
    stopped_at _ _ (tick_of c.args.s.now c.args.shows c.args.format.now) c.args.cells.now
    c.loop-cell.cell-index _ c.loop-cell.ticks _ c.in-Err.error c.loop-cell-test.true c.cell-item.is c.loop-cell.invariant c.in-Err.ensures

pub loop-cell-preserved : goal.loop-cell-preserved
loop-cell-preserved c =
    next_found _ _ (tick_of c.args.s.now c.args.shows c.args.format.now) c.args.cells.now
    c.loop-cell.cell-index _ c.loop-cell.ticks _ c.in-Ok.tick _ c.loop-cell-test.true c.cell-item.is c.loop-cell.invariant c.in-Ok.ensures
    c.in_ok-add-in-Ok.ensures
