use Rattle.guide_kit.specs.Legends.{entry_of}
use Rattle.guide_kit.proofs.AllLemmas.{begun, next, stopped}
use Rattle.guide_kit.proofs.entries.entries_at.Goals as goal

pub loop-cell-init : goal.loop-cell-init
loop-cell-init c = begun _ c.in_ok-entries.entries c.in_ok-entries.ensures

pub returns-in-Err : goal.returns-in-Err
returns-in-Err c =
    stopped (entry_of c.args.kind c.args.s.now c.args.shows c.args.format.now) c.args.cells.now c.loop-cell.cell-index _
    c.loop-cell.entries _ c.in-Err.error c.loop-cell-test.true c.cell-item.is c.loop-cell.invariant c.in-Err.ensures

pub loop-cell-preserved : goal.loop-cell-preserved
loop-cell-preserved c =
    next (entry_of c.args.kind c.args.s.now c.args.shows c.args.format.now) c.args.cells.now c.loop-cell.cell-index _
    c.loop-cell.entries _ c.in-Ok.entry _ c.loop-cell-test.true c.cell-item.is c.loop-cell.invariant c.in-Ok.ensures
    c.in_ok-push-in-Ok.ensures.ok
