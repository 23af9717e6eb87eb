use Rattle.scale_index.proofs.KnownLemmas.{none_known, one_more_known}
use Rattle.scale_index.proofs.known.known_among.Goals as goal

pub loop-cell-init : goal.loop-cell-init
loop-cell-init c = none_known c.args.scale.now c.new-known.result c.new-known.ensures.empty

pub loop-cell-preserved : goal.loop-cell-preserved
loop-cell-preserved c =
    one_more_known c.args.scale.now c.args.cells.now c.loop-cell.cell-index _ c.loop-cell.known c.put_known.new.known c.loop-cell-test.true
    c.cell-item.is c.in_ok-put_known.ensures c.loop-cell.invariant
