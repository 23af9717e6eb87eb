use Rattle.vega_copies.proofs.AlikeLemmas.{reading_stops, reading_goes_on}
use Rattle.vega_copies.proofs.alike.+reading.Goals as goal

pub all_read_none-returns-then-not-mark_reads_none : goal.all_read_none-returns-then-not-mark_reads_none
all_read_none-returns-then-not-mark_reads_none t c =
    reading_stops c.args.names.now c.args.marks.now c.loop-mark.mark-index c.mark-item.result c.mark_reads_none.result c.loop-mark-test.true c.mark-item.is
    c.mark_reads_none.ensures c.loop-mark.invariant c.if-not-mark_reads_none.true

pub all_read_none-loop-mark-preserved : goal.all_read_none-loop-mark-preserved
all_read_none-loop-mark-preserved t c =
    reading_goes_on c.args.names.now c.args.marks.now c.loop-mark.mark-index c.mark-item.result c.mark_reads_none.result c.loop-mark-test.true c.mark-item.is
    c.mark_reads_none.ensures c.loop-mark.invariant c.if-not-mark_reads_none.false
