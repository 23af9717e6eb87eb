use Rattle.std.proofs.Common.{arith}
use Rattle.plain_rows.proofs.Keys.{small_id}
use Rattle.plain_bins.proofs.ExtentLemmas.{found_at_the_end}
use Rattle.plain_bins.proofs.extents.extent_of.Goals as goal

pub with_row-found-requires : goal.with_row-found-requires
with_row-found-requires c = small_id c.args.rows.now c.loop-row.row-index _ c.requires c.loop-row-test.true c.row-item.is

pub returns : goal.returns
returns c = found_at_the_end c.args.name.now c.args.rows.now c.loop-row.found
    c.loop-row.row-index (omega (arith, c.loop-row.auto.row-index-end)) c.loop-row.invariant
