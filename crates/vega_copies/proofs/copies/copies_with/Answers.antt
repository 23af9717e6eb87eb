use Rattle.std.proofs.Common.{map}
use Rattle.vega_copies.specs.inner.Copied.{copy_seen, copy_at}
use Rattle.vega_copies.proofs.CopyLemmas.{numbered_more}
use Rattle.vega_copies.proofs.copies.copies_with.Goals as goal

pub loop-place-preserved : goal.loop-place-preserved
loop-place-preserved c =
    numbered_more (copy_at c.args.fields.now c.args.names.now c.args.tables.now) c.args.cells.now c.loop-place.place c.index-cells-place.result
    (map copy_seen c.loop-place.copies) _ _ c.loop-place-test.true c.index-cells-place.is c.in_ok-push_copy.ensures c.loop-place.invariant
