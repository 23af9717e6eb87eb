use Rattle.std.proofs.Common.{◌+◌, drop, ap, ◌∙◌, filter_map}
use Rattle.domain_kit.specs.Counting.{counted}
use Rattle.domain_kit.specs.inner.Extents.{extent_behind}
use Rattle.domain_kit.proofs.NumberLemmas.{extent_more}
use Rattle.domain_kit.proofs.counting.extent_among.Goals as goal

pub loop-cell-preserved : goal.loop-cell-preserved
loop-cell-preserved c = record {
  value = ap (λ ends. extent_behind ends (filter_map (counted c.args.counting) (drop (c.loop-cell.cell-index + 1) c.args.cells.now)))
      c.with_cell-ends.ensures.value
      ∙ extent_more (counted c.args.counting) c.args.cells.now c.loop-cell.cell-index _ c.loop-cell.ends _
      c.loop-cell-test.true c.cell-item.is c.loop-cell.invariant.value;
  ordered = c.with_cell-ends.ensures.ordered;
}
