use Rattle.std.proofs.Common.{[], ◌++◌, ap, arith}
use Rattle.cell_value.specs.Cell.{same_cells}
use Rattle.plain_groups.specs.Groups.{firsts_behind}
use Rattle.domain_kit.proofs.CellLemmas.{none_seen, seen_more, found_more, found_all}
use Rattle.domain_kit.proofs.cells.in_first_order.Goals as goal

pub loop-cell-init : goal.loop-cell-init
loop-cell-init c = record {
  seen = λ q. none_seen c.new-seen.result q c.new-seen.ensures.empty;
  found = ap (λ found. found ++ firsts_behind same_cells [] c.args.cells.now) c.new-found.ensures;
}

pub loop-cell-preserved : goal.loop-cell-preserved
loop-cell-preserved c = record {
  seen = λ q. seen_more c.args.cells.now c.loop-cell.cell-index _ q _ _ c.loop-cell-test.true c.cell-item.is (c.in_ok-note.ensures.seen q)
      (c.loop-cell.invariant.seen q);
  found = found_more c.args.cells.now c.loop-cell.cell-index _ _ _ _ _ c.loop-cell-test.true c.cell-item.is (c.loop-cell.invariant.seen _)
      c.in_ok-note.ensures.found c.loop-cell.invariant.found;
}

pub returns : goal.returns
returns c = found_all c.args.cells.now c.loop-cell.cell-index c.loop-cell.found _ (omega arith) c.loop-cell.invariant.found
