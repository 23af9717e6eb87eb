use Rattle.std.proofs.Common.{drop, length, map}
use Rattle.std.specs.List.{enumerate_from}
use Rattle.fixed_num.specs.Ranges.{all_found}
use Rattle.vega_spec.specs.declared.spec.VgMark.{out-VgMark}
use Rattle.vega_copies.specs.declared.facts.MarkFacts.{out-MarkFacts}
use Rattle.vega_copies.specs.inner.Outlined.{marks_from}
use Rattle.vega_drawing.specs.Views.{views_in}
use Rattle.vega_drawing.specs.inner.Drawn.{copies_from}
use Rattle.vega_drawing.specs.inner.Framed.{frame_seen, found_in_frame}
use Rattle.vega_drawing.specs.inner.Placed.{cell_seen}
use Rattle.vega_drawing.proofs.GridLemmas.{MarksLeft, CellsLeft}
use Rattle.vega_drawing.proofs.grids.+viewing.Given as goal

abbrev pub invariant-cells_of-loop-mark : goal.invariant-cells_of-loop-mark
invariant-cells_of-loop-mark g l =
    let items = g.M.MarkItems.items l.maker in
    let lists = g.M.MarkItems.lists l.maker in
    MarksLeft items lists l.frame l.grid
    (views_in items (marks_from l.fn.numbers.unit l.fn.numbers.number l.marks) (found_in_frame lists l.frame 0 l.found) (frame_seen lists l.frame) l.grid 0)
    l.next_unit l.next_number l.at (drop l.mark-index l.marks) (drop l.at l.found) l.cells

abbrev pub invariant-push_cells-loop-at : goal.invariant-push_cells-loop-at
invariant-push_cells-loop-at g l =
    let items = g.M.MarkItems.items l.maker in
    let lists = g.M.MarkItems.lists l.maker in
    CellsLeft items lists l.frame l.grid l.here.numbers.unit l.here.numbers.number l.here.place l.mark
    (all_found (map (cell_seen items (frame_seen lists l.frame) l.grid l.here.numbers.unit l.here.numbers.number (out-VgMark l.mark))
    (enumerate_from (length l.initial.cells) (copies_from lists l.frame l.here.place 0 (out-MarkFacts l.here.facts.now).copies))))
    (length (out-MarkFacts l.here.facts.now).copies) l.at (drop l.at l.copies) l.initial.cells l.cells
