use Rattle.std.proofs.Common.{◌≡◌, map, take, Some, option_map}
use Rattle.fixed_num.specs.Ranges.{all_found}
use Rattle.cell_value.specs.Datum.{datum_of}
use Rattle.plain_rows.specs.Lookups.{with_cells}
use Rattle.plain_stacks.specs.Stacks.{row_span_with, span_cells}
use Rattle.plain_stacks.proofs.stacks.stacked_rows.Given as goal

abbrev pub invariant-loop-at : goal.invariant-loop-at
invariant-loop-at l =
    all_found (map (λ row. option_map (λ span. with_cells row (span_cells l.s span)) (row_span_with l.s l.greatest (map datum_of l.rows)
    (datum_of row))) (take l.at l.rows)) ≡ Some l.out
