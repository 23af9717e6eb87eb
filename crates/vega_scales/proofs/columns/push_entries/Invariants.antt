use Rattle.std.proofs.Common.{◌≡◌, ◌++◌, map, drop}
use Rattle.cell_value.specs.Datum.{datum_of}
use Rattle.vega_scales.specs.Domains.{entries_among}
use Rattle.vega_scales.proofs.columns.push_entries.Given as goal

abbrev pub invariant-loop-row : goal.invariant-loop-row
invariant-loop-row l =
    l.out ++ entries_among l.key l.value (map datum_of (drop l.row-index (map (λ row. row.now) l.rows)))
    ≡ l.fn.out ++ entries_among l.key l.value (map datum_of (map (λ row. row.now) l.rows))
