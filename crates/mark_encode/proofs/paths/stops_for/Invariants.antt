use Rattle.std.proofs.Common.{◌≡◌}
use Rattle.cell_value.specs.Datum.{Datum}
use Rattle.fixed_num.proofs.FoundLemmas.{after}
use Rattle.mark_encode.specs.Orders.{data_of}
use Rattle.mark_encode.specs.Paths.{stop_for, stops_for}
use Rattle.mark_encode.specs.inner.PathParts.{path_values}
use Rattle.mark_encode.proofs.PathLemmas.{found_from}
use Rattle.mark_encode.proofs.paths.stops_for.Given as goal

abbrev pub invariant-loop-row : goal.invariant-loop-row
invariant-loop-row g l =
    let path = path_values l.path in
    let values = g.P.ParamReader.values l.params in
    stops_for path values (data_of l.rows) ≡ after l.stops (found_from (λ (row : Datum). stop_for path values row.cell) l.rows l.row-index)
