use Rattle.std.proofs.Common.{◌≡◌, ◌+◌, ◌≤◌, length, map, take, drop}
use Rattle.cell_value.specs.Datum.{datum_of}
use Rattle.param_flow.specs.Change.{rows_after, count_staying}
use Rattle.plain_engine.proofs.EditLemmas.{data_so_far}
use Rattle.plain_engine.proofs.edits.edits_of.Given as goal

abbrev pub invariant-loop-row : goal.invariant-loop-row
invariant-loop-row g l =
    let values = g.P.ParamReader.values l.params in
    (length l.edits.each ≡ l.row-index) × (l.edits.staying ≤ l.row-index)
    × (l.edits.staying + count_staying values l.change.remove (map datum_of (drop l.row-index l.rows))
    ≡ count_staying values l.change.remove (map datum_of l.rows))
    × (data_so_far l.edits.overflows l.edits.each (take l.row-index l.rows) (rows_after values l.change (map datum_of (drop l.row-index
    l.rows)))
    ≡ rows_after values l.change (map datum_of l.rows))
