use Rattle.std.proofs.Common.{◌≡◌, drop}
use Rattle.cell_value.specs.Datum.{datum_of}
use Rattle.param_flow.specs.Change.{modified}
use Rattle.plain_engine.specs.inner.Edits.{datum_after}
use Rattle.plain_engine.proofs.EditLemmas.{settings_left}
use Rattle.plain_engine.proofs.edits.modified.Given as goal

abbrev pub invariant-loop-entry : goal.invariant-loop-entry
invariant-loop-entry g l =
    let values = g.P.ParamReader.values l.params in
    let row = datum_of l.row in
    settings_left values row (drop l.entry-index l.entries) (datum_after l.made l.row) ≡ modified values l.entries row
