use Rattle.std.proofs.Common.{◌≡◌, Some, find, ap, ◌∙◌}
use Rattle.cell_value.specs.declared.cell.Cell.{Cell}
use Rattle.cell_value.specs.Datum.{cell_at}
use Rattle.param_flow.specs.UnitRows.{cell_in_unit}
use Rattle.plain_engine.specs.inner.Rows.{has_unit_and_key, told}
use Rattle.plain_engine.proofs.EventLemmas.{ok_more}
use Rattle.plain_engine.proofs.RowLemmas.{cell_of_found, none_found}
use Rattle.plain_engine.proofs.rows.DrawnRowsUnitRows.cell.Goals as goal

pub returns-clause-cell : goal.returns-clause-cell
returns-clause-cell g c =
    let rows = c.args.self.now.rows in
    let name = c.args.name.now in
    let found = c.in-Some.ensures ∙ ap (find (has_unit_and_key c.args.unit c.args.key)) c.as_slice.ensures in
    ok_more (λ (cell : Cell). cell ≡ cell_at c.in-Some.row.now.keyed name)
    (λ (cell : Cell). cell_in_unit (Some (told rows c.args.unit)) c.args.key name ≡ Some cell) c.cell_of.result
    (λ cell is. cell_of_found c.args.unit c.args.key name rows c.in-Some.row.now cell found is) c.cell_of.ensures.cell

pub unreachable-requires : goal.unreachable-requires
unreachable-requires g c =
    none_found c.args.unit c.args.key c.args.name.now c.args.self.now.rows
    (c.in_default.ensures ∙ ap (find (has_unit_and_key c.args.unit c.args.key)) c.as_slice.ensures) c.requires.there
