use Rattle.std.proofs.Common.{◌≡◌, ◌∙◌, ap, subst, map, IfOk}
use Rattle.cell_value.specs.declared.cell.Cell.{Cell}
use Rattle.cell_value.specs.Datum.{Datum, datum_of}
use Rattle.plain_groups.specs.GroupRows.{read_by}
use Rattle.plain_windows.proofs.CellLemmas.{first_is}
use Rattle.plain_windows.proofs.cells.first_value.Goals as goal

pub returns-then-frame : goal.returns-then-frame
returns-then-frame c =
    let read : Datum → Cell = λ other. read_by c.args.op.now other.cell in
    subst (λ v. IfOk c.read_cell.result (λ cell. cell ≡ v))
    (ap read c.row_at.ensures.row
    ∙ first_is (map datum_of c.args.rows.now) c.args.places.now c.args.frame c.requires.frame read c.if-frame.true) c.read_cell.ensures
