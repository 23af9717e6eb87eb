use Rattle.std.proofs.Common.{◌≡◌, ℕ, List, subst}
use Rattle.std.specs.Prelude.{IfOk}
use Rattle.cell_value.specs.declared.cell.Cell.{Cell}
use Rattle.plain_engine.proofs.rows.cell_of.Goals as goal

pub of-requires : goal.of-requires
of-requires g c = c.args.row.now.small

pub returns-clause-cell : goal.returns-clause-cell
returns-clause-cell g c =
    subst (λ (read : List ℕ → Cell). IfOk c.field.result (λ cell. cell ≡ read c.args.name.now)) c.of.ensures c.field.ensures.cell
