use Rattle.std.proofs.Common.{ap, ◌∙◌}
use Rattle.cell_value.specs.declared.state.Keyed.{Keyed}
use Rattle.cell_value.specs.Datum.{datum_of}
use Rattle.cell_value.specs.Datum.{datum_with}
use Rattle.plain_engine.proofs.EditLemmas.{set_is_read, row_with}
use Rattle.plain_engine.proofs.edits.with_cell.Goals as goal

pub returns : goal.returns
returns c =
    let made = c.in_ok-made.made in
    ap (λ row. datum_of (record { key = made.key; row = row })) c.in_ok-set.ensures.ok
    ∙ ap (λ name. datum_of (row_with name c.args.cell made)) c.in_ok-copy.ensures
    ∙ set_is_read c.args.name.now c.args.cell made
    ∙ ap (λ (row : Keyed). datum_with c.args.name.now c.args.cell (datum_of row)) c.in_ok-made.ensures
