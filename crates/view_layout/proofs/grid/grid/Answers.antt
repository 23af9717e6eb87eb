use Rattle.std.proofs.Common.{ap, ◌∙◌}
use Rattle.view_layout.specs.Grid.{columns_of, rows_of}
use Rattle.view_layout.proofs.PlanLemmas.{grid_from_spans}
use Rattle.view_layout.proofs.grid.grid.Goals as goal

pub returns : goal.returns
returns c =
    grid_from_spans c.args.n c.args.gap c.args.title c.args.cells.across c.args.cells.down c.as_slice-3.result.now c.as_slice-4.result.now
    c.args.cells.plans c.grid_by.result
    (c.as_slice-3.ensures ∙ c.in_ok-columns.ensures ∙ ap (columns_of c.args.n) c.as_slice.ensures)
    (c.as_slice-4.ensures ∙ c.in_ok-rows.ensures ∙ ap (rows_of c.args.n) c.as_slice-2.ensures) c.grid_by.ensures
