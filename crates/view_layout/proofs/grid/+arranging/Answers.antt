use Rattle.view_layout.proofs.PlanLemmas.{grid_seen}
use Rattle.view_layout.proofs.grid.+arranging.Goals as goal

pub arrange-returns-in_ok-grid-in-Grid : goal.arrange-returns-in_ok-grid-in-Grid
arrange-returns-in_ok-grid-in-Grid t c =
    grid_seen c.args.t.now c.in-Grid.columns c.in-Grid.spacing c.in-Grid.title c.in-Grid.cells c.max.result c.length_of.result
    c.as_slice.result.now c.in_ok-cells-in-Grid.cells c.in_ok-grid-in-Grid.field-0 c.in-Grid.is c.max.ensures c.length_of.ensures
    c.as_slice.ensures c.in_ok-cells-in-Grid.ensures c.in_ok-grid-in-Grid.ensures
