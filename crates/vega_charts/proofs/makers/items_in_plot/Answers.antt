use Rattle.vega_charts.proofs.RowLemmas.{listed}
use Rattle.vega_charts.proofs.makers.items_in_plot.Goals as goal

pub items_over_rows-requires : goal.items_over_rows-requires
items_over_rows-requires c = listed c.in_ok-rows.rows c.as_slice.result.now c.as_slice.ensures c.in_ok-rows.ensures.rows
