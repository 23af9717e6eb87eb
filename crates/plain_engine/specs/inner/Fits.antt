-- How many rows fit a chart.
use Rattle.std.specs.Prelude.{◌≤◌, List, length}
use Rattle.std.specs.List.{All}
use Rattle.cell_value.specs.declared.state.Keyed.{Keyed}
use Rattle.cell_value.specs.State.{most_rows, greatest_id}

-- they are no more rows than a chart may have, and no id is greater than a row may have
pub record Fits (rows : List Keyed) : Type 0 where
  pub few : length rows ≤ most_rows
  pub ids : All (λ (keyed : Keyed). keyed.key.id ≤ greatest_id) rows
