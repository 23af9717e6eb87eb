-- What an expression reads of the parameters of a chart.
use Rattle.std.specs.Prelude.{ℕ, List, Bool, Option}
use Rattle.cell_value.specs.declared.cell.Cell.{Cell}
use Rattle.cell_value.specs.Datum.{CellAt}

-- what is read of parameters, of the stores of selections, and of the domains of scales, each by its name
pub record Values : Type 0 where
  -- The value of a parameter; None where it has none, since its computation is out of range. A selection is null, and so is a name that stands
  -- for nothing.
  pub value : List ℕ → Option Cell
  -- the two ends that an interval selection has of a channel, else null
  pub member : List ℕ → List ℕ → Cell
  -- how many tuples a store has; 1 where it has extents
  pub stored : List ℕ → ℕ
  -- whether a store holds the row
  pub selects : List ℕ → CellAt → Bool
  -- the fields of a store; of a row it reads no others
  pub fields : List ℕ → List (List ℕ)
  -- how many cells the domain of a scale has
  pub domain_length : List ℕ → ℕ
