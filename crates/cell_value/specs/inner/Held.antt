-- How a row holds a cell.
use Rattle.cell_value.specs.declared.cell.Cell.{Cell}
use Rattle.cell_value.specs.declared.cell.Cell.TheVariants as cell
use Rattle.cell_value.specs.declared.held.Form.{Form}
use Rattle.cell_value.specs.declared.held.Form.TheVariants.{Null, Flag, Number, Text, Other}

-- the cell that is held in a form
abbrev pub cell_in : Form → Cell
cell_in Null = cell.Null
cell_in (Flag flag) = cell.Flag flag
cell_in (Number millionths) = cell.Number millionths
cell_in (Text text) = cell.Text text
cell_in (Other held) = held
