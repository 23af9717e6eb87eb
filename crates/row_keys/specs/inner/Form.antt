-- How a key holds a cell.
use Rattle.cell_value.specs.declared.cell.Cell.{Cell}
use Rattle.cell_value.specs.declared.cell.Cell.TheVariants as cell
use Rattle.row_keys.specs.declared.cell_key.Form.{Form}
use Rattle.row_keys.specs.declared.cell_key.Form.TheVariants.{Null, Flag, Number, Text, Other}

-- the cell that a form holds
abbrev pub cell_in : Form → Cell
cell_in Null = cell.Null
cell_in (Flag flag) = cell.Flag flag
cell_in (Number millionths) = cell.Number millionths
cell_in (Text text) = cell.Text text
cell_in (Other c) = c
