-- What is read where there is no row, and where there are no parameters.
use Rattle.std.specs.Prelude.{false, Some, []}
use Rattle.cell_value.specs.declared.cell.Cell.TheVariants.{Null}
use Rattle.cell_value.specs.Datum.{CellAt}
use Rattle.expr_eval.specs.Values.{Values}

-- no row: each name reads as null
abbrev pub null_row : CellAt
null_row name = Null

-- no parameters: each value is null, no store has a tuple or holds a row, and no scale has a domain
abbrev pub no_values : Values
no_values = record {
  value = λ name. Some Null;
  member = λ name field. Null;
  stored = λ store. 0;
  selects = λ store row. false;
  fields = λ store. [];
  domain_length = λ scale. 0;
}
