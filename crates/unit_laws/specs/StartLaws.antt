-- The expression of the start of a unit of time gives the start of the unit, at each number that stands for an instant; and null at every other cell.
use Rattle.std.specs.Prelude.{◌≡◌, ℕ, ℤ, Some, None, List}
use Rattle.std.specs.Option.{option_and_then}
use Rattle.case_table.specs.TimeUnits.{UnitRule, unit_rule}
use Rattle.cell_value.specs.declared.cell.Cell.TheVariants.{Null, Number}
use Rattle.cell_value.specs.Datum.{CellAt}
use Rattle.expr_eval.specs.Numbers.{the_number}
use Rattle.expr_eval.specs.Value.{value_of}
use Rattle.expr_eval.specs.Values.{Values}
use Rattle.time_calc.specs.Instants.{instant_at, instant_number}
use Rattle.time_calc.specs.TimeUnits.{start_of}
use Rattle.unit_plan.specs.Starts.{start_by}

abbrev pub StartsAgree : Type 0
StartsAgree = (row : CellAt) (values : Values) (code : ℕ) (rule : UnitRule) (field : List ℕ) (n instant : ℤ)
    → unit_rule code ≡ Some rule → row field ≡ Number n → instant_at n ≡ Some instant
    → value_of row values (start_by code field) ≡ Some (Number (instant_number (start_of rule.kept instant)))

abbrev pub OthersHaveNone : Type 0
OthersHaveNone = (row : CellAt) (values : Values) (code : ℕ) (rule : UnitRule) (field : List ℕ)
    → unit_rule code ≡ Some rule → option_and_then instant_at (the_number (row field)) ≡ None
    → value_of row values (start_by code field) ≡ Some Null
