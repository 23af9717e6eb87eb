-- What holds of the numbers that texts spell, and of `if`.
use Rattle.std.specs.Prelude.{◌≡◌, ◌↔◌, ℕ, ℤ, List, Some, map}
use Rattle.fixed_num.specs.Number.{IsNumber}
use Rattle.fixed_num.specs.JsonNumber.{Reads}
use Rattle.cell_value.specs.declared.cell.Cell.{Cell}
use Rattle.expr_eval.specs.Numbers.{number_in_text}
use Rattle.expr_eval.specs.Table.{builtin, called, code_of_if}

-- a text spells a number exactly where it is a JSON number of that value, and the value is in range
abbrev pub SpellsItsNumber : Type 0
SpellsItsNumber = (text : List ℕ) (m : ℤ) → (number_in_text text ≡ Some m) ↔ (Reads text m × IsNumber m)

-- where each of its arguments has a value, `if` gives what the table says
abbrev pub IfOfValues : Type 0
IfOfValues = (args : List Cell) → called code_of_if (map Some args) ≡ builtin code_of_if args
