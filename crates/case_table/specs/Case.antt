-- Names and their codes.
use Rattle.std.specs.Prelude.{ℕ, List, Option, option_map, find, bytes_eq}
use Rattle.case_table.specs.declared.case.Case.{Case}

-- the code of the first case with this name
abbrev pub code_of : List Case → List ℕ → Option ℕ
code_of table name = option_map (λ (c : Case). c.code) (find (λ (c : Case). bytes_eq c.name.now name) table)
