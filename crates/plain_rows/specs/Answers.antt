-- Answers that are rows.
use Rattle.std.specs.Prelude.{List, map, Result, Ok, Err, Option}
use Rattle.cell_value.specs.declared.state.Keyed.{Keyed}
use Rattle.cell_value.specs.Datum.{Datum, datum_of}
use Rattle.expr_eval.specs.declared.error.EvalError.{EvalError}
use Rattle.expr_eval.specs.Answers.{Evaluates}

-- rows as they are read, where they were answered
abbrev pub data_in : Result (List Keyed) EvalError → Result (List Datum) EvalError
data_in (Ok rows) = Ok (map datum_of rows)
data_in (Err e) = Err e

-- What was answered reads as what the definition gives, or is `Overflow` exactly where it gives nothing, unless memory was refused.
abbrev pub GivesRows : Result (List Keyed) EvalError → Option (List Datum) → Type 0
GivesRows result given = Evaluates (data_in result) given
