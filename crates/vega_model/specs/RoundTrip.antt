-- What a specification has to be, to be read back as it was written.
use Rattle.std.specs.Prelude.{◌≡◌, ℕ, List, Some, length, ◌<◌}
use Rattle.case_table.specs.Names.{operations, time_units, scale_kinds}
use Rattle.expr_syntax.specs.declared.expr.Expr.{Expr}
use Rattle.expr_syntax.specs.Writing.{text_of}
use Rattle.expr_reading.specs.Readings.{expression_of}
use Rattle.vega_spec.specs.declared.spec.VgSpec.{VgSpec}
use Rattle.vega_model.specs.Codes.{Asked, OfSpec}

-- a code stands in a table
abbrev pub IsCode : List (List ℕ) → ℕ → Type 0
IsCode table code = code < length table

-- an expression is what its text reads as
abbrev pub IsReading : Expr → Type 0
IsReading e = expression_of (text_of e) ≡ Some e

abbrev pub asked_codes : Asked
asked_codes = record {
  operation = IsCode operations;
  unit = IsCode time_units;
  scale_type = IsCode scale_kinds;
  expression = λ e. Unit {0};
}

abbrev pub asked_readings : Asked
asked_readings = record {
  operation = λ code. Unit {0};
  unit = λ code. Unit {0};
  scale_type = λ code. Unit {0};
  expression = IsReading;
}

-- each code in a specification stands in its table
abbrev pub HasCodes : VgSpec → Type 0
HasCodes g = OfSpec asked_codes g

-- each expression in a specification is what its text reads as
abbrev pub HasReadings : VgSpec → Type 0
HasReadings g = OfSpec asked_readings g
