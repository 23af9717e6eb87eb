-- What was read, before what is still to come.
use Rattle.std.specs.Prelude.{ℕ, Result, Ok, Err, List, [], ◌++◌}
use Rattle.data_rows.specs.Outcome.{Bad}
use Rattle.data_rows.specs.declared.error.RowError.{RowError}
use Rattle.data_rows.specs.declared.error.RowError.TheVariants as row
use Rattle.data_rows.specs.declared.records.RecordError.{RecordError}
use Rattle.data_rows.specs.declared.records.RecordError.TheVariants as cause

-- rows before others, where these are rows
abbrev pub rows_then : {X : Type 0} → List X → Result (List X) Bad → Result (List X) Bad
rows_then rows (Ok others) = Ok (rows ++ others)
rows_then rows (Err bad) = Err bad

-- why a row is not there, where its record isn't
abbrev pub stopped : ℕ → RecordError → RowError
stopped n cause.NoText = row.Fault n []
stopped n cause.Memory = row.Memory
