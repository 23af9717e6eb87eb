-- The rows of sources, each read with its file. No public clause cites this.
use Rattle.std.specs.Prelude.{ℕ, List, Result, Ok, if◌then◌else◌}
use Rattle.std.specs.Result.{result_map_both}
use Rattle.fixed_num.specs.Steps.{◌>>=◌}
use Rattle.json_exact.specs.declared.json.Json.{Json}
use Rattle.chart_io.specs.Outside.{Files}
use Rattle.cell_value.specs.declared.state.ChartState.{ChartState}
use Rattle.cell_value.specs.Row.{Cells}
use Rattle.data_rows.specs.Outcome.{Bad}
use Rattle.data_rows.specs.JsonRows.{rows_of_json}
use Rattle.data_rows.specs.CsvRows.{rows_of_csv}
use Rattle.vega_spec.specs.declared.data.DataSet.{DataSet}
use Rattle.vega_spec.specs.declared.spec.VgSpec.{VgSpec}
use Rattle.chart_opening.specs.declared.refusal.Refusal.{Refusal}
use Rattle.chart_opening.specs.declared.refusal.Refusal.TheVariants as refusal
use Rattle.chart_opening.specs.Texts.{Reading}
use Rattle.chart_opening.specs.Files.{bytes_of}
use Rattle.chart_opening.specs.Sources.{is_csv, parse_of, bad_row, given_by, rows_by, all_of}
use Rattle.chart_opening.specs.Opening.{state_within}

-- the rows that were read of a source, or the refusal of the first that is bad
abbrev pub rows_or_bad : DataSet → Result (List Cells) Bad → Result (List Cells) Refusal
rows_or_bad set rows = result_map_both (λ rows. rows) (bad_row set.name) rows

-- the rows of a source whose values the specification has
abbrev pub rows_of_values : DataSet → Json → Result (List Cells) Refusal
rows_of_values set values = rows_or_bad set (rows_of_json (parse_of set) values)

-- the rows of a source of these bytes of CSV
abbrev pub rows_of_table : DataSet → List ℕ → Result (List Cells) Refusal
rows_of_table set bytes = rows_or_bad set (rows_of_csv (parse_of set) bytes)

-- the rows of a source of these bytes of JSON, in a file of this name; or the refusal of the file, where they are no JSON text
abbrev pub rows_in_text : Reading → DataSet → List ℕ → List ℕ → Result (Result (List Cells) Refusal) Refusal
rows_in_text reading set name bytes = result_map_both (rows_of_values set) (λ place. refusal.Json name place) (reading bytes)

-- the rows of a source of these bytes, in a file of this name
abbrev pub rows_of_file : Reading → DataSet → List ℕ → List ℕ → Result (Result (List Cells) Refusal) Refusal
rows_of_file reading set name bytes = if is_csv set then Ok (rows_of_table set bytes) else rows_in_text reading set name bytes

-- the rows of a source whose file has this name
abbrev pub read_rows : Reading → Files → DataSet → List ℕ → Result (Result (List Cells) Refusal) Refusal
read_rows reading files set name = bytes_of files name >>= rows_of_file reading set name

-- the rows of a source, or the refusal of its first bad row, where its file is read
abbrev pub read_by : Reading → Files → DataSet → Result (Result (List Cells) Refusal) Refusal
read_by reading files set = result_map_both (λ given. rows_by (set, given)) (λ why. why) (given_by reading files set)

-- the state of a specification of whose sources this is read
abbrev pub state_read : VgSpec → List (Result (List Cells) Refusal) → Result ChartState Refusal
state_read g read = do
  rows ← all_of read
  state_within g rows
