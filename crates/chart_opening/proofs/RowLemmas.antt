-- The rows of a source are those that are read of its file's bytes.
use Rattle.std.proofs.Common.{◌≡◌, ℕ, Bool, true, false, Option, Some, None, List, [], Result, Ok, Err, refl, sym, ap, subst, ◌∙◌, if◌then◌else◌}
use Rattle.std.specs.Result.{result_map_both}
use Rattle.fixed_num.specs.Steps.{◌>>=◌}
use Rattle.json_exact.specs.declared.json.Json.{Json}
use Rattle.json_exact.specs.Reading.{Reads}
use Rattle.chart_io.specs.Outside.{Files}
use Rattle.cell_value.specs.Row.{Cells}
use Rattle.data_rows.specs.declared.kinds.ParseKind.{ParseKind}
use Rattle.data_rows.specs.declared.text_rows.TextError.{TextError}
use Rattle.data_rows.specs.declared.text_rows.TextError.TheVariants as text
use Rattle.data_rows.specs.JsonRows.{rows_of_json}
use Rattle.data_rows.specs.TextRows.{IsRowsOf}
use Rattle.vega_spec.specs.declared.data.DataSet.{DataSet}
use Rattle.chart_opening.specs.declared.refusal.Refusal.{Refusal}
use Rattle.chart_opening.specs.declared.refusal.Refusal.TheVariants as refusal
use Rattle.chart_opening.specs.declared.refusal.OpenStop.{OpenStop}
use Rattle.chart_opening.specs.Texts.{Reading}
use Rattle.chart_opening.specs.Files.{bytes_of, tree_in}
use Rattle.chart_opening.specs.Sources.{Tree, Table, is_csv, given_with, parse_of, bad_row, rows_given}
use Rattle.chart_opening.specs.inner.Folders.{IsRead}
use Rattle.chart_opening.specs.inner.Reading.{the_reading}
use Rattle.chart_opening.specs.inner.Rows.{rows_or_bad, rows_of_values, rows_of_table, rows_in_text, read_rows, read_by}
use Rattle.chart_opening.proofs.FolderLemmas.{quiet}
use Rattle.chart_opening.proofs.JsonLemmas.{read_is, fault_is}

module _ (set : DataSet) (name bytes : List ℕ) (parse : List (List ℕ × ParseKind)) (kinds : parse ≡ parse_of set) where
  -- what the tree gives that the bytes spell
  of_spelled : (tree : Json) → Reads bytes tree → rows_in_text the_reading set name bytes ≡ Ok (rows_or_bad set (rows_of_json parse tree))
  of_spelled tree reads =
      ap (result_map_both (rows_of_values set) (λ place. refusal.Json name place)) (read_is bytes tree reads)
      ∙ ap (λ k. Ok (rows_or_bad set (rows_of_json k tree))) (sym kinds)

  -- the rows of the bytes
  pub text_rows : (rows : List Cells) → IsRowsOf parse bytes (Ok rows) → rows_in_text the_reading set name bytes ≡ Ok (Ok rows)
  text_rows rows (tree, reads, is) = of_spelled tree reads ∙ ap (λ r. Ok (rows_or_bad set r)) is

  first_bad : (row : ℕ) (field : List ℕ) → IsRowsOf parse bytes (Err (text.Fault row field))
      → rows_in_text the_reading set name bytes ≡ Ok (Err (bad_row set.name (row, field)))
  first_bad row field (tree, reads, is) = of_spelled tree reads ∙ ap (λ r. Ok (rows_or_bad set r)) is

  -- their first bad row
  pub text_row : (why : TextError) (row : ℕ) (field : List ℕ) (said : Refusal) → why ≡ text.Fault row field → said ≡ bad_row set.name (row, field)
      → IsRowsOf parse bytes (Err why) → rows_in_text the_reading set name bytes ≡ Ok (Err said)
  text_row why row field said same refused of =
      let at : TextError → Type 0 = λ e. IsRowsOf parse bytes (Err e) in
      first_bad row field (subst at same of) ∙ ap (λ w. Ok (Err w)) (sym refused)

-- no rows, where the bytes are no JSON text
pub no_text : (set : DataSet) (name said bytes : List ℕ) (parse : List (List ℕ × ParseKind)) (why : TextError) (place : ℕ)
    → why ≡ text.Json place → said ≡ name → IsRowsOf parse bytes (Err why) → rows_in_text the_reading set name bytes ≡ Err (refusal.Json said place)
no_text set name said bytes parse why place same named of =
    let at : TextError → Type 0 = λ e. IsRowsOf parse bytes (Err e) in
    let is = subst at same of in
    ap (result_map_both (rows_of_values set) (λ p. refusal.Json name p)) (fault_is bytes place is.0 is.1)
    ∙ ap (λ n. Err (refusal.Json n place)) (sym named)

-- the rows of a source of these values and this file, by way of what is given
abbrev rows_with : Reading → Files → DataSet → Bool → Option Json → Option (List ℕ) → Result (Result (List Cells) Refusal) Refusal
rows_with reading files set csv values url =
    result_map_both (λ given. rows_or_bad set (rows_given (parse_of set) values given)) (λ why. why) (given_with reading files csv values url)

by_text : (set : DataSet) (name : List ℕ) (read : Result Json ℕ)
    → result_map_both (λ given. rows_or_bad set (rows_given (parse_of set) None given)) (λ why. why)
    (result_map_both Tree (λ why. why) (result_map_both (λ tree. tree) (λ place. refusal.Json name place) read))
    ≡ result_map_both (rows_of_values set) (λ place. refusal.Json name place) read
by_text set name (Ok tree) = refl
by_text set name (Err place) = refl

by_bytes : (csv : Bool) (reading : Reading) (set : DataSet) (name : List ℕ) (bytes : Result (List ℕ) Refusal)
    → result_map_both (λ given. rows_or_bad set (rows_given (parse_of set) None given)) (λ why. why)
    (if csv then result_map_both Table (λ why. why) bytes else result_map_both Tree (λ why. why) (bytes >>= λ b. tree_in reading name b))
    ≡ (bytes >>= λ b. if csv then Ok (rows_of_table set b) else rows_in_text reading set name b)
by_bytes true reading set name (Ok b) = refl
by_bytes false reading set name (Ok b) = by_text set name (reading b)
by_bytes true reading set name (Err why) = refl
by_bytes false reading set name (Err why) = refl

-- a source of a file
pub of_file : (a b : ℕ) (told tells : Option Files) (result : Result (Result (List Cells) Refusal) OpenStop) (set : DataSet)
    (name said : List ℕ) → set.values ≡ None → set.url ≡ Some name → said ≡ name
    → IsRead a b told tells result (λ files. read_rows the_reading files set said)
    → IsRead a b told tells result (λ files. read_by the_reading files set)
of_file a b told tells result set name said values url same read =
    let at : (Files → Result (Result (List Cells) Refusal) Refusal) → Type 0 = λ given. IsRead a b told tells result given in
    subst at (λ i files. each files i) read
  where
    each : (files : Files) → read_rows the_reading files set said ≡ read_by the_reading files set
    each files =
        ap (read_rows the_reading files set) same ∙ sym (by_bytes (is_csv set) the_reading set name (bytes_of files name))
        ∙ sym (λ i. rows_with the_reading files set (is_csv set) (values i) (url i))

module _ (a : ℕ) (told : Option Files) (set : DataSet) where
  of_no_file : (rows : Result (List Cells) Refusal) → ((files : Files) → Ok rows ≡ read_by the_reading files set)
      → IsRead a a told told (Ok rows) (λ files. read_by the_reading files set)
  of_no_file rows each =
      let at : (Files → Result (Result (List Cells) Refusal) Refusal) → Type 0 = λ given. IsRead a a told told (Ok rows) given in
      subst at (λ i files. each files i) (quiet a told (Ok rows) rows refl)

  -- a source whose rows the specification has
  pub of_values : (values : Json) (rows : Result (List Cells) Refusal) → set.values ≡ Some values → rows ≡ rows_of_values set values
      → IsRead a a told told (Ok rows) (λ files. read_by the_reading files set)
  of_values values rows is same =
      of_no_file rows (λ files. ap Ok same ∙ sym (λ i. rows_with the_reading files set (is_csv set) (is i) set.url))

  -- a source of no file
  pub of_nothing : (rows : List Cells) → set.values ≡ None → set.url ≡ None → rows ≡ []
      → IsRead a a told told (Ok (Ok rows)) (λ files. read_by the_reading files set)
  of_nothing rows values url none =
      of_no_file (Ok rows)
      (λ files. ap (λ r. Ok (Ok r)) none ∙ sym (λ i. rows_with the_reading files set (is_csv set) (values i) (url i)))
