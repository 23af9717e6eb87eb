-- How rows of CSV go on, field by field and record by record.
use Rattle.std.proofs.Common.{◌≡◌, ℕ, suc, ◌+◌, Bool, true, false, ◌&&◌, Result, Ok, Err, List, [], ◌∷◌, ◌++◌, length, map, nat_eq, refl}
use Rattle.std.proofs.Common.{sym, ap, ◌∙◌, add-one, append_assoc, length-append, if◌then◌else◌}
use Rattle.std.specs.Prelude.{IsErrOf}
use Rattle.std.specs.List.{list_all}
use Rattle.std.specs.Str.{is_utf8}
use Rattle.std.specs.Result.{result_map_both}
use Rattle.cell_value.specs.Row.{row_of}
use Rattle.data_rows.specs.declared.error.RowError.{RowError}
use Rattle.data_rows.specs.declared.error.RowError.TheVariants.{Fault, Memory}
use Rattle.data_rows.specs.declared.kinds.ParseKind.{ParseKind}
use Rattle.data_rows.specs.declared.records.RecordError.{RecordError}
use Rattle.data_rows.specs.declared.records.RecordError.TheVariants as cause
use Rattle.data_rows.specs.Outcome.{Bad, GivesRows, all_rows, after_row, numbered}
use Rattle.data_rows.specs.CsvRows.{Column, all_fields, cells_under, columns_of, record_row, rows_of_records}
use Rattle.data_rows.specs.inner.Ahead.{rows_then, stopped}
use Rattle.data_rows.specs.inner.Records.{IsNoText}

module _ {X Y : Type 0} (f : X → Result Y (List ℕ)) where
  first_is : (n : ℕ) (x : X) (xs : List X) (row : Y) (r : Result Y (List ℕ)) → f x ≡ r → numbered n r ≡ Ok row
      → all_rows n (map f (x ∷ xs)) ≡ after_row row (all_rows (suc n) (map f xs))
  first_is n x xs row (Ok y) e is = ap (λ r. all_rows n (r ∷ map f xs)) e ∙ ap (λ y. after_row y (all_rows (suc n) (map f xs))) cc
  first_is n x xs row (Err field) e is = absurd cc

  moved_row : (rows : List Y) (row : Y) (r : Result (List Y) Bad) → rows_then rows (after_row row r) ≡ rows_then (rows ++ row ∷ []) r
  moved_row rows row (Ok others) = ap Ok (sym (append_assoc rows (row ∷ []) others))
  moved_row rows row (Err bad) = refl

  -- one row more
  pub one_row : (n : ℕ) (left : List X) (x : X) (others : List X) (rows : List Y) (row : Y) (whole : Result (List Y) Bad)
      → left ≡ x ∷ others → numbered n (f x) ≡ Ok row → rows_then rows (all_rows n (map f left)) ≡ whole
      → rows_then (rows ++ row ∷ []) (all_rows (n + 1) (map f others)) ≡ whole
  one_row n left x others rows row whole is good h =
      ap (λ m. rows_then (rows ++ row ∷ []) (all_rows m (map f others))) (add-one n)
      ∙ sym (moved_row rows row (all_rows (suc n) (map f others)))
      ∙ ap (rows_then rows) (sym (first_is n x others row (f x) refl good))
      ∙ ap (λ l. rows_then rows (all_rows n (map f l))) (sym is) ∙ h

  length_more : (rows : List Y) (row : Y) → length (rows ++ row ∷ []) ≡ length rows + 1
  length_more rows row = length-append rows (row ∷ [])

  -- one row more, numbered by the rows before it
  pub next_row : (left : List X) (x : X) (others : List X) (rows next : List Y) (row : Y) (whole : Result (List Y) Bad)
      → left ≡ x ∷ others → numbered (length rows) (f x) ≡ Ok row → next ≡ rows ++ row ∷ []
      → rows_then rows (all_rows (length rows) (map f left)) ≡ whole → rows_then next (all_rows (length next) (map f others)) ≡ whole
  next_row left x others rows next row whole is good e h =
      ap (λ l. rows_then l (all_rows (length l) (map f others))) e
      ∙ ap (λ n. rows_then (rows ++ row ∷ []) (all_rows n (map f others))) (length_more rows row)
      ∙ one_row (length rows) left x others rows row whole is good h

  first_bad : (n : ℕ) (x : X) (xs : List X) (rows : List Y) (whole : Result (List Y) Bad) (error : RowError) (r : Result Y (List ℕ)) → f x ≡ r
      → GivesRows {X = Y} (Err error) (numbered n r) → rows_then rows (all_rows n (map f (x ∷ xs))) ≡ whole → GivesRows {X = List Y} (Err error) whole
  first_bad n x xs rows whole Memory r e bad h = tt
  first_bad n x xs rows whole (Fault row field) (Ok y) e bad h = absurd cc
  first_bad n x xs rows whole (Fault row field) (Err g) e bad h =
      sym h ∙ ap (λ r. rows_then rows (all_rows n (r ∷ map f xs))) e ∙ cc bad

  -- a row that is bad
  pub bad_row : (n : ℕ) (left : List X) (x : X) (others : List X) (rows : List Y) (whole : Result (List Y) Bad) (error : RowError)
      → left ≡ x ∷ others → GivesRows {X = Y} (Err error) (numbered n (f x))
      → rows_then rows (all_rows n (map f left)) ≡ whole → GivesRows {X = List Y} (Err error) whole
  bad_row n left x others rows whole error is bad h =
      first_bad n x others rows whole error (f x) refl bad (ap (λ l. rows_then rows (all_rows n (map f l))) (sym is) ∙ h)

no_text_row : (columns : List Column) (fields : List (List ℕ)) → list_all is_utf8 fields ≡ false → record_row columns fields ≡ Err []
no_text_row columns fields e =
    ap (λ b. if b && nat_eq (length fields) (length columns) then result_map_both row_of (λ bad. bad) (all_fields (cells_under columns fields)) else Err []) e

-- a record that isn't there, or is no text
pub no_record_row : (columns : List Column) (n : ℕ) (left : List (List (List ℕ))) (rows : List _) (whole : _) (error : RecordError)
    → (IsErrOf {T = Bool} (Err error) cause.NoText → IsNoText left)
    → rows_then rows (all_rows n (map (record_row columns) left)) ≡ whole → GivesRows (Err (stopped n error)) whole
no_record_row columns n left rows whole cause.Memory f h = tt
no_record_row columns n left rows whole cause.NoText f h =
    let (fields, others, is, bad) = f refl in
    bad_row (record_row columns) n left fields others rows whole (Fault n []) is (ap (numbered n) (no_text_row columns fields bad)) h

-- a header that is text
pub header_read : (parse : List (List ℕ × ParseKind)) (left : List (List (List ℕ))) (names : List (List ℕ)) (others : List (List (List ℕ)))
    → left ≡ names ∷ others → list_all is_utf8 names ≡ true → rows_of_records parse left ≡ all_rows 0 (map (record_row (columns_of parse names)) others)
header_read parse left names others is text =
    ap (rows_of_records parse) is ∙ ap (λ b. if b then all_rows 0 (map (record_row (columns_of parse names)) others) else Err (0, [])) text

-- a header that isn't there, or is no text
pub no_header : (parse : List (List ℕ × ParseKind)) (left : List (List (List ℕ))) (error : RecordError)
    → (IsErrOf {T = Bool} (Err error) cause.NoText → IsNoText left) → GivesRows (Err (stopped 0 error)) (rows_of_records parse left)
no_header parse left cause.Memory f = tt
no_header parse left cause.NoText f =
    let (names, others, is, bad) = f refl in
    ap (rows_of_records parse) is ∙ ap (λ b. if b then all_rows 0 (map (record_row (columns_of parse names)) others) else Err (0, [])) bad
