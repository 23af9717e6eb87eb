-- Rows filled in the order of their names are those of the columns in turn.
use Rattle.std.proofs.Common.{◌≡◌, ℕ, suc, Bool, true, false, ◌&&◌, Option, Some, None, Ok, Err, List, [], ◌∷◌, ◌++◌, length, map}
use Rattle.std.proofs.Common.{slice_get, nat_eq, refl, sym, ap, ◌∙◌, add-one, append_assoc, arith, if◌then◌else◌}
use Rattle.std.specs.Prelude.{fold, find, zip, unwrap_or}
use Rattle.std.proofs.lemmas.List.{length-append}
use Rattle.std.proofs.lemmas.Bool.{eq-eqb}
use Rattle.std.specs.Option.{option_map}
use Rattle.std.specs.Result.{result_map_both}
use Rattle.std.specs.List.{list_all}
use Rattle.std.specs.Ordering.{nat_cmp}
use Rattle.std.specs.Cmp.Lexicographic.{slice_cmp, nat_list_cmp_total}
use Rattle.std.specs.Str.{bytes_eq, is_utf8}
use Rattle.std.specs.FinMap as map
use Rattle.cell_value.specs.declared.cell.Cell.{Cell}
use Rattle.cell_value.specs.Datum.{id_name}
use Rattle.cell_value.specs.Row.{Cells, row_of}
use Rattle.fixed_num.specs.Front.{decimal_at, parts_at, whole_at, digits_at}
use Rattle.data_rows.specs.declared.kinds.ParseKind.{ParseKind}
use Rattle.data_rows.specs.Outcome.{numbered}
use Rattle.data_rows.specs.Parse.{number_of}
use Rattle.data_rows.specs.CsvRows.{Column, cell_by, field_cell, with_field, all_fields, cells_under, record_row}
use Rattle.data_rows.specs.inner.Header.{KeptColumn, NumberRead, put_all, kept_from, kept_columns, is_out, bad_column, cell_read, kept_cell, cells_from}
use Rattle.data_rows.proofs.HeaderLemmas.{put_all_renewed}

-- The entries of a row.

entries_of_fold : (row : Cells) (cells : List (List ℕ × Cell))
    → map.entries (fold (λ row entry. map.insert row entry.0 entry.1) row cells) ≡ put_all (map.entries row) cells
entries_of_fold row [] = refl
entries_of_fold row (c ∷ cells) =
    entries_of_fold (map.insert row c.0 c.1) cells ∙ ap (λ l. put_all l cells) (map.entries-insert nat_list_cmp_total row c.0 c.1)

no_entries : {X : Type 0} (xs : List X) → 0 ≡ length xs → xs ≡ []
no_entries [] e = refl
no_entries (x ∷ xs) e = absurd cc

entries_of_row : (cells : List (List ℕ × Cell)) → map.entries (row_of cells) ≡ put_all [] cells
entries_of_row cells =
    entries_of_fold map.empty cells
    ∙ ap (λ l. put_all l cells) (no_entries _ (sym (map.len-empty (slice_cmp nat_cmp) Cell) ∙ map.len-entries map.empty))

-- Fields.

nothing : number_of [] ≡ None
unfolding number_of decimal_at parts_at whole_at digits_at
nothing = refl

field_known : (kind : Option ParseKind) (text : List ℕ) (n : NumberRead) → number_of text ≡ n → is_out n ≡ false
    → field_cell kind text ≡ Some (cell_read kind text n)
field_known kind [] n e h = ap (λ m. Some (cell_read kind [] m)) (sym nothing ∙ e)
field_known kind (b ∷ bytes) None e h = ap (cell_by kind (b ∷ bytes)) e
field_known kind (b ∷ bytes) (Some (Some m)) e h = ap (cell_by kind (b ∷ bytes)) e
field_known kind (b ∷ bytes) (Some None) e h = absurd cc

field_out : (kind : Option ParseKind) (text : List ℕ) → number_of text ≡ Some None → field_cell kind text ≡ None
field_out kind [] e = absurd cc (nothing, e)
field_out kind (b ∷ bytes) e = ap (cell_by kind (b ∷ bytes)) e

text_there : (done : List (List ℕ)) (f : List ℕ) (fs : List (List ℕ)) → slice_get (done ++ f ∷ fs) (length done) ≡ Some f
text_there [] f fs = refl
text_there (d ∷ done) f fs = text_there done f fs

number_there : (done : List (List ℕ)) (f : List ℕ) (fs : List (List ℕ)) → slice_get (map number_of (done ++ f ∷ fs)) (length done) ≡ Some (number_of f)
number_there [] f fs = refl
number_there (d ∷ done) f fs = number_there done f fs

-- The columns in turn.

abbrev found_in : Column → NumberRead → List Column → List NumberRead → Option (List ℕ)
found_in c n cs numbers = option_map (λ at. at.0.0) (find (λ at. is_out at.1) ((c, n) ∷ zip cs numbers))

-- a column whose field isn't out of range
passed : (c : Column) (n : NumberRead) (cs : List Column) (numbers : List NumberRead) → found_in c n cs numbers ≡ None
    → (is_out n ≡ false) × (bad_column cs numbers ≡ None)
passed c None cs numbers h = (refl, h)
passed c (Some (Some m)) cs numbers h = (refl, h)
passed c (Some None) cs numbers h = absurd cc

-- what is read in fields
abbrev filled : List (List ℕ) → List (List ℕ × KeptColumn) → List (List ℕ × Cell)
filled fields kept = cells_from fields (map number_of fields) kept

one_filled : (fields : List (List ℕ)) (n : ℕ) (c : Column) (cell : Cell) (others : List (List ℕ × KeptColumn)) (b : Bool)
    → kept_cell fields (map number_of fields) (n, c.1) ≡ cell
    → (if b then filled fields others else (c.0, cell) ∷ filled fields others)
    ≡ filled fields ((if b then [] else (c.0, (n, c.1)) ∷ []) ++ others)
one_filled fields n c cell others true e = refl
one_filled fields n c cell others false e = ap (λ x. (c.0, x) ∷ filled fields others) (sym e)

read_there : (done : List (List ℕ)) (f : List ℕ) (fs : List (List ℕ)) (kind : Option ParseKind)
    → kept_cell (done ++ f ∷ fs) (map number_of (done ++ f ∷ fs)) (length done, kind) ≡ cell_read kind f (number_of f)
read_there done f fs kind =
    ap (λ o. cell_read kind (unwrap_or o []) (unwrap_or (slice_get (map number_of (done ++ f ∷ fs)) (length done)) None)) (text_there done f fs)
    ∙ ap (λ o. cell_read kind f (unwrap_or o None)) (number_there done f fs)

first_field : (c : Column) (cell : Cell) (o : Option Cell) (others : List (List ℕ × Option Cell)) → o ≡ Some cell
    → all_fields ((c.0, o) ∷ others) ≡ result_map_both (with_field c.0 cell) (λ bad. bad) (all_fields others)
first_field c cell o others e = ap (λ o. all_fields ((c.0, o) ∷ others)) e

all_filled : (columns : List Column) (done fields : List (List ℕ)) → length fields ≡ length columns → bad_column columns (map number_of fields) ≡ None
    → all_fields (cells_under columns fields) ≡ Ok (filled (done ++ fields) (kept_from (length done) columns))
all_filled [] done fields e h = refl
all_filled (c ∷ cs) done [] e h = absurd cc
all_filled (c ∷ cs) done (f ∷ fs) e h =
    let known = passed c (number_of f) cs (map number_of fs) h in
    let cell = cell_read c.1 f (number_of f) in
    let whole = done ++ f ∷ fs in
    let same : length fs ≡ length cs = omega arith in
    first_field c cell (field_cell c.1 f) (cells_under cs fs) (field_known c.1 f (number_of f) refl known.0)
    ∙ ap (result_map_both (with_field c.0 cell) (λ bad. bad))
    (all_filled cs (done ++ f ∷ []) fs same known.1
    ∙ ap (λ l. Ok (filled l (kept_from (length (done ++ f ∷ [])) cs))) (append_assoc done (f ∷ []) fs)
    ∙ ap (λ n. Ok (filled whole (kept_from n cs))) (length-append done (f ∷ []) ∙ add-one (length done)))
    ∙ ap Ok (one_filled whole (length done) c cell (kept_from (suc (length done)) cs) (bytes_eq c.0 id_name) (read_there done f fs c.1))

one_bad : (c : Column) (cs : List Column) (f : List ℕ) (fs : List (List ℕ)) (name : List ℕ) (n : NumberRead) → number_of f ≡ n
    → (bad_column cs (map number_of fs) ≡ Some name → all_fields (cells_under cs fs) ≡ Err name)
    → found_in c n cs (map number_of fs) ≡ Some name → all_fields ((c.0, field_cell c.1 f) ∷ cells_under cs fs) ≡ Err name
one_bad c cs f fs name (Some None) e further h =
    ap (λ o. all_fields ((c.0, o) ∷ cells_under cs fs)) (field_out c.1 f e) ∙ cc h
one_bad c cs f fs name (Some (Some m)) e further h =
    first_field c (cell_read c.1 f (Some (Some m))) (field_cell c.1 f) (cells_under cs fs) (field_known c.1 f (Some (Some m)) e refl)
    ∙ ap (result_map_both (with_field c.0 (cell_read c.1 f (Some (Some m)))) (λ bad. bad)) (further h)
one_bad c cs f fs name None e further h =
    first_field c (cell_read c.1 f None) (field_cell c.1 f) (cells_under cs fs) (field_known c.1 f None e refl)
    ∙ ap (result_map_both (with_field c.0 (cell_read c.1 f None)) (λ bad. bad)) (further h)

first_out : (columns : List Column) (fields : List (List ℕ)) (name : List ℕ) → bad_column columns (map number_of fields) ≡ Some name
    → all_fields (cells_under columns fields) ≡ Err name
first_out [] fields name h = absurd cc
first_out (c ∷ cs) [] name h = absurd cc
first_out (c ∷ cs) (f ∷ fs) name h = one_bad c cs f fs name (number_of f) refl (first_out cs fs name) h

-- Rows.

good_record : (columns : List Column) (fields : List (List ℕ)) → list_all is_utf8 fields ≡ true → length fields ≡ length columns
    → record_row columns fields ≡ result_map_both row_of (λ bad. bad) (all_fields (cells_under columns fields))
good_record columns fields text same =
    ap (λ b. if b && nat_eq (length fields) (length columns)
    then result_map_both row_of (λ bad. bad) (all_fields (cells_under columns fields)) else Err []) text
    ∙ ap (λ b. if b then result_map_both row_of (λ bad. bad) (all_fields (cells_under columns fields)) else Err []) (eq-eqb _ _ same)

-- a row of which no field is out of range
pub filled_row : (n : ℕ) (columns : List Column) (fields : List (List ℕ)) (numbers : List NumberRead) (kept : List (List ℕ × KeptColumn)) (row : Cells)
    → list_all is_utf8 fields ≡ true → length fields ≡ length columns → numbers ≡ map number_of fields → kept ≡ kept_columns columns
    → bad_column columns numbers ≡ None → map.entries row ≡ cells_from fields numbers kept
    → numbered n (record_row columns fields) ≡ Ok row
filled_row n columns fields numbers kept row text same known order none is =
    let none : bad_column columns (map number_of fields) ≡ None = ap (bad_column columns) (sym known) ∙ none in
    let all = filled fields (kept_from 0 columns) in
    let right : map.entries row ≡ map.entries (row_of all) =
    is ∙ ap (λ l. cells_from fields l kept) known ∙ ap (filled fields) order
    ∙ sym (put_all_renewed (kept_cell fields (map number_of fields)) [] (kept_from 0 columns))
    ∙ sym (entries_of_row all) in
    ap (numbered n) (good_record columns fields text same ∙ ap (result_map_both row_of (λ bad. bad)) (all_filled columns [] fields same none))
    ∙ ap Ok (sym (map.same_entries_map row (row_of all) right))

-- a row of which a field is out of range
pub out_row : (n : ℕ) (columns : List Column) (fields : List (List ℕ)) (numbers : List NumberRead) (name : List ℕ)
    → list_all is_utf8 fields ≡ true → length fields ≡ length columns → numbers ≡ map number_of fields → bad_column columns numbers ≡ Some name
    → numbered n (record_row columns fields) ≡ Err (n, name)
out_row n columns fields numbers name text same known bad =
    ap (numbered n) (good_record columns fields text same
    ∙ ap (result_map_both row_of (λ bad. bad)) (first_out columns fields name (ap (bad_column columns) (sym known) ∙ bad)))
