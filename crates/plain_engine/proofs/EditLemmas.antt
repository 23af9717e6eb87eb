-- Why edits make of rows what a change says.
use Rattle.std.proofs.Common.{◌≡◌, ℕ, ◌+◌, Bool, true, false, cond, not, ◌&&◌, Option, Some, None, List, [], ◌∷◌, ◌++◌, length, map}
use Rattle.std.proofs.Common.{refl, sym, ap, ◌∙◌, ◌≤◌, arith, append_assoc, length-append}
use Rattle.std.specs.Prelude.{unwrap_or, if◌then◌else◌, pos, ◌*◌}
use Rattle.std.specs.List.{filter_map}
use Rattle.std.specs.Option.{option_map, option_to_list}
use Rattle.std.specs.FinMap.{insert, get, get-insert}
use Rattle.std.proofs.lemmas.Cmp.{nat_list_cmp_total}
use Rattle.std.specs.Cmp.Lexicographic.{texts_ties}
use Rattle.std.specs.Str.{bytes_eq}
use Rattle.std.proofs.lemmas.List.{append-nil, map-append}
use Rattle.fixed_num.specs.Number.{million}
use Rattle.cell_value.specs.declared.cell.Cell.{Cell}
use Rattle.cell_value.specs.declared.cell.Cell.TheVariants.{Null, Number}
use Rattle.cell_value.specs.declared.state.Keyed.{Keyed}
use Rattle.cell_value.specs.Datum.{Datum, datum_of, cell_at, id_name}
use Rattle.expr_eval.specs.Values.{Values}
use Rattle.param_flow.specs.declared.command.ChangeOf.{ChangeOf}
use Rattle.param_flow.specs.declared.command.Modify.{Modify as Entry}
use Rattle.fixed_num.specs.Ranges.{◌>>=◌, all_found}
use Rattle.cell_value.specs.Datum.{datum_with}
use Rattle.param_flow.specs.Change.{with_cells, setting_of, row_after, rows_after, count_staying}
use Rattle.param_flow.proofs.RowsLemmas.{before, rows_after_next, one_if, is_gone, stays_is, count_next}
use Rattle.plain_engine.specs.declared.edits.Edit.{Edit}
use Rattle.plain_engine.specs.declared.edits.Edit.TheVariants.{Stay, Remove, Modify}
use Rattle.plain_engine.specs.declared.edits.Edits.{Edits}
use Rattle.plain_engine.specs.inner.Edits.{after_edit, edited, data_edited, with_edit, with_setting}

by_tests : (is_id is_named : Bool) (id cell : Cell) (old : Option Cell)
    → (if is_id then id else unwrap_or (cond is_named (Some cell) old) Null)
    ≡ (if is_named && not is_id then cell else (if is_id then id else unwrap_or old Null))
by_tests true true id cell old = refl
by_tests true false id cell old = refl
by_tests false true id cell old = refl
by_tests false false id cell old = refl

-- a row with a cell under a name
abbrev pub row_with : List ℕ → Cell → Keyed → Keyed
row_with name cell keyed = record { key = keyed.key; row = insert keyed.row name cell }

reads_at : (name : List ℕ) (cell : Cell) (keyed : Keyed) (other : List ℕ)
    → cell_at (row_with name cell keyed) other ≡ (datum_with name cell (datum_of keyed)).cell other
reads_at name cell keyed other =
    let id : Cell = Number (pos (keyed.key.id * million)) in
    ap (λ o. if bytes_eq other id_name then id else unwrap_or o Null) (get-insert nat_list_cmp_total keyed.row name cell other)
    ∙ ap (λ b. if bytes_eq other id_name then id else unwrap_or (cond b (Some cell) (get keyed.row other)) Null) (sym (texts_ties other
    name))
    ∙ by_tests (bytes_eq other id_name) (bytes_eq other name) id cell (get keyed.row other)

-- a row in which a cell was set, as it is read
pub set_is_read : (name : List ℕ) (cell : Cell) (keyed : Keyed)
    → datum_of (row_with name cell keyed) ≡ datum_with name cell (datum_of keyed)
set_is_read name cell keyed = λ i. record { key = keyed.key; cell = λ other. reads_at name cell keyed other i }

id_alone : (is_id : Bool) (cell old : Cell) → old ≡ (if is_id && not is_id then cell else old)
id_alone true cell old = refl
id_alone false cell old = refl

-- the id can't be set
pub id_stays : (name : List ℕ) (cell : Cell) (row : Datum) → name ≡ id_name → row ≡ datum_with name cell row
id_stays name cell row is =
    (λ i. record { key = row.key; cell = λ other. id_alone (bytes_eq other id_name) cell (row.cell other) i })
    ∙ ap (λ name. datum_with name cell row) (sym is)

-- what is left of the entries, over what the ones before them made of a row
abbrev pub settings_left : Values → Datum → List Entry → Datum → Option Datum
settings_left values old entries now =
    all_found (map (setting_of values old) entries) >>= λ settings. Some (with_cells (filter_map (λ setting. setting) settings) now)

next_setting : (found : Option (List ℕ × Cell)) (more : Option (List (Option (List ℕ × Cell)))) (now : Datum)
    → ((more >>= λ settings. Some (found ∷ settings)) >>= λ settings. Some (with_cells (filter_map (λ setting. setting) settings) now))
    ≡ (more >>= λ settings. Some (with_cells (filter_map (λ setting. setting) settings) (with_setting found now)))
next_setting None None now = refl
next_setting None (Some settings) now = refl
next_setting (Some setting) None now = refl
next_setting (Some setting) (Some settings) now = refl

module _ (values : Values) (old now : Datum) (entry : Entry) (entries : List Entry) where
  entry_found : (found : Option (Option (List ℕ × Cell))) (next : Datum) → setting_of values old entry ≡ found
      → option_map (λ setting. with_setting setting now) found ≡ Some next
      → settings_left values old (entry ∷ entries) now ≡ settings_left values old entries next
  entry_found None next is h = absurd (cc)
  entry_found (Some setting) next is h =
      let same : with_setting setting now ≡ next = cc in
      rw is (next_setting setting (all_found (map (setting_of values old) entries)) now) ∙ ap (settings_left values old entries) same

  -- one entry more
  pub entry_done : (next : Datum) → option_map (λ setting. with_setting setting now) (setting_of values old entry) ≡ Some next
      → settings_left values old (entry ∷ entries) now ≡ settings_left values old entries next
  entry_done next h = entry_found (setting_of values old entry) next refl h

  lacking : (found : Option (Option (List ℕ × Cell))) → setting_of values old entry ≡ found
      → option_map (λ setting. with_setting setting now) found ≡ None
      → settings_left values old (entry ∷ entries) now ≡ None
  lacking None is h = rw is refl
  lacking (Some setting) is h = absurd (cc)

  -- a value of an entry is out of range
  pub entry_stops : option_map (λ setting. with_setting setting now) (setting_of values old entry) ≡ None
      → settings_left values old (entry ∷ entries) now ≡ None
  entry_stops h = lacking (setting_of values old entry) refl h

-- what edits so far and the rest make of rows
abbrev pub data_so_far : Bool → List Edit → List Keyed → Option (List Datum) → Option (List Datum)
data_so_far overflows each rows more = if overflows then None else option_map (λ rest. map datum_of (edited each rows) ++ rest) more

one_edit_more : (each : List Edit) (rows : List Keyed) (edit : Edit) (row : Keyed) → length each ≡ length rows
    → edited (each ++ edit ∷ []) (rows ++ row ∷ []) ≡ edited each rows ++ option_to_list (after_edit edit row)
one_edit_more [] [] edit row e = append-nil _
one_edit_more [] (x ∷ rows) edit row e = absurd (omega (arith, e))
one_edit_more (x ∷ each) [] edit row e = absurd (omega (arith, e))
one_edit_more (first ∷ each) (x ∷ rows) edit row e =
    let rest = one_edit_more each rows edit row (omega (arith, e)) in
    ap (λ more. option_to_list (after_edit first x) ++ more) rest
    ∙ sym (append_assoc (option_to_list (after_edit first x)) (edited each rows) (option_to_list (after_edit edit row)))

data_of_option : (found : Option Keyed) → map datum_of (option_to_list found) ≡ option_to_list (option_map datum_of found)
data_of_option None = refl
data_of_option (Some row) = refl

added_on : (done first : List Datum) (more : Option (List Datum))
    → option_map (λ rest. done ++ rest) (option_map (λ rest. first ++ rest) more) ≡ option_map (λ rest. (done ++ first) ++ rest) more
added_on done first None = refl
added_on done first (Some rest) = ap Some (sym (append_assoc done first rest))

module _ (each : List Edit) (rows : List Keyed) (row : Keyed) (few : length each ≡ length rows) where
  -- one edit more
  known : (overflows : Bool) (edit : Edit) (more : Option (List Datum))
      → data_so_far overflows each rows (before (Some (option_map datum_of (after_edit edit row))) more)
      ≡ data_so_far overflows (each ++ edit ∷ []) (rows ++ row ∷ []) more
  known true edit more = refl
  known false edit more =
      let read = ap (map datum_of) (one_edit_more each rows edit row few)
      ∙ map-append datum_of (edited each rows) (option_to_list (after_edit edit row))
      ∙ ap (λ first. map datum_of (edited each rows) ++ first) (data_of_option (after_edit edit row)) in
      added_on (map datum_of (edited each rows)) (option_to_list (option_map datum_of (after_edit edit row))) more
      ∙ ap (λ done. option_map (λ rest. done ++ rest) more) (sym read)

  out_of_range : (overflows : Bool) (more : Option (List Datum)) → data_so_far overflows each rows (before None more) ≡ None
  out_of_range true more = refl
  out_of_range false more = refl

-- the next edit of edits
abbrev pub shown : Option Edit → Keyed → Option (Option Datum)
shown next row = option_map (λ edit. option_map datum_of (after_edit edit row)) next

next_known : (edits : Edits) (rows : List Keyed) (row : Keyed) (next : Option Edit) (more : Option (List Datum))
    → length edits.each ≡ length rows
    → data_so_far edits.overflows edits.each rows (before (shown next row) more)
    ≡ data_so_far (with_edit edits next).overflows (with_edit edits next).each (rows ++ row ∷ []) more
next_known edits rows row None more few = out_of_range edits.each rows row few edits.overflows more
next_known edits rows row (Some Stay) more few = known edits.each rows row few edits.overflows Stay more
next_known edits rows row (Some Remove) more few = known edits.each rows row few edits.overflows Remove more
next_known edits rows row (Some (Modify new)) more few = known edits.each rows row few edits.overflows (Modify new) more

module _ (values : Values) (change : ChangeOf) where
  -- the invariant of the data after one row more
  pub data_go_on : (edits : Edits) (rows : List Keyed) (row : Keyed) (rest : List Keyed) (next : Option Edit)
      → length edits.each ≡ length rows
      → shown next row ≡ row_after values change (datum_of row)
      → data_so_far edits.overflows edits.each rows (rows_after values change (map datum_of (row ∷ rest)))
      ≡ data_so_far (with_edit edits next).overflows (with_edit edits next).each (rows ++ row ∷ []) (rows_after values change (map
      datum_of rest))
  data_go_on edits rows row rest next few is =
      let more = rows_after values change (map datum_of rest) in
      ap (data_so_far edits.overflows edits.each rows) (rows_after_next values change (datum_of row) (map datum_of rest)
      ∙ ap (λ found. before found more) (sym is))
      ∙ next_known edits rows row next more few

  -- and at the end
  pub data_at_end : (edits : Edits) (rows : List Keyed)
      → data_so_far edits.overflows edits.each rows (rows_after values change []) ≡ data_edited edits rows
  data_at_end edits rows = ap (λ rows. if edits.overflows then None else Some rows) (append-nil (map datum_of (edited edits.each rows)))

staying_next : (edits : Edits) (row : Keyed) (next : Option Edit)
    → (with_edit edits next).staying ≡ edits.staying + one_if (not (is_gone (shown next row)))
staying_next edits row None = refl
staying_next edits row (Some Stay) = refl
staying_next edits row (Some Remove) = omega arith
staying_next edits row (Some (Modify new)) = refl

-- the invariant of the count after one row more
pub count_goes_on : (values : Values) (change : ChangeOf) (edits : Edits) (row : Keyed) (rest : List Keyed) (next : Option Edit)
    → shown next row ≡ row_after values change (datum_of row)
    → edits.staying + count_staying values change.remove (map datum_of (row ∷ rest))
    ≡ (with_edit edits next).staying + count_staying values change.remove (map datum_of rest)
count_goes_on values change edits row rest next is =
    let one = ap (λ found. one_if (not (is_gone found))) is ∙ ap one_if (sym (stays_is values change (datum_of row))) in
    let more = count_next values change (datum_of row) (map datum_of rest) in
    let step = staying_next edits row next in
    omega (arith, one, more, step)

-- the lists after one row more
pub length_goes_on : (edits : Edits) (next : Option Edit) → length (with_edit edits next).each ≡ length edits.each + 1
length_goes_on edits None = length-append edits.each _
length_goes_on edits (Some Stay) = length-append edits.each _
length_goes_on edits (Some Remove) = length-append edits.each _
length_goes_on edits (Some (Modify new)) = length-append edits.each _

pub few_go_on : (edits : Edits) (next : Option Edit) → (with_edit edits next).staying ≤ edits.staying + 1
few_go_on edits None = omega arith
few_go_on edits (Some Stay) = omega arith
few_go_on edits (Some Remove) = omega arith
few_go_on edits (Some (Modify new)) = omega arith
