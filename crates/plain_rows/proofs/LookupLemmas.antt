-- How a map of places finds the last row with a key, and what is read of rows that take cells.
use Rattle.std.proofs.Common.{◌≡◌, ℕ, ◌+◌, ◌<◌, ◌≤◌, Bool, true, false, cond, List, [], ◌∷◌, map, reverse, find, drop, length, get_or}
use Rattle.std.proofs.Common.{slice_get, Option, Some, None, option_map, Ok, Err, Result, IfOk, refl, sym, ap, ap₂, ◌∙◌, subst}
use Rattle.std.specs.Option.{option_and_then, option_or}
use Rattle.std.specs.Ordering.{is_eq}
use Rattle.std.specs.BTreeMap as tree
use Rattle.std.specs.Map.{lookup}
use Rattle.std.proofs.lemmas.Grind.{reverse_onto}
use Rattle.std.proofs.lemmas.List.{drop_more}
use Rattle.std.proofs.lemmas.List.Folds.{find-append}
use Rattle.std.proofs.lemmas.Option.{slice_get_read, slice_get_within, get_or_from_slice_get}
use Rattle.text_kit.specs.declared.memory.OutOfMemory.{OutOfMemory}
use Rattle.cell_value.specs.declared.state.Key.{Key}
use Rattle.cell_value.specs.declared.state.Keyed.{Keyed}
use Rattle.cell_value.specs.declared.cell.Cell.{Cell}
use Rattle.cell_value.specs.Cell.{cell_cmp, same_cells}
use Rattle.cell_value.specs.State.{greatest_id}
use Rattle.cell_value.specs.Datum.{Datum, datum_of, cell_at}
use Rattle.plain_rows.specs.declared.transforms.LookupOf.{LookupOf}
use Rattle.plain_rows.specs.Rows.{AreRows, AreKeys, keys_of}
use Rattle.plain_rows.specs.Calculations.{with_cell}
use Rattle.plain_rows.specs.Lookups.{last_with, taken, taken_by, with_cells, looked_up, data_with_cells, data_looked_up}
use Rattle.plain_rows.specs.inner.Places.{place_row, later}
use Rattle.plain_rows.proofs.Readings.{reads_with}
use Rattle.plain_rows.proofs.Keys.{small_id}

regroup : {X : Type 0} (a : Option X) (b : Bool) (x : X) (found : Option X)
    → option_or (option_or a (cond b (Some x) None)) found ≡ option_or a (cond b (Some x) found)
regroup None true x found = refl
regroup None false x found = refl
regroup (Some y) b x found = refl

-- the last row that passes is found in turn
pub in_turn : {X : Type 0} (key : X → Cell) (c : Cell) (rows : List X) (found : Option X) → later key c found rows ≡ option_or (last_with key c rows) found
in_turn key c [] found = refl
in_turn key c (x ∷ rows) found =
    in_turn key c rows (cond (same_cells (key x) c) (Some x) found)
    ∙ sym (ap (λ l. option_or (find (λ row. same_cells (key row) c) l) found) (reverse_onto rows x [])
    ∙ ap (λ o. option_or o found) (find-append (λ row. same_cells (key row) c) (reverse rows) (x ∷ []))
    ∙ regroup (last_with key c rows) (same_cells (key x) c) x found)

or_none : {X : Type 0} (o : Option X) → option_or o None ≡ o
or_none None = refl
or_none (Some x) = refl

pub none_yet : (key : Keyed → Cell) (c : Cell) (rows : List Keyed) (found : Option Keyed) → found ≡ None → later key c found rows ≡ last_with key c rows
none_yet key c rows found e = ap (λ o. later key c o rows) e ∙ in_turn key c rows None ∙ or_none (last_with key c rows)

pub empty_places : (places : tree.BTreeMap Cell ℕ) (rows : List Keyed) (c : Cell) → tree.IsEmpty places → place_row places rows c ≡ None
empty_places places rows c e = ap (λ entries. option_and_then (slice_get rows) (lookup (λ k. is_eq (cell_cmp c k)) entries)) e

chosen : (b : Bool) (at : ℕ) (old : Option ℕ) (rows : List Keyed) (row : Keyed) → slice_get rows at ≡ Some row
    → option_and_then (slice_get rows) (cond b (Some at) old) ≡ cond b (Some row) (option_and_then (slice_get rows) old)
chosen true at old rows row e = e
chosen false at old rows row e = refl

-- one place more
pub one_place : (key : Keyed → Cell) (rows : List Keyed) (at : ℕ) (row : Keyed) (old new : tree.BTreeMap Cell ℕ) (k c : Cell)
    → at < length rows → row ≡ get_or rows at row → k ≡ key row → tree.Updates cell_cmp old new k (Some at)
    → later key c (place_row old rows c) (drop at rows) ≡ last_with key c rows
    → later key c (place_row new rows c) (drop (at + 1) rows) ≡ last_with key c rows
one_place key rows at row old new k c lt is same updates h =
    ap (λ o. later key c (option_and_then (slice_get rows) o) (drop (at + 1) rows)) (updates.0 c)
    ∙ ap (λ o. later key c o (drop (at + 1) rows))
    (chosen (is_eq (cell_cmp k c)) at (tree.get cell_cmp old c) rows row (slice_get_read rows (length rows) at row refl lt is))
    ∙ ap (λ q. later key c (cond (same_cells q c) (Some row) (place_row old rows c)) (drop (at + 1) rows)) same
    ∙ ap (later key c (place_row old rows c)) (sym (drop_more rows at row lt ∙ ap (λ x. x ∷ drop (at + 1) rows) (sym is)))
    ∙ h

-- a row at a place has an id that rows may have
pub id_at : (rows : List Keyed) (at : ℕ) (row : Keyed) → AreRows rows → slice_get rows at ≡ Some row → row.key.id ≤ greatest_id
id_at rows at row are e = small_id rows at row are (slice_get_within rows at row e) (sym (get_or_from_slice_get rows at row row e))

found_at : (rows : List Keyed) (place : Option ℕ) (row : Keyed) → AreRows rows → option_and_then (slice_get rows) place ≡ Some row → row.key.id ≤ greatest_id
found_at rows None row are e = absurd cc
found_at rows (Some at) row are e = id_at rows at row are e

-- so has the row at the place of a key
pub id_of_place : (places : tree.BTreeMap Cell ℕ) (rows : List Keyed) (c : Cell) (row : Keyed)
    → AreRows rows → place_row places rows c ≡ Some row → row.key.id ≤ greatest_id
id_of_place places rows c row = found_at rows (tree.get cell_cmp places c) row

-- keys of rows that take cells
pub key_stays : (cells : List (List ℕ × Cell)) (keyed : Keyed) → (with_cells keyed cells).key ≡ keyed.key
key_stays [] keyed = refl
key_stays (cell ∷ cells) keyed = key_stays cells (with_cell cell.0 cell.1 keyed)

keys_stay : (how : LookupOf) (other rows : List Keyed) → keys_of (looked_up how other rows) ≡ keys_of rows
keys_stay how other [] = refl
keys_stay how other (row ∷ rows) = ap₂ (λ (key : Key) keys. key ∷ keys) (key_stays (taken_by cell_at how other row) row) (keys_stay how other rows)

pub looked_up_are_rows : (how : LookupOf) (other rows : List Keyed) → AreRows rows → (result : Result (List Keyed) OutOfMemory)
    → IfOk result (λ out. out ≡ looked_up how other rows) → IfOk result AreRows
looked_up_are_rows how other rows are (Ok out) e = subst AreRows (sym e) (subst AreKeys (sym (keys_stay how other rows)) are)
looked_up_are_rows how other rows are (Err e) h = tt

-- what is read of rows that take cells
pub reads_cells : (cells : List (List ℕ × Cell)) (keyed : Keyed) → datum_of (with_cells keyed cells) ≡ data_with_cells (datum_of keyed) cells
reads_cells [] keyed = refl
reads_cells (cell ∷ cells) keyed =
    reads_cells cells (with_cell cell.0 cell.1 keyed) ∙ ap (λ datum. data_with_cells datum cells) (sym (reads_with cell.0 cell.1 keyed))

seen_later : (field : List ℕ) (c : Cell) (rows : List Keyed) (found : Option Keyed)
    → later (λ (datum : Datum). datum.cell field) c (option_map datum_of found) (map datum_of rows)
    ≡ option_map datum_of (later (λ row. cell_at row field) c found rows)
seen_later field c [] found = refl
seen_later field c (row ∷ rows) found =
    ap (λ o. later (λ (datum : Datum). datum.cell field) c o (map datum_of rows)) (either (same_cells (cell_at row field) c) row found)
    ∙ seen_later field c rows (cond (same_cells (cell_at row field) c) (Some row) found)
  where
    either : (b : Bool) (row : Keyed) (found : Option Keyed)
        → cond b (Some (datum_of row)) (option_map datum_of found) ≡ option_map datum_of (cond b (Some row) found)
    either true row found = refl
    either false row found = refl

seen_last : (field : List ℕ) (c : Cell) (rows : List Keyed)
    → last_with (λ (datum : Datum). datum.cell field) c (map datum_of rows) ≡ option_map datum_of (last_with (λ row. cell_at row field) c rows)
seen_last field c rows =
    sym (in_turn (λ (datum : Datum). datum.cell field) c (map datum_of rows) None ∙ or_none _)
    ∙ seen_later field c rows None
    ∙ ap (option_map datum_of) (in_turn (λ row. cell_at row field) c rows None ∙ or_none _)

seen_taken : (how : LookupOf) (there : Option Keyed) → taken (λ (datum : Datum). datum.cell) how (option_map datum_of there) ≡ taken cell_at how there
seen_taken how None = refl
seen_taken how (Some row) = refl

pub lookup_reads : (how : LookupOf) (other rows : List Keyed)
    → map datum_of (looked_up how other rows) ≡ data_looked_up how (map datum_of other) (map datum_of rows)
lookup_reads how other [] = refl
lookup_reads how other (row ∷ rows) =
    let cells : taken_by (λ (datum : Datum). datum.cell) how (map datum_of other) (datum_of row) ≡ taken_by cell_at how other row =
    ap (taken (λ (datum : Datum). datum.cell) how) (seen_last how.key_there (cell_at row how.key_here) other)
    ∙ seen_taken how (last_with (λ there. cell_at there how.key_there) (cell_at row how.key_here) other) in
    ap₂ (λ (d : Datum) ds. d ∷ ds)
    (reads_cells (taken_by cell_at how other row) row ∙ ap (data_with_cells (datum_of row)) (sym cells)) (lookup_reads how other rows)
