use Rattle.std.proofs.Common.{◌≡◌, T, Some, None, List, ℕ, length, map, sym, subst, ap, ◌∙◌, rules, arith}
use Rattle.std.proofs.lemmas.Grind.{common_steps}
use Rattle.std.specs.Ordering.{nat_cmp}
use Rattle.std.specs.Cmp.Lexicographic.{slice_cmp}
use Rattle.std.specs.FinMap.{is_sorted, entries}
use Rattle.csv.specs.Records.{fields_of}
use Rattle.cell_value.specs.declared.cell.Cell.{Cell}
use Rattle.data_rows.specs.Parse.{number_of}
use Rattle.data_rows.specs.inner.Header.{bad_column, cells_from, kept_cell, kept_columns}
use Rattle.data_rows.proofs.HeaderLemmas.{kept_sorted, sorted_renewed}
use Rattle.data_rows.proofs.FillLemmas.{filled_row, out_row}
use Rattle.data_rows.proofs.csv_rows.record_row.Goals as goal

pub from_sorted-requires : goal.from_sorted-requires
from_sorted-requires c =
    let header = c.args.header.now in
    let sorted : List (List ℕ × Cell) → Type 0 = λ l. T (is_sorted (slice_cmp nat_cmp) l) in
    let is : c.in_ok-cells_from-in-None.field-0.items ≡ cells_from (fields_of c.args.fields.now) c.read_numbers.new.numbers header.kept =
    cc (c.in_ok-cells_from-in-None.ensures, c.as_slice-in-None.ensures, c.as_slice-in-None-2.ensures) in
    subst sorted (ap (cells_from (fields_of c.args.fields.now) c.read_numbers.new.numbers) (sym header.right) ∙ sym is)
    (sorted_renewed (kept_cell (fields_of c.args.fields.now) c.read_numbers.new.numbers) (kept_columns header.columns) (kept_sorted header.columns))

pub returns-in_ok-of-in-Some : goal.returns-in_ok-of-in-Some
returns-in_ok-of-in-Some c =
    let fields = fields_of c.args.fields.now in
    let columns = c.args.header.now.columns in
    let same : length fields ≡ length columns = first_of (search rules, grind (arith, common_steps)) in
    let known : c.read_numbers.new.numbers ≡ map number_of fields = c.in_ok-read_numbers.ensures in
    let bad : bad_column columns c.read_numbers.new.numbers ≡ Some c.in_ok-of-in-Some.field-0 =
    cc (c.in-Some.ensures, c.as_slice.ensures, c.as_slice-2.ensures, c.in_ok-of-in-Some.ensures) in
    out_row c.args.number columns fields c.read_numbers.new.numbers c.in_ok-of-in-Some.field-0 c.requires same known bad

pub returns-in_ok-from_sorted-in-None : goal.returns-in_ok-from_sorted-in-None
returns-in_ok-from_sorted-in-None c =
    let fields = fields_of c.args.fields.now in
    let header = c.args.header.now in
    let same : length fields ≡ length header.columns = first_of (search rules, grind (arith, common_steps)) in
    let known : c.read_numbers.new.numbers ≡ map number_of fields = c.in_ok-read_numbers.ensures in
    let none : bad_column header.columns c.read_numbers.new.numbers ≡ None = cc (c.in-None.ensures, c.as_slice.ensures, c.as_slice-2.ensures) in
    let is : entries c.in_ok-from_sorted-in-None.field-0 ≡ cells_from fields c.read_numbers.new.numbers header.kept =
    c.in_ok-from_sorted-in-None.ensures.entries ∙ cc (c.in_ok-cells_from-in-None.ensures, c.as_slice-in-None.ensures, c.as_slice-in-None-2.ensures) in
    filled_row c.args.number header.columns fields c.read_numbers.new.numbers header.kept
    c.in_ok-from_sorted-in-None.field-0 c.requires same known header.right none is
