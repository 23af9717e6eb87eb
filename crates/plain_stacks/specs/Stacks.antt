-- Rows with where their values begin and end in stacks.
use Rattle.std.specs.Prelude.{◌≡◌, refl, ℕ, ◌*◌, ℤ, pos, Option, Some, List, [], ◌∷◌, map, fold, unwrap_or, codes, if◌then◌else◌}
use Rattle.std.specs.Str.{bytes_eq}
use Rattle.std.specs.Option.{option_map, option_map_or}
use Rattle.std.specs.Int.{int_max}
use Rattle.fixed_num.specs.Number.{million, rounded, floor_quotient}
use Rattle.fixed_num.specs.Ranges.{all_found, in_range}
use Rattle.cell_value.specs.declared.cell.Cell.{Cell}
use Rattle.cell_value.specs.declared.cell.Cell.TheVariants.{Number, Text}
use Rattle.cell_value.specs.declared.state.Keyed.{Keyed}
use Rattle.cell_value.specs.Datum.{Datum, datum_of}
use Rattle.expr_eval.specs.Numbers.{the_number, number_or_null}
use Rattle.plain_rows.specs.declared.transforms.StackOf.{StackOf}
use Rattle.plain_rows.specs.declared.transforms.Offset.{Offset}
use Rattle.plain_rows.specs.declared.transforms.Offset.TheVariants.{Zero, Normalize, Center}
use Rattle.plain_rows.specs.Lookups.{with_cells, data_with_cells}
use Rattle.plain_groups.specs.Aggregates.{sum_of}
use Rattle.plain_orders.specs.Orders.{partition_of, rows_before}
use Rattle.plain_stacks.specs.declared.sums.Span.{Span}
use Rattle.plain_stacks.specs.Spans.{size, sum_before, no_span, span_of}

-- what a row adds to its stack: its number in the field, and nothing where its cell is of another kind
abbrev pub amount : List ℕ → Datum → ℤ
amount field row = unwrap_or (the_number (row.cell field)) (pos 0)

-- the whole of a partition: how long its values are together
abbrev pub whole_of : List ℕ → List Datum → ℤ
whole_of field partition = sum_of (map size (map (amount field) partition))

-- the greatest whole of the partitions of rows; None where one is out of range
abbrev pub greatest_whole : StackOf → List Datum → Option ℤ
greatest_whole s rows =
    option_map (fold int_max (pos 0)) (all_found (map (λ row. in_range (whole_of s.field (partition_of s.groupby s.sort rows row))) rows))

-- where the value of a row begins and ends among rows, with a greatest whole; None where a total that it needs is out of range
abbrev pub row_span_with : StackOf → Option ℤ → List Datum → Datum → Option Span
row_span_with s greatest rows row =
    let partition = partition_of s.groupby s.sort rows row in
    let before = map (amount s.field) (rows_before s.sort partition row) in
    option_map_or
    (span_of s.offset (in_range (sum_before s.offset before (amount s.field row))) (in_range (whole_of s.field partition)) greatest)
    (the_number (row.cell s.field)) (Some no_span)

-- the same with the greatest whole of the partitions of these rows
abbrev pub row_span : StackOf → List Datum → Datum → Option Span
row_span s rows row = row_span_with s (greatest_whole s rows) rows row

-- the start and the end of a span, under their names
abbrev pub span_cells : StackOf → Span → List (List ℕ × Cell)
span_cells s span = (s.out, number_or_null span.start) ∷ (s.out_end, number_or_null span.end) ∷ []

-- the rows, each with where its value begins and ends, with a greatest whole; None where one of them overflows
abbrev pub stacked_with : StackOf → Option ℤ → List Keyed → Option (List Keyed)
stacked_with s greatest rows = all_found (map (λ row. option_map (λ span. with_cells row (span_cells s span))
    (row_span_with s greatest (map datum_of rows) (datum_of row))) rows)

-- the same with the greatest whole of their partitions
abbrev pub stacked : StackOf → List Keyed → Option (List Keyed)
stacked s rows = stacked_with s (greatest_whole s (map datum_of rows)) rows

-- both of rows as they are read
abbrev pub data_stacked_with : StackOf → Option ℤ → List Datum → Option (List Datum)
data_stacked_with s greatest rows =
    all_found (map (λ row. option_map (λ span. data_with_cells row (span_cells s span)) (row_span_with s greatest rows row)) rows)

abbrev pub data_stacked : StackOf → List Datum → Option (List Datum)
data_stacked s rows = data_stacked_with s (greatest_whole s rows) rows

-- The rules at work.

abbrev units : ℕ → ℤ
units n = pos (n * million)

-- a row with cells in `a` and, else, a number
abbrev row_with : ℕ → List ℕ → ℕ → Datum
row_with id a v = record {
  key = record { id = id; branch = 0 };
  cell = λ name. if bytes_eq name (codes "a") then Text a else Number (units v);
}

-- A 3, A 1 and B 2
abbrev three_rows : List Datum
three_rows = row_with 1 (codes "A") 3 ∷ row_with 2 (codes "A") 1 ∷ row_with 3 (codes "B") 2 ∷ []

abbrev by_a : Offset → StackOf
by_a offset = record { field = codes "v"; groupby = codes "a" ∷ []; sort = []; offset = offset; out = codes "s"; out_end = codes "e" }

abbrev spans : Offset → List (Option Span)
spans offset = map (row_span (by_a offset) three_rows) three_rows

abbrev in_full : ℤ → ℤ → Option Span
in_full a b = Some (record { start = Some a; end = Some b })

in_the_middle : spans Center ≡ in_full (pos 0) (units 3) ∷ in_full (units 3) (units 4) ∷ in_full (units 1) (units 3) ∷ []
unfolding rounded floor_quotient
in_the_middle = refl

as_parts : spans Normalize ≡ in_full (pos 0) (pos 750000) ∷ in_full (pos 750000) (units 1) ∷ in_full (pos 0) (units 1) ∷ []
unfolding rounded floor_quotient
as_parts = refl

-- among stacks of which the greatest is 6
in_the_middle_of_more : map (row_span_with (by_a Center) (Some (units 6)) three_rows) three_rows
    ≡ in_full (units 1) (units 4) ∷ in_full (units 4) (units 5) ∷ in_full (units 2) (units 4) ∷ []
unfolding rounded floor_quotient
in_the_middle_of_more = refl

from_zero : spans Zero ≡ in_full (pos 0) (units 3) ∷ in_full (units 3) (units 4) ∷ in_full (pos 0) (units 2) ∷ []
from_zero = refl
