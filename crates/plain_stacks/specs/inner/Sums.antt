-- Sums before values as they run, and rows by the sums of their partitions.
use Rattle.std.specs.Prelude.{◌≡◌, ℕ, ◌<◌, ℤ, pos, ◌+ℤ◌, ◌-ℤ◌, int_lt, Option, Some, None, List, [], ◌∷◌, map, length, slice_index_or}
use Rattle.std.specs.Prelude.{if◌then◌else◌}
use Rattle.std.specs.Option.{option_map_or}
use Rattle.fixed_num.specs.Ranges.{in_range}
use Rattle.cell_value.specs.Datum.{Datum}
use Rattle.expr_eval.specs.Numbers.{the_number}
use Rattle.plain_rows.specs.declared.transforms.StackOf.{StackOf}
use Rattle.plain_rows.specs.declared.transforms.Offset.{Offset}
use Rattle.plain_rows.specs.declared.transforms.Offset.TheVariants.{Zero, Normalize, Center}
use Rattle.plain_groups.specs.Aggregates.{sum_of}
use Rattle.plain_orders.specs.Partitions.{datum_at}
use Rattle.plain_stacks.specs.declared.sums.Span.{Span}
use Rattle.plain_stacks.specs.declared.sums.Sums.{Sums}
use Rattle.plain_stacks.specs.Spans.{no_span, span_of}
use Rattle.plain_stacks.specs.Stacks.{row_span_with}

-- a value where it isn't negative, and where it is
abbrev pub upward : ℤ → ℤ
upward v = if int_lt v (pos 0) then pos 0 else v

abbrev pub downward : ℤ → ℤ
downward v = if int_lt v (pos 0) then v else pos 0

-- the sum before a value, by the sums of the values of both sides before it
abbrev pub chosen : Offset → ℤ → ℤ → ℤ → ℤ
chosen Zero up down v = if int_lt v (pos 0) then down else up
chosen Normalize up down v = up -ℤ down
chosen Center up down v = up -ℤ down

-- the sums before values
abbrev pub befores : Offset → ℤ → ℤ → List ℤ → List (Option ℤ)
befores offset up down [] = []
befores offset up down (v ∷ vs) = in_range (chosen offset up down v) ∷ befores offset (up +ℤ upward v) (down +ℤ downward v) vs

-- the sums of a partition
abbrev pub sums_of : Offset → List ℤ → Sums
sums_of offset vs = record {
  before = befores offset (pos 0) (pos 0) vs;
  whole = in_range (sum_of (map upward vs) -ℤ sum_of (map downward vs));
}

-- the values at places
abbrev pub values_at : List ℤ → List ℕ → List ℤ
values_at amounts places = map (λ place. slice_index_or amounts place (pos 0)) places

-- the sums at a place
abbrev pub sums_at : List Sums → ℕ → Sums
sums_at sums place = slice_index_or sums place (record { before = []; whole = None })

-- where the value of a row begins and ends by the sums of its partition
abbrev pub span_by : StackOf → Datum → Sums → ℕ → Option ℤ → Option Span
span_by s row sums rank greatest =
    option_map_or (span_of s.offset (slice_index_or sums.before rank None) sums.whole greatest) (the_number (row.cell s.field))
    (Some no_span)

-- each row has sums that give where its value begins and ends
pub record AreSummed (s : StackOf) (rows : List Datum) (homes ranks : List ℕ) (sums : List Sums) (greatest : Option ℤ) : Type 0 where
  pub homes_long : length homes ≡ length rows
  pub ranks_long : length ranks ≡ length rows
  pub home : (i : ℕ) → i < length rows → slice_index_or homes i 0 < length sums
  pub rank : (i : ℕ) → i < length rows → slice_index_or ranks i 0 < length (sums_at sums (slice_index_or homes i 0)).before
  pub span : (i : ℕ) → i < length rows
      → span_by s (datum_at rows i) (sums_at sums (slice_index_or homes i 0)) (slice_index_or ranks i 0) greatest
      ≡ row_span_with s greatest rows (datum_at rows i)
