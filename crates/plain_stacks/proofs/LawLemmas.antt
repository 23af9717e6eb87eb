-- Why the laws of stacks hold.
use Rattle.std.proofs.Common.{◌≡◌, ◌≢◌, ℤ, List, map, Option, Some, refl, ap}
use Rattle.std.specs.Option.{option_map, option_map_or}
use Rattle.fixed_num.specs.Ranges.{all_found}
use Rattle.cell_value.specs.Datum.{Datum}
use Rattle.expr_eval.specs.Numbers.{the_number}
use Rattle.plain_rows.specs.declared.transforms.StackOf.{StackOf}
use Rattle.plain_rows.specs.declared.transforms.Offset.{Offset}
use Rattle.plain_rows.specs.declared.transforms.Offset.TheVariants.{Zero, Normalize, Center}
use Rattle.plain_rows.specs.Lookups.{data_with_cells}
use Rattle.plain_stacks.specs.declared.sums.Span.{Span}
use Rattle.plain_stacks.specs.Spans.{no_span, span_of}
use Rattle.plain_stacks.specs.Stacks.{row_span_with, span_cells}
use Rattle.plain_stacks.specs.Laws.{OwnGreatestGivesTheStacks, OnlyCentresNeedIt}

pub own_greatest : OwnGreatestGivesTheStacks
own_greatest s rows = refl

span_so : (offset : Offset) (b w g h : Option ℤ) → offset ≢ Center → span_of offset b w g ≡ span_of offset b w h
span_so Zero b w g h other = refl
span_so Normalize b w g h other = refl
span_so Center b w g h other = absurd (other refl)

row_so : (s : StackOf) (rows : List Datum) (g h : Option ℤ) → s.offset ≢ Center → (row : Datum)
    → row_span_with s g rows row ≡ row_span_with s h rows row
row_so s rows g h other row =
    ap (λ (f : ℤ → Option Span). option_map_or f (the_number (row.cell s.field)) (Some no_span)) (span_so s.offset _ _ g h other)

pub only_centres : OnlyCentresNeedIt
only_centres s rows g h other =
    λ i. all_found (map (λ (row : Datum). option_map (λ span. data_with_cells row (span_cells s span)) (row_so s rows g h other row i)) rows)
