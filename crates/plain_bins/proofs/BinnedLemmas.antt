-- Rows in bins, as they are read, and their keys.
use Rattle.std.proofs.Common.{◌≡◌, ℕ, ℤ, List, [], ◌∷◌, map, Option, Some, None, option_map, unwrap_or, Result, Ok, Err}
use Rattle.std.proofs.Common.{IfOk, refl, sym, ap, ap₂, ◌∙◌, subst}
use Rattle.std.specs.List.{cons_option}
use Rattle.fixed_num.specs.Ranges.{◌>>=◌}
use Rattle.cell_value.specs.declared.state.Keyed.{Keyed}
use Rattle.cell_value.specs.Datum.{Datum, datum_of, cell_at, datum_with}
use Rattle.expr_eval.specs.declared.error.EvalError.{EvalError}
use Rattle.expr_eval.specs.Answers.{Evaluates}
use Rattle.plain_rows.specs.declared.transforms.BinOf.{BinOf}
use Rattle.plain_rows.specs.Answers.{GivesRows}
use Rattle.plain_rows.specs.Rows.{AreRows, AreKeys, keys_of}
use Rattle.plain_rows.specs.Calculations.{with_cell}
use Rattle.cell_value.specs.Cell.{number_in}
use Rattle.plain_rows.specs.TimeUnits.{start_cell, end_cell}
use Rattle.plain_rows.proofs.Readings.{reads_so, reads_with}
use Rattle.plain_bins.specs.declared.bins.Bins.{Bins}
use Rattle.plain_bins.specs.Extents.{numbers_of, extent_of}
use Rattle.plain_bins.specs.Bins.{bin_of}
use Rattle.plain_bins.specs.Binned.{chosen, with_bin, in_bins, binned, data_binned}

numbers_read : (name : List ℕ) (rows : List Keyed)
    → numbers_of (λ (datum : Datum). datum.cell) name (map datum_of rows) ≡ numbers_of cell_at name rows
numbers_read name [] = refl
numbers_read name (row ∷ rows) = ap (cons_option (number_in (cell_at row name))) (numbers_read name rows)

row_reads : (b : BinOf) (bins : Option Bins) (row : Keyed)
    → with_bin (λ (datum : Datum). datum.cell) datum_with b bins (datum_of row) ≡ datum_of (with_bin cell_at with_cell b bins row)
row_reads b bins row =
    let bin = bin_of bins (cell_at row b.field) in
    ap (datum_with b.out_end (end_cell bin)) (reads_with b.out (start_cell bin) row)
    ∙ reads_with b.out_end (end_cell bin) (with_cell b.out (start_cell bin) row)

rows_read : (b : BinOf) (bins : Option Bins) (rows : List Keyed)
    → in_bins (λ (datum : Datum). datum.cell) datum_with b bins (map datum_of rows) ≡ map datum_of (in_bins cell_at with_cell b bins rows)
rows_read b bins [] = refl
rows_read b bins (row ∷ rows) = ap₂ (λ (datum : Datum) data_. datum ∷ data_) (row_reads b bins row) (rows_read b bins rows)

-- the rows in some bins, as they are read and as they are kept
abbrev data_put : BinOf → List Keyed → Option (Option Bins) → Option (List Datum)
data_put b rows given = given >>= λ bins. Some (in_bins (λ (datum : Datum). datum.cell) datum_with b bins (map datum_of rows))

abbrev rows_put : BinOf → List Keyed → Option (Option Bins) → Option (List Keyed)
rows_put b rows given = given >>= λ bins. Some (in_bins cell_at with_cell b bins rows)

put_reads : (b : BinOf) (rows : List Keyed) (given : Option (Option Bins))
    → data_put b rows given ≡ option_map (map datum_of) (rows_put b rows given)
put_reads b rows None = refl
put_reads b rows (Some bins) = ap Some (rows_read b bins rows)

binned_reads : (b : BinOf) (rows : List Keyed) → data_binned b (map datum_of rows) ≡ option_map (map datum_of) (binned b rows)
binned_reads b rows =
    ap (λ (ns : List ℤ). data_put b rows (chosen b (extent_of ns))) (numbers_read b.field rows)
    ∙ put_reads b rows (chosen b (extent_of (numbers_of cell_at b.field rows)))

-- what is answered reads as the rule says, and is rows
pub answer_reads : (b : BinOf) (rows : List Keyed) (result : Result (List Keyed) EvalError)
    → Evaluates result (binned b rows) → GivesRows result (data_binned b (map datum_of rows))
answer_reads b rows result = reads_so result _ _ (binned_reads b rows)

same_keys : (b : BinOf) (bins : Option Bins) (rows : List Keyed) → keys_of (in_bins cell_at with_cell b bins rows) ≡ keys_of rows
same_keys b bins [] = refl
same_keys b bins (row ∷ rows) = ap (λ keys. row.key ∷ keys) (same_keys b bins rows)

put_keys : (b : BinOf) (rows out : List Keyed) (given : Option (Option Bins))
    → rows_put b rows given ≡ Some out → keys_of out ≡ keys_of rows
put_keys b rows out None is = absurd cc
put_keys b rows out (Some bins) is = ap (λ o. keys_of (unwrap_or o [])) (sym is) ∙ same_keys b bins rows

pub answer_are_rows : (b : BinOf) (rows : List Keyed) → AreRows rows → (result : Result (List Keyed) EvalError)
    → Evaluates result (binned b rows) → IfOk result AreRows
answer_are_rows b rows are (Ok out) is =
    subst AreKeys (sym (put_keys b rows out (chosen b (extent_of (numbers_of cell_at b.field rows))) is)) are
answer_are_rows b rows are (Err e) is = tt
