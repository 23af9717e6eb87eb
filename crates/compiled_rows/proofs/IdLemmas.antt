-- Why the rows that steps leave read their ids.
use Rattle.std.proofs.Common.{◌≡◌, ℕ, true, false, cond, Bool, Option, Some, None, List, [], ◌∷◌, ◌++◌, All, map, flat_map, refl, subst}
use Rattle.std.specs.List.{enumerate_from, list_all}
use Rattle.std.specs.Option.{option_map, option_map_or}
use Rattle.std.specs.Prelude.{find}
use Rattle.std.specs.Str.{bytes_eq}
use Rattle.std.proofs.lemmas.List.Elements.{All-nil, All-cons, All-head, All-tail, All-append}
use Rattle.fixed_num.specs.Ranges.{◌>>=◌}
use Rattle.cell_value.specs.declared.cell.Cell.{Cell}
use Rattle.cell_value.specs.declared.cell.Cell.TheVariants.{Text}
use Rattle.cell_value.specs.Datum.{Datum, datum_with}
use Rattle.cell_value.specs.State.{Dataset, ReadsItsId}
use Rattle.expr_eval.specs.Values.{Values}
use Rattle.plain_rows.specs.declared.transforms.BinOf.{BinOf}
use Rattle.plain_rows.specs.declared.transforms.FoldOf.{FoldOf}
use Rattle.plain_rows.specs.declared.transforms.GroupOf.{GroupOf}
use Rattle.plain_rows.specs.declared.transforms.OpOf.{OpOf}
use Rattle.plain_rows.specs.Folds.{each_field, data_folded_row, data_folded}
use Rattle.plain_rows.specs.Lookups.{data_looked_up, data_with_cells}
use Rattle.plain_rows.specs.TimeUnits.{data_with_unit, end_cell, start_cell, unit_span}
use Rattle.plain_bins.specs.declared.bins.Bins.{Bins}
use Rattle.plain_bins.specs.Binned.{chosen, data_binned, in_bins, with_bin}
use Rattle.plain_bins.specs.Bins.{bin_of}
use Rattle.plain_bins.specs.Extents.{extent_of, numbers_of}
use Rattle.plain_groups.specs.GroupRows.{op_cells, data_aggregated, data_join_aggregated}
use Rattle.plain_groups.specs.Groups.{group_of}
use Rattle.plan_kit.specs.declared.steps.Step.{Step}
use Rattle.plan_kit.specs.declared.steps.Step.TheVariants as step
use Rattle.chart_meaning.specs.Rows.{rows_named, stepped, all_stepped}
use Rattle.compiled_rows.specs.Begun.{StepsReadIds, RowsLeftReadIds}
use Rattle.compiled_rows.specs.Follows.{is_outside}
use Rattle.compiled_rows.proofs.AddLemmas.{all_made_read, filter_adds, formula_reads, lookup_reads, one_is, window_reads, windowed_reads}
use Rattle.compiled_rows.proofs.BegunLemmas.{all_had, had, groups_read, stack_reads, still_reads}
use Rattle.compiled_rows.proofs.RisingLemmas.{has_left, has_right}
use Rattle.compiled_rows.proofs.FitLemmas.{all_mapped}

-- ---- rows one by one

mapped_read : (f : Datum → Datum) → ((row : Datum) → ReadsItsId row → ReadsItsId (f row)) → (rows : List Datum) → All ReadsItsId rows
    → All ReadsItsId (map f rows)
mapped_read f each [] ids = All-nil ReadsItsId
mapped_read f each (row ∷ rows) ids =
    All-cons ReadsItsId (f row) (map f rows) (each row (All-head ReadsItsId row rows ids)) (mapped_read f each rows (All-tail ReadsItsId row rows ids))

folded_read : (f : FoldOf) (rows : List Datum) → All ReadsItsId rows → All ReadsItsId (data_folded f rows)
folded_read f [] ids = All-nil ReadsItsId
folded_read f (row ∷ rows) ids =
    All-append ReadsItsId (each_field (data_folded_row f) f.fields row) (data_folded f rows)
    (all_mapped ReadsItsId (λ (field : ℕ × List ℕ). data_folded_row f row field.0 field.1)
    (λ (field : ℕ × List ℕ). still_reads ((f.out_key, Text field.1) ∷ (f.out_value, row.cell field.1) ∷ []) row (All-head ReadsItsId row rows ids))
    (enumerate_from 0 f.fields)) (folded_read f rows (All-tail ReadsItsId row rows ids))

-- ---- groups

nothing_outside : (ns : List (List ℕ)) → list_all (is_outside []) ns ≡ true
nothing_outside [] = refl
nothing_outside (n ∷ ns) = nothing_outside ns

group_reads : (g : GroupOf) (rows made : List Datum) → All ReadsItsId rows → data_aggregated g rows ≡ Some made → All ReadsItsId made
group_reads g rows made ids e = groups_read [] g (record { among = refl; outs = nothing_outside (map (λ (op : OpOf). op.out) g.ops) }) rows made ids e

join_reads : (g : GroupOf) (rows made : List Datum) → All ReadsItsId rows → data_join_aggregated g rows ≡ Some made → All ReadsItsId made
join_reads g rows made ids e =
    let given : Datum → Option (List (List ℕ × Cell))
    = λ row. op_cells (λ (r : Datum). r.cell) g.ops (group_of (λ (r : Datum). r.cell) g.groupby rows row) in
    all_made_read (λ row. option_map (data_with_cells row) (given row)) (λ row m h is. windowed_reads (given row) row m h is) rows made ids e

bin_reads : (b : BinOf) (rows made : List Datum) → All ReadsItsId rows → data_binned b rows ≡ Some made → All ReadsItsId made
bin_reads b rows made ids e = by (chosen b (extent_of (numbers_of (λ (row : Datum). row.cell) b.field rows))) e
  where
    by : (o : Option (Option Bins)) → (o >>= λ bins. Some (in_bins (λ (row : Datum). row.cell) datum_with b bins rows)) ≡ Some made → All ReadsItsId made
    by None e = absurd (cc)
    by (Some bins) e =
        subst (All ReadsItsId) (one_is (in_bins (λ (row : Datum). row.cell) datum_with b bins rows) made e)
        (mapped_read (with_bin (λ (row : Datum). row.cell) datum_with b bins)
        (λ row h. still_reads ((b.out, start_cell (bin_of bins (row.cell b.field))) ∷ (b.out_end, end_cell (bin_of bins (row.cell b.field))) ∷ []) row h)
        rows ids)

-- ---- steps

module _ (values : Values) (sources : List Dataset) where
  one_reads : (s : Step) (rows made : List Datum) → All ReadsItsId rows → stepped values sources s rows ≡ Some made → All ReadsItsId made
  one_reads (step.Filter x) rows made ids e = (filter_adds [] values x rows made ids e).1
  one_reads (step.Calculate x name) rows made ids e = formula_reads values x name rows made ids e
  one_reads (step.Bin bin) rows made ids e = bin_reads bin rows made ids e
  one_reads (step.Unit unit) rows made ids e =
      subst (All ReadsItsId) (one_is (map (data_with_unit unit) rows) made e)
      (mapped_read (data_with_unit unit)
      (λ row h. still_reads ((unit.out, start_cell (unit_span unit.unit (row.cell unit.field)))
      ∷ (unit.out_end, end_cell (unit_span unit.unit (row.cell unit.field))) ∷ []) row h) rows ids)
  one_reads (step.Group g) rows made ids e = group_reads g rows made ids e
  one_reads (step.Join g) rows made ids e = join_reads g rows made ids e
  one_reads (step.Stack s) rows made ids e = stack_reads [] s refl rows made ids e
  one_reads (step.Window window) rows made ids e = window_reads window rows made ids e
  one_reads (step.Lookup source lookup) rows made ids e =
      subst (All ReadsItsId) (one_is (data_looked_up lookup (rows_named sources source) rows) made e) (lookup_reads lookup (rows_named sources source) rows ids)
  one_reads (step.Fold fold) rows made ids e = subst (All ReadsItsId) (one_is (data_folded fold rows) made e) (folded_read fold rows ids)

  all_read : (steps : List Step) (rows made : List Datum) → All ReadsItsId rows → all_stepped values sources steps rows ≡ Some made → All ReadsItsId made
  all_read [] rows made ids e = subst (All ReadsItsId) (one_is rows made e) ids
  all_read (s ∷ steps) rows made ids e = by (stepped values sources s rows) refl (λ next read k. all_read steps next made read k) e
    where
      by : (o : Option (List Datum)) → stepped values sources s rows ≡ o
          → ((next : List Datum) → All ReadsItsId next → all_stepped values sources steps next ≡ Some made → All ReadsItsId made)
          → (o >>= λ next. all_stepped values sources steps next) ≡ Some made → All ReadsItsId made
      by None is rest e = absurd (cc)
      by (Some next) is rest e = rest next (one_reads s rows next ids is) e

pub steps_read_ids : StepsReadIds
steps_read_ids values sources steps rows made ids e = all_read values sources steps rows made ids e

-- ---- sources

named_read : (sources : List Dataset) (name : List ℕ) → All ReadsItsId (flat_map (λ (s : Dataset). s.rows) sources) → All ReadsItsId (rows_named sources name)
named_read [] name ids = All-nil ReadsItsId
named_read (s ∷ sources) name ids =
    let others = flat_map (λ (x : Dataset). x.rows) sources in
    by (bytes_eq s.name name) (all_had ReadsItsId s.rows (λ z there. had ReadsItsId (s.rows ++ others) z ids (has_left s.rows others z there)))
    (named_read sources name (all_had ReadsItsId others (λ z there. had ReadsItsId (s.rows ++ others) z ids (has_right s.rows others z there))))
  where
    by : (b : Bool) → All ReadsItsId s.rows → All ReadsItsId (rows_named sources name)
        → All ReadsItsId (option_map_or (λ (x : Dataset). x.rows) (cond b (Some s) (find (λ (x : Dataset). bytes_eq x.name name) sources)) [])
    by true here later = here
    by false here later = later

pub rows_left_read_ids : RowsLeftReadIds
rows_left_read_ids values st source steps rows state e =
    all_read values st.sources steps (rows_named st.sources source) rows (named_read st.sources source state.ids_read) e
