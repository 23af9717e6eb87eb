-- A change of one source, by the index of it.
use Rattle.std.proofs.Common.{◌≡◌, ℕ, ◌+◌, ◌<◌, ◌≤◌, Bool, true, false, ◌||◌, nat_lt, Option, Some, None, List, [], ◌∷◌, ◌++◌}
use Rattle.std.proofs.Common.{length, map}
use Rattle.std.proofs.Common.{sym, ap, subst, ◌∙◌, arith}
use Rattle.std.specs.Prelude.{if◌then◌else◌, Result, Ok, Err, IfOk}
use Rattle.std.specs.List.{All}
use Rattle.std.specs.Option.{option_map}
use Rattle.std.proofs.lemmas.List.{length-map, map-append}
use Rattle.std.proofs.lemmas.List.Elements.{All-nil, All-cons, All-head, All-tail}
use Rattle.cell_value.specs.declared.cell.Cell.{Cell}
use Rattle.cell_value.specs.declared.state.Keyed.{Keyed}
use Rattle.cell_value.specs.declared.state.StoreOf.{StoreOf}
use Rattle.cell_value.specs.declared.state.Named.{Named}
use Rattle.cell_value.specs.declared.state.ChartState.{ChartState}
use Rattle.cell_value.specs.Datum.{Datum, datum_of}
use Rattle.cell_value.specs.State.{Dataset, dataset_of, IsState, ids_of, most_rows, greatest_id}
use Rattle.expr_eval.specs.Values.{Values}
use Rattle.param_flow.specs.declared.command.ChangeOf.{ChangeOf}
use Rattle.param_flow.specs.declared.reply.Reply.{Reply}
use Rattle.param_flow.specs.declared.reply.Reply.TheVariants.{Done, Refused}
use Rattle.param_flow.specs.declared.reply.Cause.TheVariants as cause
use Rattle.param_flow.specs.Change.{rows_after, stays, count_staying}
use Rattle.param_flow.specs.Machine.{new_rows}
use Rattle.param_flow.specs.inner.Sources.{data_at, with_data, new_data, state_in, count_in, rows_changed, staying_in_all, is_past}
use Rattle.param_flow.proofs.RowsLemmas.{one_if, count_next}
use Rattle.param_flow.proofs.StateRows.{ids_at, still_state}
use Rattle.param_flow.proofs.SourcePlaces.{few_at}
use Rattle.plain_engine.specs.declared.edits.Edits.{Edits}
use Rattle.plain_engine.specs.inner.Edits.{edited, data_edited}
use Rattle.plain_engine.specs.inner.Fits.{Fits}
use Rattle.vega_spec.specs.declared.spec.VgSpec.{VgSpec}
use Rattle.vega_lists.specs.Held.{AreSources}
use Rattle.vega_lists.proofs.StateLemmas.{sources_of_state}
use Rattle.plain_engine.specs.inner.Sources.{rows_at, with_rows, values_over, sources_changed, reply_to_sources, reply_at, sources_if, IsLeft}
use Rattle.plain_engine.proofs.Places.{read_at, read_with}

-- no more rows stay than there are
pub few_stay : (values : Values) (change : ChangeOf) (rows : List Keyed)
    → count_staying values change.remove (map datum_of rows) ≤ length rows
few_stay values change [] = omega arith
few_stay values change (row ∷ rows) =
    let more = few_stay values change rows in
    let one = at_most_one (stays values change.remove (datum_of row)) in
    let count = count_next values change (datum_of row) (map datum_of rows) in
    omega (arith, more, one, count)
  where
    at_most_one : (b : Bool) → one_if b ≤ 1
    at_most_one true = omega arith
    at_most_one false = omega arith

low_ids : (next_id : ℕ) (rows : List Keyed) → next_id ≤ greatest_id + 1 → All (λ id. id < next_id) (ids_of (map datum_of rows))
    → All (λ (keyed : Keyed). keyed.key.id ≤ greatest_id) rows
low_ids next_id [] top h = All-nil (λ (keyed : Keyed). keyed.key.id ≤ greatest_id)
low_ids next_id (row ∷ rows) top h =
    let first : row.key.id < next_id = All-head (λ id. id < next_id) row.key.id (ids_of (map datum_of rows)) h in
    All-cons (λ (keyed : Keyed). keyed.key.id ≤ greatest_id) row rows (omega (arith, first, top))
    (low_ids next_id rows top (All-tail (λ id. id < next_id) row.key.id (ids_of (map datum_of rows)) h))

-- a place among sources is one among them as they are read
pub within_data : (sources : List Named) (index : ℕ) → index < length sources → index < length (map dataset_of sources)
within_data sources index within = omega (arith, within, length-map sources dataset_of)

-- no more rows are in one source than in all
pub few_here : (sources : List Named) (index : ℕ) → length (rows_at sources index) ≤ count_in (map dataset_of sources)
few_here sources index =
    let few = few_at (map dataset_of sources) index in
    let read = ap length (read_at sources index) in
    omega (arith, few, read, length-map (rows_at sources index) datum_of)

module _ (stores : List StoreOf) (next_id : ℕ) (params signals : List (List ℕ × Cell)) (sources : List Named) (index : ℕ) (change : ChangeOf) where
  -- the rows of a source fit a chart
  pub rows_fit : index < length sources → IsState (state_in stores params next_id (map dataset_of sources)) → Fits (rows_at sources index)
  rows_fit within h =
      let here = within_data sources index within in
      let few = few_here sources index in
      record {
        few = omega (arith, few, h.few_rows);
        ids = low_ids next_id (rows_at sources index) h.next_id_to
            (subst (λ rows. All (λ id. id < next_id) (ids_of rows)) (sym (read_at sources index)) (ids_at stores params (values_over stores signals)
            next_id (map dataset_of sources) index change here h));
      }

  -- the limit
  pub past_is : (all others staying more : ℕ) (past : Bool) → all ≡ count_in (map dataset_of sources)
      → others + length (rows_at sources index) ≡ all
      → staying ≡ count_staying (values_over stores signals) change.remove (map datum_of (rows_at sources index))
      → more ≡ length change.insert
      → past ≡ (nat_lt most_rows ((others + staying) + more) || nat_lt (greatest_id + 1) (next_id + more))
      → past ≡ is_past (values_over stores signals) next_id (map dataset_of sources) index change
  past_is all others staying more past is rest count long e =
      let read = read_at sources index in
      let rows = ap length read in
      let left = count ∙ ap (count_staying (values_over stores signals) change.remove) read in
      let same : others + staying ≡ staying_in_all (values_over stores signals) next_id (map dataset_of sources) index change =
      omega (arith, is, rest, rows, left, length-map (rows_at sources index) datum_of) in
      e ∙ (λ i. nat_lt most_rows (same i + long i) || nat_lt (greatest_id + 1) (next_id + long i))

  module _ (edits : Edits) (is : data_edited edits (rows_at sources index)
      ≡ rows_after (values_over stores signals) change (map datum_of (rows_at sources index))) where
    found : data_edited edits (rows_at sources index)
        ≡ rows_after (values_over stores signals) change (data_at (map dataset_of sources) index)
    found = is ∙ ap (rows_after (values_over stores signals) change) (read_at sources index)

    -- the sources after edits of which none is out of range
    module _ (more : List Keyed) (known : edits.overflows ≡ false) (new : more ≡ new_rows next_id change.insert) where
      changed_by : rows_changed (values_over stores signals) next_id (map dataset_of sources) index change
          ≡ Some (map datum_of (edited edits.each (rows_at sources index) ++ more))
      changed_by =
          let read : List Datum = map datum_of (edited edits.each (rows_at sources index)) in
          ap (option_map (λ left. left ++ new_data next_id change.insert))
          (sym found ∙ ap (λ overflows. if overflows then None else Some read) known)
          ∙ ap (λ more. Some (read ++ map datum_of more)) (sym new)
          ∙ ap Some (sym (map-append datum_of (edited edits.each (rows_at sources index)) more))

      pub sources_by : sources_changed stores next_id signals (map dataset_of sources) index change
          ≡ Some (map dataset_of (with_rows sources index (edited edits.each (rows_at sources index) ++ more)))
      sources_by =
          ap (option_map (with_data (map dataset_of sources) index)) changed_by
          ∙ ap Some (sym (read_with sources index (edited edits.each (rows_at sources index) ++ more)))

      -- they are those of a state
      pub fit_by : index < length sources → IsState (state_in stores params next_id (map dataset_of sources))
          → is_past (values_over stores signals) next_id (map dataset_of sources) index change ≡ false
          → AreSources (with_rows sources index (edited edits.each (rows_at sources index) ++ more))
      fit_by within h free =
          let rows : List Keyed = edited edits.each (rows_at sources index) ++ more in
          let still = still_state stores params (values_over stores signals) next_id (map dataset_of sources) index change (within_data sources index within) h
          (map datum_of rows) free changed_by in
          let now : ChartState = record {
            next_id = next_id + length change.insert;
            sources = with_rows sources index rows;
            params = params;
            stores = stores;
          } in
          sources_of_state now
          (subst (λ sources. IsState (state_in stores params (next_id + length change.insert) sources)) (sym (read_with sources index rows)) still)

    -- where one is
    pub out_of_range_by : edits.overflows ≡ true → sources_changed stores next_id signals (map dataset_of sources) index change ≡ None
    out_of_range_by over =
        ap (λ found. option_map (with_data (map dataset_of sources) index) (option_map
        (λ left. left ++ new_data next_id change.insert) found))
        (sym found
        ∙ ap (λ overflows. if overflows then None else Some (map datum_of (edited edits.each (rows_at sources index)))) over)

  -- the reply to a change that is past the limit
  pub reply_past : (g : VgSpec) → is_past (values_over stores signals) next_id (map dataset_of sources) index change ≡ true
      → Refused cause.Limit ≡ reply_at g stores next_id params signals (map dataset_of sources) index change
  reply_past g past =
      ap (λ past. if past then Refused cause.Limit
      else reply_to_sources g stores params (sources_changed stores next_id signals (map dataset_of sources) index change)) (sym past)

  -- and to one that isn't
  pub reply_by : (g : VgSpec) (after : Option (List Dataset)) → is_past (values_over stores signals) next_id (map dataset_of sources) index change ≡ false
      → sources_changed stores next_id signals (map dataset_of sources) index change ≡ after
      → reply_at g stores next_id params signals (map dataset_of sources) index change ≡ reply_to_sources g stores params after
  reply_by g after free changed = λ i. if free i then Refused cause.Limit else reply_to_sources g stores params (changed i)

-- sources that are put where others were read as changed
pub left_by : {E : Type 0} (result : Result Reply E) (changed : Option (List Dataset)) (old target new : List Named)
    → changed ≡ Some (map dataset_of target)
    → IfOk result (λ reply. new ≡ sources_if reply old target) → IfOk result (λ reply. IsLeft reply changed old new)
left_by (Ok Done) changed old target new is put = is ∙ ap (λ sources. Some (map dataset_of sources)) (sym put)
left_by (Ok (Refused cause)) changed old target new is put = put
left_by (Err e) changed old target new is put = tt
