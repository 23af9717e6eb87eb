-- Why an opening state is one of its specification.
use Rattle.std.proofs.Common.{◌≡◌, ◌≢◌, ℕ, suc, ◌+◌, ◌<◌, ◌≤◌, List, [], ◌∷◌, ◌++◌, length, map, flat_map, zip, arith, refl, sym, ap}
use Rattle.std.proofs.Common.{subst, ◌∙◌, inl}
use Rattle.std.proofs.Common.{length-append, Bool, true, false, Result, Ok, Err, nat_le, if◌then◌else◌}
use Rattle.std.specs.Prelude.{unwrap_or}
use Rattle.std.specs.List.{All, AllPairs, filter}
use Rattle.std.proofs.lemmas.Bool.{leb-true}
use Rattle.std.proofs.lemmas.List.{length-map}
use Rattle.std.proofs.lemmas.List.Sums.{sum_by-cons}
use Rattle.std.proofs.lemmas.List.Elements.{All-nil, All-cons}
use Rattle.std.proofs.lemmas.List.Kept.{AllPairs-cons}
use Rattle.fixed_num.proofs.Steps.{bind_ok, guarded}
use Rattle.cell_value.specs.declared.cell.Cell.{Cell}
use Rattle.cell_value.specs.declared.cell.Cell.TheVariants.{Null}
use Rattle.cell_value.specs.declared.state.ChartState.{ChartState}
use Rattle.cell_value.specs.Datum.{Datum, datum_of}
use Rattle.cell_value.specs.Row.{Cells}
use Rattle.cell_value.specs.State.{Dataset, IsState, dataset_of, state_of, ids_of, all_rows, ReadsItsId, most_rows}
use Rattle.vega_spec.specs.declared.data.DataSet.{DataSet}
use Rattle.vega_spec.specs.declared.signals.Signal.{Signal}
use Rattle.vega_spec.specs.declared.spec.Group.{out-Group}
use Rattle.vega_spec.specs.declared.spec.VgSpec.{VgSpec}
use Rattle.vega_spec.specs.Names.{signals_of, kind_of, parameter_of}
use Rattle.param_flow.specs.Settings.{is_settable}
use Rattle.param_flow.specs.Semantics.{ParamOf}
use Rattle.param_flow.specs.Semantics as meaning
use Rattle.param_flow.specs.States.{settable_names}
use Rattle.selection_events.specs.Kept.{Temporal, AreStoresOf}
use Rattle.selection_events.specs.declared.selection.PlotOf.{PlotOf}
use Rattle.vega_spec.specs.declared.names.ParameterKind.{ParameterKind}
use Rattle.vega_spec.specs.declared.names.ParameterKind.TheVariants as kind
use Rattle.vega_selections.specs.declared.selections.VgSelection.{VgSelection}
use Rattle.vega_selections.specs.Plots.{plots_of}
use Rattle.vega_selections.specs.Selections.{selections_of}
use Rattle.vega_events.specs.Laws.{plain_of}
use Rattle.vega_meaning.specs.Semantics.{param_kind_of, param_of}
use Rattle.vega_meaning.specs.States.{IsStateOf}
use Rattle.vega_meaning.specs.Times.{temporal_of}
use Rattle.chart_opening.specs.declared.refusal.Refusal.{Refusal}
use Rattle.chart_opening.specs.declared.refusal.Refusal.TheVariants as refusal
use Rattle.chart_opening.specs.Laws.{OpeningsAreStates}
use Rattle.chart_opening.specs.inner.Rows.{state_read}
use Rattle.chart_opening.specs.Sources.{source_sets, given_by, rows_by, all_of}
use Rattle.chart_opening.specs.Opening.{keyed_rows, sources_from, values_of, first_store, count_rows, state_with, state_within, state_given}
use Rattle.chart_opening.proofs.NameLemmas.{source_names}

-- rows as they are read, with ids that count on from this one
abbrev rows_from : ℕ → List Cells → List Datum
rows_from id rows = map datum_of (keyed_rows id rows)

ids_read : (id : ℕ) (rows : List Cells) → All ReadsItsId (rows_from id rows)
ids_read id [] = All-nil ReadsItsId
ids_read id (row ∷ rows) =
    All-cons ReadsItsId (datum_of (record { key = record { id = id; branch = 0 }; row = row })) (rows_from (suc id) rows) refl (ids_read (suc id) rows)

no_branch : (id : ℕ) (rows : List Cells) → All (λ (d : Datum). d.key.branch ≡ 0) (rows_from id rows)
no_branch id [] = All-nil (λ (d : Datum). d.key.branch ≡ 0)
no_branch id (row ∷ rows) =
    All-cons (λ (d : Datum). d.key.branch ≡ 0) (datum_of (record { key = record { id = id; branch = 0 }; row = row })) (rows_from (suc id) rows) refl
    (no_branch (suc id) rows)

above : (a id : ℕ) (rows : List Cells) → a < id → All (λ b. a < b) (ids_of (rows_from id rows))
above a id [] h = All-nil (λ b. a < b)
above a id (row ∷ rows) h = All-cons (λ b. a < b) id (ids_of (rows_from (suc id) rows)) h (above a (suc id) rows (omega arith))

below : (n id : ℕ) (rows : List Cells) → id + length rows ≤ n → All (λ b. b < n) (ids_of (rows_from id rows))
below n id [] h = All-nil (λ b. b < n)
below n id (row ∷ rows) h = All-cons (λ b. b < n) id (ids_of (rows_from (suc id) rows)) (omega arith) (below n (suc id) rows (omega arith))

rise : (id : ℕ) (rows : List Cells) → AllPairs (λ a b. a < b) (ids_of (rows_from id rows))
rise id [] = λ i j d before within. absurd (omega arith)
rise id (row ∷ rows) =
    AllPairs-cons (λ a b. a < b) id (ids_of (rows_from (suc id) rows)) (above id (suc id) rows (omega arith)) (rise (suc id) rows)

as_many : (id : ℕ) (rows : List Cells) → length (rows_from id rows) ≡ length rows
as_many id [] = refl
as_many id (row ∷ rows) = ap suc (as_many (suc id) rows)

-- the ids of later rows count on
counts_on : (id : ℕ) (xs ys : List Cells) → rows_from id (xs ++ ys) ≡ rows_from id xs ++ rows_from (id + length xs) ys
counts_on id [] ys = let same : id ≡ id + 0 = omega arith in ap (λ n. rows_from n ys) same
counts_on id (x ∷ xs) ys =
    let same : suc id + length xs ≡ id + length (x ∷ xs) = omega arith in
    let first : Datum = datum_of (record { key = record { id = id; branch = 0 }; row = x }) in
    ap (λ (rest : List Datum). first ∷ rest) (counts_on (suc id) xs ys ∙ ap (λ n. rows_from (suc id) xs ++ rows_from n ys) same)

-- sources as they are read
abbrev sets_from : ℕ → List (DataSet × List Cells) → List Dataset
sets_from id sources = map dataset_of (sources_from id sources)

-- the rows of some sources
abbrev rows_in : List (DataSet × List Cells) → List Cells
rows_in sources = flat_map (λ (source : DataSet × List Cells). source.1) sources

-- all rows are the rows of the sources one after another
all_in_turn : (id : ℕ) (sources : List (DataSet × List Cells))
    → flat_map (λ (source : Dataset). source.rows) (sets_from id sources) ≡ rows_from id (rows_in sources)
all_in_turn id [] = refl
all_in_turn id ((set, rows) ∷ others) =
    ap (λ (rest : List Datum). rows_from id rows ++ rest) (all_in_turn (id + length rows) others)
    ∙ sym (counts_on id rows (rows_in others))

abbrev IdsRise : Dataset → Type 0
IdsRise source = AllPairs (λ a b. a < b) (ids_of source.rows)

each_rises : (id : ℕ) (sources : List (DataSet × List Cells)) → All IdsRise (sets_from id sources)
each_rises id [] = All-nil IdsRise
each_rises id ((set, rows) ∷ others) =
    All-cons IdsRise (record { name = set.name; rows = rows_from id rows }) (sets_from (id + length rows) others) (rise id rows)
    (each_rises (id + length rows) others)

-- there are as many rows as are counted, where each source has some
counted : (sets : List DataSet) (rows : List (List Cells)) → length rows ≤ length sets → length (rows_in (zip sets rows)) ≡ count_rows rows
counted [] [] few = refl
counted [] (row ∷ rows) few = absurd (omega arith)
counted (set ∷ sets) [] few = refl
counted (set ∷ sets) (row ∷ rows) few =
    length-append row (rows_in (zip sets rows)) ∙ ap (λ n. length row + n) (counted sets rows (omega arith)) ∙ sym (sum_by-cons length row rows)

-- the sources have the names of the data sets
named : (id : ℕ) (sets : List DataSet) (rows : List (List Cells)) → length rows ≡ length sets
    → map (λ (source : Dataset). source.name) (sets_from id (zip sets rows)) ≡ map (λ (set : DataSet). set.name) sets
named id [] [] same = refl
named id [] (row ∷ rows) same = absurd (omega arith)
named id (set ∷ sets) [] same = absurd (omega arith)
named id (set ∷ sets) (row ∷ rows) same = ap (λ (names : List (List ℕ)). set.name ∷ names) (named (id + length row) sets rows (omega arith))

-- a state with so few rows is one
pub is_state : (g : VgSpec) (rows : List (List Cells)) → length rows ≡ length (source_sets g) → count_rows rows ≤ 200000
    → IsState (state_of (state_with g rows))
is_state g rows same few =
    let sources : List (DataSet × List Cells) = zip (source_sets g) rows in
    let flat : List Cells = rows_in sources in
    let all : all_rows (state_of (state_with g rows)) ≡ rows_from 1 flat = all_in_turn 1 sources in
    let up = rise 1 flat in
    let long = as_many 1 flat in
    let count : length flat ≡ count_rows rows = counted (source_sets g) rows (omega arith) in
    record {
      ids_read = subst (All ReadsItsId) (sym all) (ids_read 1 flat);
      no_branch = subst (All (λ (d : Datum). d.key.branch ≡ 0)) (sym all) (no_branch 1 flat);
      ids_rise = each_rises 1 sources;
      ids_distinct = subst (λ rows. AllPairs (λ a b. a ≢ b) (ids_of rows)) (sym all)
          (λ i j d before within e. let less = up i j d before within in omega (arith, less, e));
      ids_below_next = subst (λ rows'. All (λ id. id < count_rows rows + 1) (ids_of rows')) (sym all)
          (below (count_rows rows + 1) 1 flat (omega arith));
      next_id_from = omega arith;
      next_id_to = omega arith;
      few_rows = let size = ap length all in omega (arith, size, long, count);
    }

-- ---- what an opening state is made of

all_length : {X : Type 0} (results : List (Result X Refusal)) (xs : List X) → all_of results ≡ Ok xs → length xs ≡ length results
all_length {X} [] xs all = ap length (ok_of (sym all)) where
  ok_of : ◌≡◌ {A = Result (List X) Refusal} (Ok xs) (Ok []) → xs ≡ []
  ok_of e = cc
all_length {X} (Ok x ∷ others) xs all =
    let more = bind_ok (all_of others) (λ ys. Ok (x ∷ ys)) xs all in
    let same : x ∷ more.0 ≡ xs = ok_of (x ∷ more.0) more.2 in
    sym (ap length same) ∙ ap suc (all_length others more.0 more.1) where
      ok_of : (ys : List X) → ◌≡◌ {A = Result (List X) Refusal} (Ok ys) (Ok xs) → ys ≡ xs
      ok_of ys e = cc
all_length (Err why ∷ others) xs all = absurd cc

zipped : {X Y : Type 0} (xs : List X) (ys : List Y) → length ys ≡ length xs → length (zip xs ys) ≡ length xs
zipped [] [] same = refl
zipped [] (y ∷ ys) same = refl
zipped (x ∷ xs) [] same = absurd (omega arith)
zipped (x ∷ xs) (y ∷ ys) same = ap suc (zipped xs ys (omega arith))

-- the parameters that can be set have values
same_kind : (k : ParameterKind) → meaning.is_settable (param_kind_of k) ≡ is_settable k
same_kind kind.Settable = refl
same_kind kind.Computed = refl
same_kind kind.Selection = refl

own_set_name : (s : Signal) (b : Bool) (values : List (List ℕ × Cell)) (others : List ParamOf)
    → map (λ (value : List ℕ × Cell). value.0) values ≡ map (λ (p : ParamOf). p.name) others
    → map (λ (value : List ℕ × Cell). value.0) ((if b then (s.name, unwrap_or s.value Null) ∷ [] else []) ++ values)
    ≡ map (λ (p : ParamOf). p.name) (if b then param_of (parameter_of s) ∷ others else others)
own_set_name s true values others same = ap (λ (names : List (List ℕ)). s.name ∷ names) same
own_set_name s false values others same = same

values_named : (signals : List Signal)
    → map (λ (value : List ℕ × Cell). value.0) (values_of signals) ≡ settable_names (map param_of (map parameter_of signals))
values_named [] = refl
values_named (s ∷ signals) =
    let others : List ParamOf = filter (λ (p : ParamOf). meaning.is_settable p.kind) (map param_of (map parameter_of signals)) in
    own_set_name s (is_settable (kind_of s)) (values_of signals) others (values_named signals)
    ∙ ap (λ b. map (λ (p : ParamOf). p.name) (if b then param_of (parameter_of s) ∷ others else others)) (sym (same_kind (kind_of s)))

-- each selection has a store, which is empty
stores_are : (temporal : Temporal) (plots : List PlotOf) (selections : List VgSelection)
    → AreStoresOf temporal plots (map plain_of selections) (map first_store selections)
stores_are temporal plots [] = tt
stores_are temporal plots (v ∷ vs) = (inl refl, stores_are temporal plots vs)

few_enough : (g : VgSpec) (rows : List (List Cells)) (state : ChartState) → state_within g rows ≡ Ok state
    → (count_rows rows ≤ 200000) × (state_with g rows ≡ state)
few_enough g rows state within =
    let test = guarded (nat_le (count_rows rows) most_rows) refusal.Rows (Ok (state_with g rows)) state within in
    (leb-true _ _ test.0, same test.1) where
      same : ◌≡◌ {A = Result ChartState Refusal} (Ok (state_with g rows)) (Ok state) → state_with g rows ≡ state
      same e = cc

-- the state of a specification of whose sources this is read
pub read_is_state : (g : VgSpec) (read : List (Result (List Cells) Refusal)) (state : ChartState) → length read ≡ length (source_sets g)
    → state_read g read ≡ Ok state → IsStateOf g (state_of state)
read_is_state g read state many opens =
    let sets : List DataSet = source_sets g in
    let second = bind_ok (all_of read) (state_within g) state opens in
    let few = few_enough g second.0 state second.2 in
    let same : length second.0 ≡ length sets = all_length read second.0 second.1 ∙ many in
    let of : ChartState → Type 0 = λ st. IsStateOf g (state_of st) in
    subst of few.1 (record {
      is = is_state g second.0 same few.0;
      sources = named 1 sets second.0 same ∙ source_names g;
      params = values_named (signals_of (out-Group g.group));
      stores = stores_are (temporal_of g) (plots_of g) (selections_of g);
    })

pub is_state_of : OpeningsAreStates
is_state_of reading files g state opens =
    let sets : List DataSet = source_sets g in
    let first = bind_ok (all_of (map (given_by reading files) sets)) (state_given g) state opens in
    let many : length first.0 ≡ length sets = all_length (map (given_by reading files) sets) first.0 first.1 ∙ length-map sets (given_by reading files) in
    read_is_state g (map rows_by (zip sets first.0)) state (length-map (zip sets first.0) rows_by ∙ zipped sets first.0 many) first.2
