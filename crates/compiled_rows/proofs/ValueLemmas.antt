-- Why the signals of a compiled specification have the values of the parameters.
use Rattle.std.proofs.Common.{◌≡◌, ℕ, zero, suc, ◌+◌, ◌||◌, Bool, true, false, cond, Option, Some, None, List, [], ◌∷◌, ◌++◌, map, filter, flat_map}
use Rattle.std.proofs.Common.{find, length, is_some, unwrap_or, All, refl, sym, ap, ap₂, ◌∙◌, subst, arith}
use Rattle.std.specs.Prelude.{filter_map, slice_get}
use Rattle.std.specs.List.{cons_option}
use Rattle.std.specs.Option.{option_map, option_map_or}
use Rattle.std.specs.Str.{bytes_eq}
use Rattle.std.proofs.lemmas.List.{length-map, length-append, map-append}
use Rattle.std.proofs.lemmas.List.Elements.{All-nil, All-cons, All-head, All-tail, All-append, All-map}
use Rattle.std.proofs.lemmas.Slice.Eq.{bytes_eq-Decides}
use Rattle.fixed_num.specs.Ranges.{all_found, ◌>>=◌}
use Rattle.cell_value.specs.declared.cell.Cell.{Cell}
use Rattle.cell_value.specs.declared.cell.Cell.TheVariants.{Null, Flag}
use Rattle.cell_value.specs.declared.state.StoreOf.{StoreOf}
use Rattle.cell_value.specs.Datum.{Datum, CellAt}
use Rattle.cell_value.specs.State.{Dataset, State}
use Rattle.expr_syntax.specs.declared.expr.Expr.{Expr, fold-roll-Expr}
use Rattle.expr_syntax.specs.declared.expr.Expr.TheOpen as node
use Rattle.expr_syntax.specs.declared.expr.Expr.TheVariants as expr
use Rattle.std.proofs.lemmas.Grind.{flat_map-append}
use Rattle.cell_value.specs.Cell.{truth}
use Rattle.expr_eval.specs.Plain.{null_row}
use Rattle.expr_eval.specs.Stores.{values_of_stores, ends_along}
use Rattle.expr_eval.specs.Value.{value_here, value_of, truth_of}
use Rattle.expr_eval.specs.Values.{Values}
use Rattle.plain_rows.specs.Filters.{data_filtered}
use Rattle.vega_spec.specs.declared.data.DataSet.{DataSet}
use Rattle.vega_spec.specs.declared.signals.Signal.{Signal}
use Rattle.vega_spec.specs.declared.transforms.Extent.{Extent}
use Rattle.vega_spec.specs.declared.transforms.Transform.{Transform}
use Rattle.vega_lists.specs.Lists.{begun_rows}
use Rattle.vega_lists.specs.Scopes.{Scope, no_lists}
use Rattle.vega_lists.specs.Transforms.{transforms_of}
use Rattle.vega_signals.specs.Extents.{Settled, is_computed, extent_asked, extent_over, rows_left, extents_in, with_rows_left, set_extents, extent_names}
use Rattle.vega_signals.specs.Extents as vega
use Rattle.vega_signals.specs.Settling.{values_inside, is_own, own_names, own_after, as_given}
use Rattle.vl_spec.specs.declared.params.ParamKind.{ParamKind}
use Rattle.vl_spec.specs.declared.params.ParamKind.TheVariants as kind
use Rattle.vl_spec.specs.declared.params.ParamOf.{ParamOf}
use Rattle.vl_spec.specs.declared.spec.VlSpec.{VlSpec}
use Rattle.plan_kit.specs.declared.plan.Plan.{Plan}
use Rattle.plan_kit.specs.declared.scales.ScalePlan.{ScalePlan}
use Rattle.plan_kit.specs.declared.selections.SelectionPlan.{SelectionPlan}
use Rattle.chart_meaning.specs.Parameters.{has_name, value_under, values_over, expression_in, computed_here, all_computed, count_computed}
use Rattle.chart_meaning.specs.Parameters.{settled_after, settled, values_in}
use Rattle.vega_assemble.specs.Assembled.{none_list, sets_of, lists_made}
use Rattle.vega_assemble.specs.Names.{none_name}
use Rattle.vega_assemble.specs.Signals.{at_place, selection_signal, silent_signal, kind_at, place_behind, signals_from, signals_of}
use Rattle.vega_assemble.specs.Sources.{source_written}
use Rattle.compiled_rows.specs.Values.{HasNoStore, IsApart, StoresAreApart, null_signal, settled_top}
use Rattle.compiled_rows.specs.Values.{SignalsSettleAlike, ValuesAreAlike}
use Rattle.compiled_rows.proofs.AskLemmas.{asked, asked_by, asked_by_all, lists_ask, sources_ask}

-- ---- the extents of data sets

-- the extent for which the list without rows asks
abbrev the_extent : List ℕ → Extent
the_extent stem = record { field = none_name stem; signal = none_name stem }

-- what of two lists is nothing
both_nothing : {X : Type 0} (xs ys : List X) → xs ++ ys ≡ [] → (xs ≡ []) × (ys ≡ [])
both_nothing [] ys e = (refl, e)
both_nothing (x ∷ xs) ys e = absurd (cc)

module _ (values : Values) where
  by_asked : (o : Option Extent) (later : List Extent) (rows : List Datum) (rest : Settled) → cons_option o later ≡ [] → (later ≡ [] → rest ≡ [])
      → option_map_or (λ e. extent_over rows e ∷ []) o [] ++ rest ≡ []
  by_asked None later rows rest e h = h e
  by_asked (Some x) later rows rest e h = absurd (cc)

  -- where transforms ask for none, there are none
  none_in : (scope : Scope) (ts : List Transform) (rows : List Datum) → asked ts ≡ [] → extents_in values scope ts rows ≡ []
  none_in scope [] rows e = refl
  none_in scope (t ∷ ts) rows e =
      by_asked (extent_asked t) (asked ts) rows (extents_in values scope ts (rows_left values scope t rows)) e
      (λ later. none_in scope ts (rows_left values scope t rows) later)

  -- data sets that ask for none add none to those behind them
  none_before : (sources : List Dataset) (found : Settled) (xs ys : List DataSet) → asked_by_all xs ≡ []
      → ((scope : Scope) → set_extents values sources scope ys ≡ found) → (scope : Scope) → set_extents values sources scope (xs ++ ys) ≡ found
  none_before sources found [] ys e h scope = h scope
  none_before sources found (x ∷ xs) ys e h scope =
      let none = both_nothing (asked_by x) (asked_by_all xs) e in
      ap₂ (λ a b. a ++ b) (none_in scope (transforms_of x) (begun_rows sources scope x) none.0)
      (none_before sources found xs ys none.1 h (with_rows_left values sources scope x))

  none_at_all : (sources : List Dataset) (xs : List DataSet) → asked_by_all xs ≡ [] → (scope : Scope) → set_extents values sources scope xs ≡ []
  none_at_all sources [] e scope = refl
  none_at_all sources (x ∷ xs) e scope =
      let none = both_nothing (asked_by x) (asked_by_all xs) e in
      ap₂ (λ a b. a ++ b) (none_in scope (transforms_of x) (begun_rows sources scope x) none.0)
      (none_at_all sources xs none.1 (with_rows_left values sources scope x))

  -- a test that is false keeps no row
  never : (row : CellAt) → truth_of row values (expr.Flag false) ≡ Some false
  never row = ap (λ v. option_map truth v)
      (ap (value_of row values) (sym (expr.rolls-Flag false)) ∙ fold-roll-Expr (Option Cell) (value_here row values) (node.Flag false))

  none_pass : (rows : List Datum) → filter (λ (row : Datum). unwrap_or (truth_of row.cell values (expr.Flag false)) false) rows ≡ []
  none_pass [] = refl
  none_pass (row ∷ rows) = ap (λ o. cond (unwrap_or o false) (row ∷ passing) passing) (never row.cell) ∙ none_pass rows
    where
      passing : List Datum
      passing = filter (λ (r : Datum). unwrap_or (truth_of r.cell values (expr.Flag false)) false) rows

  either_none : (o : Option (List Bool)) (rows : List Datum) → rows ≡ [] → unwrap_or (o >>= λ _. Some rows) [] ≡ []
  either_none None rows e = refl
  either_none (Some tests) rows e = e

  nothing_kept : (rows : List Datum) → unwrap_or (data_filtered values (expr.Flag false) rows) [] ≡ []
  nothing_kept rows =
      either_none (all_found (map (λ (row : Datum). truth_of row.cell values (expr.Flag false)) rows))
      (filter (λ (row : Datum). unwrap_or (truth_of row.cell values (expr.Flag false)) false) rows) (none_pass rows)

  module _ (sources : List Dataset) (stem : List ℕ) where
    -- the list without rows gives null under its name
    null_extent : (s : VlSpec) (scope : Scope)
        → extents_in values scope (transforms_of (none_list stem s.sources)) (begun_rows sources scope (none_list stem s.sources)) ≡ null_signal stem ∷ []
    null_extent s scope =
        ap (λ rows. extent_over rows (the_extent stem) ∷ [])
        (nothing_kept (begun_rows sources scope (none_list stem s.sources)))

    one_extent : (s : VlSpec) (p : Plan) (scope : Scope) → set_extents values sources scope (sets_of stem s p) ≡ null_signal stem ∷ []
    one_extent s p scope =
        none_before sources (null_signal stem ∷ []) (map source_written s.sources) (none_list stem s.sources ∷ lists_made stem p) (sources_ask stem s.sources)
        (λ scope. ap₂ (λ a b. a ++ b) (null_extent s scope)
        (none_at_all sources (lists_made stem p) (lists_ask stem p) (with_rows_left values sources scope (none_list stem s.sources)))) scope

-- ---- how many rounds there are

names_joined : (sets : List DataSet) → flat_map extent_names sets ≡ map (λ (e : Extent). e.signal) (asked_by_all sets)
names_joined [] = refl
names_joined (x ∷ xs) = ap (λ l. extent_names x ++ l) (names_joined xs) ∙ sym (map-append (λ (e : Extent). e.signal) (asked_by x) (asked_by_all xs))

module _ (stem : List ℕ) where
  -- the list without rows asks for one extent, and no other list asks
  one_asked : (s : VlSpec) (p : Plan) → asked_by_all (sets_of stem s p) ≡ the_extent stem ∷ []
  one_asked s p =
      flat_map_joined (map source_written s.sources) (none_list stem s.sources ∷ lists_made stem p)
      ∙ ap₂ (λ a b. a ++ (the_extent stem ∷ b)) (sources_ask stem s.sources) (lists_ask stem p)
    where
      flat_map_joined : (xs ys : List DataSet) → asked_by_all (xs ++ ys) ≡ asked_by_all xs ++ asked_by_all ys
      flat_map_joined xs ys = flat_map-append asked_by xs ys

  module _ (scales : List ScalePlan) (selections : List SelectionPlan) where
    abbrev pub of_selection : List ℕ → ℕ → Option SelectionPlan → Signal
    of_selection name place o = option_map_or (λ s. selection_signal stem scales name (at_place place s)) o (silent_signal name)

    never_computed : (name : List ℕ) (place : ℕ) (o : Option SelectionPlan) → is_computed (of_selection name place o) ≡ false
    never_computed name place None = refl
    never_computed name place (Some s) = refl

    count_more : (place : ℕ) (name : List ℕ) (k : ParamKind) (rest : List Signal) (more : List Expr)
        → length (filter is_computed rest) ≡ length more
        → length (filter is_computed (kind_at stem scales selections place name k ∷ rest)) ≡ length (cons_option (expression_in k) more)
    count_more place name (kind.Value c) rest more e = e
    count_more place name (kind.Expr x) rest more e = ap suc e
    count_more place name (kind.Select s) rest more e =
        ap (λ b. length (cond b (of_selection name place (slice_get selections place) ∷ filter is_computed rest) (filter is_computed rest)))
        (never_computed name place (slice_get selections place)) ∙ e

    counted : (place : ℕ) (params : List ParamOf) → length (filter is_computed (signals_from stem scales selections place params)) ≡ count_computed params
    counted place [] = refl
    counted place (p ∷ params) =
        count_more place p.name p.kind (signals_from stem scales selections (place_behind place p) params)
        (filter_map (λ (q : ParamOf). expression_in q.kind) params) (counted (place_behind place p) params)

    -- what is computed of the signals is what is computed of the parameters
    one_alike : (values : Values) (place : ℕ) (name : List ℕ) (k : ParamKind)
        → vega.computed_here values (kind_at stem scales selections place name k)
        ≡ option_map_or (λ e. (name, value_of null_row values e) ∷ []) (expression_in k) []
    one_alike values place name (kind.Value c) = refl
    one_alike values place name (kind.Expr e) = refl
    one_alike values place name (kind.Select s) =
        ap (λ b. cond b ((signal.name, vega.computed_value values signal) ∷ []) []) (never_computed name place (slice_get selections place))
      where
        signal : Signal
        signal = of_selection name place (slice_get selections place)

    all_alike : (values : Values) (place : ℕ) (params : List ParamOf)
        → flat_map (vega.computed_here values) (signals_from stem scales selections place params) ≡ all_computed values params
    all_alike values place [] = refl
    all_alike values place (p ∷ params) = ap₂ (λ a b. a ++ b) (one_alike values place p.name p.kind) (all_alike values (place_behind place p) params)

  rounds_counted : (s : VlSpec) (p : Plan)
      → length (own_names (signals_of stem p.scales p.selections s.params) (sets_of stem s p)) ≡ count_computed s.params + 1
  rounds_counted s p =
      let signals = signals_of stem p.scales p.selections s.params in
      let names = map (λ (x : Signal). x.name) (filter is_computed signals) in
      ap (λ l. length (names ++ l)) (names_joined (sets_of stem s p) ∙ ap (map (λ (e : Extent). e.signal)) (one_asked s p))
      ∙ length-append names (none_name stem ∷ [])
      ∙ ap (λ n. n + 1) (length-map (filter is_computed signals) (λ (x : Signal). x.name) ∙ counted p.scales p.selections 0 s.params)

-- ---- what is read of what is settled

found_more : (b : Bool) (x : List ℕ × Option Cell) (all some : Option (List ℕ × Option Cell))
    → option_map_or (λ (e : List ℕ × Option Cell). e.1) all (Some Null)
    ≡ option_map_or (λ (e : List ℕ × Option Cell). e.1) some (Some Null)
    → option_map_or (λ (e : List ℕ × Option Cell). e.1) (cond b (Some x) all) (Some Null)
    ≡ option_map_or (λ (e : List ℕ × Option Cell). e.1) (cond b (Some x) some) (Some Null)
found_more true x all some e = refl
found_more false x all some e = e

-- null behind them changes no value
pub null_behind : (stem name : List ℕ) (own : Settled) → value_under (own ++ null_signal stem ∷ []) name ≡ value_under own name
null_behind stem name [] = by (bytes_eq (none_name stem) name)
  where
    by : (b : Bool) → option_map_or (λ (e : List ℕ × Option Cell). e.1) (cond b (Some (null_signal stem)) None) (Some Null) ≡ Some Null
    by true = refl
    by false = refl
null_behind stem name (x ∷ own) =
    found_more (bytes_eq x.0 name) x (find (has_name name) (own ++ null_signal stem ∷ [])) (find (has_name name) own) (null_behind stem name own)

module _ (stores : List StoreOf) where
  abbrev HasNone : List ℕ × Option Cell → Type 0
  HasNone entry = HasNoStore stores entry.0

  abbrev member_of : List ℕ → List ℕ → Cell
  member_of name field = (values_of_stores stores).member name field

  not_there : (name field : List ℕ) → HasNoStore stores name → member_of name field ≡ Null
  not_there name field e = ap (λ o. option_map_or (ends_along field) o Null) e

  hidden_more : (b rest : Bool) (c : Cell) → (b ≡ true → c ≡ Null) → cond rest Null c ≡ c → cond (b || rest) Null c ≡ c
  hidden_more true rest c h k = sym (h refl)
  hidden_more false rest c h k = k

  -- a name that is theirs hides no store
  nothing_hidden : (name field : List ℕ) (own : Settled) → All HasNone own → cond (is_own own name) Null (member_of name field) ≡ member_of name field
  nothing_hidden name field [] h = refl
  nothing_hidden name field (x ∷ own) h =
      hidden_more (bytes_eq x.0 name) (is_own own name) (member_of name field)
      (λ is. not_there name field (subst (HasNoStore stores) ((bytes_eq-Decides x.0 name).0 is) (All-head HasNone x own h)))
      (nothing_hidden name field own (All-tail HasNone x own h))

  -- what is read where they are settled so, alone and with null behind them
  read_alone : (own : Settled) → All HasNone own → values_inside own (values_of_stores stores) ≡ values_over stores own
  read_alone own h = λ i. record (values_of_stores stores) {
    value = value_under own;
    member = λ name field. nothing_hidden name field own h i;
  }

  read_with_null : (stem : List ℕ) (own : Settled) → All HasNone own → HasNoStore stores (none_name stem)
      → values_inside (own ++ null_signal stem ∷ []) (values_of_stores stores) ≡ values_over stores own
  read_with_null stem own h none = λ i. record (values_of_stores stores) {
    value = λ name. null_behind stem name own i;
    member = λ name field. nothing_hidden name field (own ++ null_signal stem ∷ [])
        (All-append HasNone own (null_signal stem ∷ []) h (All-cons HasNone (null_signal stem) [] none (All-nil HasNone))) i;
  }

  given_have_none : (given : List (List ℕ × Cell)) → All (λ (entry : List ℕ × Cell). HasNoStore stores entry.0) given → All HasNone (as_given given)
  given_have_none given h = All-map HasNone (λ (entry : List ℕ × Cell). (entry.0, Some entry.1)) given h

  one_has_none : (values : Values) (name : List ℕ) (o : Option Expr) → (is_some o ≡ true → HasNoStore stores name)
      → All HasNone (option_map_or (λ e. (name, value_of null_row values e) ∷ []) o [])
  one_has_none values name None h = All-nil HasNone
  one_has_none values name (Some e) h = All-cons HasNone (name, value_of null_row values e) [] (h refl) (All-nil HasNone)

  computed_have_none : (values : Values) (params : List ParamOf) → All (IsApart stores) params → All HasNone (all_computed values params)
  computed_have_none values [] h = All-nil HasNone
  computed_have_none values (p ∷ params) h =
      All-append HasNone (computed_here values p) (all_computed values params)
      (one_has_none values p.name (expression_in p.kind) (All-head (IsApart stores) p params h))
      (computed_have_none values params (All-tail (IsApart stores) p params h))

-- ---- rounds

module _ (stem : List ℕ) (s : VlSpec) (p : Plan) (st : State) (apart : StoresAreApart stem s.params st) where
  abbrev pub outer : Values
  outer = values_of_stores st.stores

  abbrev pub given : Settled
  given = as_given st.params

  -- so many times over, there and here
  abbrev pub there : ℕ → Settled
  there n = own_after st.sources no_lists outer given (signals_of stem p.scales p.selections s.params) (sets_of stem s p) n

  abbrev pub here : ℕ → Settled
  here n = settled_after s.params st.stores given n

  pub next_alike : (n : ℕ) → values_inside (there n) outer ≡ values_over st.stores (here n) → there (suc n) ≡ here (suc n) ++ null_signal stem ∷ []
  next_alike n e =
      ap (λ values. given ++ flat_map (vega.computed_here values) (signals_of stem p.scales p.selections s.params)
      ++ set_extents values st.sources no_lists (sets_of stem s p)) e
      ∙ ap₂ (λ a b. given ++ a ++ b) (all_alike stem p.scales p.selections (values_over st.stores (here n)) 0 s.params)
      (one_extent (values_over st.stores (here n)) st.sources stem s p no_lists)

  have_none : (n : ℕ) → All (HasNone st.stores) (here n)
  have_none zero = given_have_none st.stores st.params apart.given
  have_none (suc n) =
      All-append (HasNone st.stores) given (all_computed (values_over st.stores (here n)) s.params) (given_have_none st.stores st.params apart.given)
      (computed_have_none st.stores (values_over st.stores (here n)) s.params apart.computed)

  pub read_alike : (n : ℕ) → values_inside (there n) outer ≡ values_over st.stores (here n)
  read_alike zero = read_alone st.stores given (have_none zero)
  read_alike (suc n) =
      ap (λ own. values_inside own outer) (next_alike n (read_alike n)) ∙ read_with_null st.stores stem (here (suc n)) (have_none (suc n)) apart.none

  pub plus_one : (n : ℕ) → n + 1 ≡ suc n
  plus_one n = omega arith

  pub settle : settled_top stem s p st ≡ settled s.params st ++ null_signal stem ∷ []
  settle =
      ap there (rounds_counted stem s p)
      ∙ subst (λ k. there k ≡ here k ++ null_signal stem ∷ []) (sym (plus_one (count_computed s.params)))
      (next_alike (count_computed s.params) (read_alike (count_computed s.params)))

  have_none_at_last : All (HasNone st.stores) (settled s.params st)
  have_none_at_last = have_none (count_computed s.params + 1)

  pub read_at_last : values_inside (settled_top stem s p st) outer ≡ values_in s.params st
  read_at_last = ap (λ own. values_inside own outer) settle ∙ read_with_null st.stores stem (settled s.params st) have_none_at_last apart.none

pub signals_settle_alike : SignalsSettleAlike
signals_settle_alike = settle

pub values_are_alike : ValuesAreAlike
values_are_alike = read_at_last
