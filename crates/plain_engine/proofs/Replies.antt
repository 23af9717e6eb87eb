-- What a command asks.
use Rattle.std.proofs.Common.{◌≡◌, ℕ, ◌+◌, ◌<◌, Bool, true, false, ◌&&◌, ◌||◌, nat_lt, List, [], length, map, position, refl, sym}
use Rattle.std.proofs.Common.{ap, subst, ◌∙◌, arith}
use Rattle.std.specs.Prelude.{Option, Some, None, Result, Ok, Err, IfOk, OnOk, if◌then◌else◌, sum_by}
use Rattle.std.specs.List.{list_any, list_all}
use Rattle.std.specs.Option.{option_map}
use Rattle.std.specs.Str.{bytes_eq}
use Rattle.std.proofs.lemmas.List.{length-map}
use Rattle.cell_value.specs.Datum.{Datum}
use Rattle.cell_value.specs.declared.cell.Cell.{Cell}
use Rattle.cell_value.specs.declared.state.ChartState.{ChartState}
use Rattle.cell_value.specs.declared.state.Named.{Named}
use Rattle.cell_value.specs.State.{Dataset, State, IsState, dataset_of, state_of, most_rows, greatest_id}
use Rattle.data_rows.specs.JsonRows.{first_bad}
use Rattle.fixed_num.specs.Ranges.{◌>>=◌}
use Rattle.plot_scenes.specs.declared.scenes.Drawing.{Drawing}
use Rattle.scene_tree.specs.Outcome.{Outcome, Drawn, outcome_map}
use Rattle.param_flow.specs.declared.command.ChangeOf.{ChangeOf}
use Rattle.param_flow.specs.declared.command.Command.{Command}
use Rattle.param_flow.specs.declared.command.Command.TheVariants.{Change, Set, Event as OfMouse}
use Rattle.param_flow.specs.declared.event.Event.{Event}
use Rattle.param_flow.specs.declared.reply.Reply.{Reply}
use Rattle.param_flow.specs.declared.reply.Reply.TheVariants.{Done, Refused}
use Rattle.param_flow.specs.declared.reply.Cause.TheVariants as cause
use Rattle.param_flow.specs.Change.{names_of_change}
use Rattle.param_flow.specs.Semantics.{Semantics, Picture, has_source, has_param}
use Rattle.param_flow.specs.States.{settable_names}
use Rattle.param_flow.specs.Machine.{count_left, is_past_limit, has_names, reply_to_state, reply_to_change}
use Rattle.param_flow.specs.Machine.{reply_to_event, reply_to_set, state_by, state_changed, state_if, state_set}
use Rattle.param_flow.specs.Machine.{reply_of, state_after}
use Rattle.param_flow.specs.inner.Sources.{with_data, names_of, AreApart, new_data, state_in, rows_changed, staying_in_all, is_past}
use Rattle.param_flow.proofs.StateRows.{still_state, names_stay}
use Rattle.param_flow.proofs.SourcePlaces.{changed_at, counted_at, few_at}
use Rattle.vega_spec.specs.declared.spec.VgSpec.{VgSpec}
use Rattle.vega_spec.specs.Names.{sources_of}
use Rattle.vega_copies.specs.Tested.{KeepsRules}
use Rattle.vega_meaning.specs.Charts.{vega_picture_of}
use Rattle.vega_selections.specs.Kept.{KeepsSelections}
use Rattle.vega_meaning.specs.Semantics.{vega_semantics, signals_in, values_in}
use Rattle.play_script.specs.Meaning.{Meaning}
use Rattle.plain_engine.specs.inner.Kept.{param_names, IsKept, MayBeStores}
use Rattle.plain_engine.specs.inner.Pictures.{shown}
use Rattle.plain_engine.specs.inner.Sources.{values_over, sources_changed, reply_to_sources, reply_at, state_at, IsDrawingOf}
use Rattle.plain_engine.proofs.Places.{has_name, placed, not_placed, any_named}

module _ (meaning : Semantics) (st : State) (c : Command) (source : List ℕ) (change : ChangeOf) (name : List ℕ) (is : c
    ≡ Change source change) (named : name ≡ source) where
  -- a change asks what its parts ask
  pub asked : reply_to_change meaning st name change ≡ reply_of meaning st c
  asked = ap (λ name. reply_to_change meaning st name change) named ∙ ap (reply_of meaning st) (sym is)

  -- and so does the state after it
  pub done : {M E : Type 0} (meant : State → M) (now : M) (result : Result Reply E)
      → IfOk result (λ reply. reply ≡ reply_to_change meaning st name change)
      → IfOk result (λ reply. now ≡ meant (state_if reply st (state_changed (meaning.values st) st name change)))
      → OnOk result (now ≡ meant (state_after meaning st c))
  done meant now (Ok reply) replied stands =
      stands ∙ ap (λ reply. meant (state_if reply st (state_changed (meaning.values st) st name change))) replied
      ∙ ap (λ name. meant (state_if (reply_to_change meaning st name change) st (state_changed (meaning.values st) st name change))) named
      ∙ ap (λ c. meant (state_after meaning st c)) (sym is)
  done meant now (Err e) replied stands = tt

module _ (meaning : Semantics) (st : State) (c : Command) (param : List ℕ) (value : Cell) (name : List ℕ) (is : c ≡ Set param value)
    (named : name ≡ param) where
  -- so does a setting
  pub asked_set : reply_to_set meaning st name value ≡ reply_of meaning st c
  asked_set = ap (λ name. reply_to_set meaning st name value) named ∙ ap (reply_of meaning st) (sym is)

  pub done_set : {M E : Type 0} (meant : State → M) (now : M) (result : Result Reply E)
      → IfOk result (λ reply. reply ≡ reply_to_set meaning st name value)
      → IfOk result (λ reply. now ≡ meant (state_if reply st (Some (state_set st name value))))
      → OnOk result (now ≡ meant (state_after meaning st c))
  done_set meant now (Ok reply) replied stands =
      stands ∙ ap (λ reply. meant (state_if reply st (Some (state_set st name value)))) replied
      ∙ ap (λ name. meant (state_if (reply_to_set meaning st name value) st (Some (state_set st name value)))) named
      ∙ ap (λ c. meant (state_after meaning st c)) (sym is)
  done_set meant now (Err e) replied stands = tt

module _ (meaning : Semantics) (st : State) (c : Command) (event asked_for : Event) (is : c ≡ OfMouse event) (same : asked_for ≡ event) where
  -- so does an event
  pub asked_event : reply_to_event meaning st asked_for ≡ reply_of meaning st c
  asked_event = ap (reply_to_event meaning st) same ∙ ap (reply_of meaning st) (sym is)

  pub done_event : {M E : Type 0} (meant : State → M) (now : M) (result : Result Reply E)
      → IfOk result (λ reply. reply ≡ reply_to_event meaning st asked_for)
      → IfOk result (λ reply. now ≡ meant (state_if reply st (Some (state_by meaning st asked_for))))
      → OnOk result (now ≡ meant (state_after meaning st c))
  done_event meant now (Ok reply) replied stands =
      stands ∙ ap (λ reply. meant (state_if reply st (Some (state_by meaning st asked_for)))) replied
      ∙ ap (λ e. meant (state_if (reply_to_event meaning st e) st (Some (state_by meaning st e)))) same
      ∙ ap (λ c. meant (state_after meaning st c)) (sym is)
  done_event meant now (Err e) replied stands = tt

-- what is meant after a change
pub meant_by : {E : Type 0} (g : VgSpec) (st now : State) (found other : Option State) → other ≡ found → (result : Result Reply E)
    → IfOk result (λ reply. now ≡ state_if reply st found)
    → (let meant : State → Meaning = λ st. record { spec = g; state = st } in IfOk result (λ reply. meant now ≡ meant
    (state_if reply st other)))
meant_by g st now found other same (Ok reply) h =
    let meant : State → Meaning = λ st. record { spec = g; state = st } in
    ap meant (h ∙ ap (state_if reply st) (sym same))
meant_by g st now found other same (Err e) h = tt

module _ (g : VgSpec) (st : ChartState) (name : List ℕ) (change : ChangeOf) (named : names_of (map dataset_of st.sources) ≡ sources_of g) where
  -- the source is there
  there : list_any (has_name name) st.sources ≡ has_source (vega_semantics g) name
  there = sym (any_named name st.sources) ∙ ap (list_any (λ other. bytes_eq other name)) named

  -- it isn't
  pub not_there : None ≡ position (has_name name) st.sources
      → Refused cause.Name ≡ reply_to_change (vega_semantics g) (state_of st) name change
  not_there e =
      let none : has_source (vega_semantics g) name ≡ false = sym there ∙ not_placed name st.sources e in
      rw none refl

  module _ (index : ℕ) (e : Some index ≡ position (has_name name) st.sources) where
    -- a name of a parameter isn't there
    pub not_known : list_all (has_param (vega_semantics g)) (names_of_change change) ≡ false
        → Refused cause.Name ≡ reply_to_change (vega_semantics g) (state_of st) name change
    not_known unknown =
        let here : has_source (vega_semantics g) name ≡ true = sym there ∙ (placed name st.sources index e).any in
        rw (here, unknown) refl

    module _ (known : list_all (has_param (vega_semantics g)) (names_of_change change) ≡ true) where
      has_all : has_names (vega_semantics g) name change ≡ true
      has_all =
          let here : has_source (vega_semantics g) name ≡ true = sym there ∙ (placed name st.sources index e).any in
          λ i. here i && known i

      -- a row can't be read
      pub row_refused : (bad : ℕ × List ℕ) → first_bad 0 change.insert ≡ Some bad
          → Refused (cause.Row bad.0 bad.1) ≡ reply_to_change (vega_semantics g) (state_of st) name change
      row_refused bad is = rw (has_all, is) refl

      module _ (good : first_bad 0 change.insert ≡ None) (apart : AreApart (sources_of g)) where
        own_names : AreApart (names_of (map dataset_of st.sources))
        own_names = subst AreApart (sym named) apart

        -- the state of these sources after it
        abbrev state_now : List Dataset → State
        state_now sources = record {
          next_id = st.next_id + length change.insert;
          sources = sources;
          params = st.params;
          stores = st.stores;
        }

        made : (found : Option (List Dataset)) → (found >>= λ sources. Some (state_now sources)) ≡ option_map state_now found
        made None = refl
        made (Some sources) = refl

        -- the state after it
        pub changed : state_changed (values_in g (state_of st)) (state_of st) name change ≡ state_at (signals_in g (state_of st)) (state_of st) index change
        changed =
            let place = placed name st.sources index e in
            let found = changed_at (values_in g (state_of st)) name change (new_data st.next_id change.insert)
            (map dataset_of st.sources) index
            (omega (arith, place.within, length-map st.sources dataset_of)) own_names place.named in
            made _ ∙ ap (option_map state_now) found

        -- the limit
        limit : is_past_limit (values_in g (state_of st)) (state_of st) name change
            ≡ is_past (values_over st.stores (signals_in g (state_of st))) st.next_id (map dataset_of st.sources) index change
        limit =
            let place = placed name st.sources index e in
            let count = counted_at (values_in g (state_of st)) name change [] (map dataset_of st.sources) index
            (omega (arith, place.within, length-map st.sources dataset_of)) own_names place.named in
            let few = few_at (map dataset_of st.sources) index in
            let same : sum_by (count_left (values_in g (state_of st)) name change) (map dataset_of st.sources)
            ≡ staying_in_all (values_over st.stores (signals_in g (state_of st))) st.next_id (map dataset_of st.sources) index change =
            omega (arith, count, few) in
            ap (λ n. nat_lt most_rows (n + length change.insert) || nat_lt (greatest_id + 1) (st.next_id + length change.insert)) same

        reply_to_found : (found : Option (List Dataset))
            → reply_to_state (vega_semantics g) (option_map state_now found)
            ≡ reply_to_sources g st.stores st.params found
        reply_to_found None = refl
        reply_to_found (Some sources) = refl

        -- the reply
        pub replied : reply_at g st.stores st.next_id st.params (signals_in g (state_of st)) (map dataset_of st.sources) index change
            ≡ reply_to_change (vega_semantics g) (state_of st) name change
        replied =
            let last = ap (reply_to_state (vega_semantics g)) changed
            ∙ reply_to_found (sources_changed st.stores st.next_id (signals_in g (state_of st)) (map dataset_of st.sources) index change) in
            let whole : (if is_past_limit (values_in g (state_of st)) (state_of st) name change then Refused cause.Limit
            else reply_to_state (vega_semantics g) (state_changed (values_in g (state_of st)) (state_of st) name change))
            ≡ reply_at g st.stores st.next_id st.params (signals_in g (state_of st)) (map dataset_of st.sources) index change =
            λ i. if limit i then Refused cause.Limit else last i in
            rw (has_all, good) (sym whole)

some_of : (found : Option (List Datum)) (sources now : List Dataset) (index : ℕ) → option_map (with_data sources index) found ≡ Some now
    → (new : List Datum) × (found ≡ Some new) × (now ≡ with_data sources index new)
some_of None sources now index h = absurd (cc)
some_of (Some new) sources now index h = (new, refl, cc)

-- what is done isn't past the limit
done_is_free : (past : Bool) (reply : Reply) → Done ≡ (if past then Refused cause.Limit else reply) → past ≡ false
done_is_free true reply h = absurd (cc)
done_is_free false reply h = refl

-- what is held of a picture is its scene, and its scales
scene_held : (g : VgSpec) (held : Drawing) (o : Outcome Picture) → o ≡ Drawn (shown g held) → outcome_map (λ (p : Picture). p.scene) o ≡ Drawn held.scene
scene_held g held o e = ap (outcome_map (λ (p : Picture). p.scene)) e

-- what is kept of a state of which this is drawn
pub kept_with : (g : VgSpec) (st : ChartState) (held : Drawing) → KeepsRules g → ∥ KeepsSelections g ∥₁ → IsState (state_of st)
    → names_of (map dataset_of st.sources) ≡ sources_of g → param_names st.params ≡ settable_names (vega_semantics g).params
    → MayBeStores g st.stores → IsDrawingOf g (map dataset_of st.sources) st.params st.stores held → IsKept g st held
kept_with g st held rules selections is sources params stores drawn = record {
  rules = rules;
  selections = selections;
  is = is;
  sources = sources;
  params = params;
  stores = stores;
  scene = scene_held g held (vega_picture_of g (state_of st)) drawn.picture;
  scales = drawn.scales;
}

module _ (g : VgSpec) (st : ChartState) (old : Drawing) (signals : List (List ℕ × Cell)) (index : ℕ) (change : ChangeOf) (within : index < length st.sources)
    (h : IsKept g st old) where
  -- what is kept after a change that is done
  pub kept_done : (sources : List Named) (held : Drawing)
      → sources_changed st.stores st.next_id signals (map dataset_of st.sources) index change ≡ Some (map dataset_of sources)
      → Done ≡ reply_at g st.stores st.next_id st.params signals (map dataset_of st.sources) index change
      → IsDrawingOf g (map dataset_of sources) st.params st.stores held
      → (let now : ChartState = record {
        next_id = st.next_id + length change.insert;
        sources = sources;
        params = st.params;
        stores = st.stores;
      } in
      IsKept g now held)
  kept_done sources held changed replied drawn =
      let free = done_is_free _ _ replied in
      let values = values_over st.stores signals in
      let found = some_of (rows_changed values st.next_id (map dataset_of st.sources) index change) (map dataset_of st.sources)
      (map dataset_of sources) index changed in
      let still = still_state st.stores st.params values st.next_id (map dataset_of st.sources) index change
      (omega (arith, within, length-map st.sources dataset_of)) h.is found.0 free found.1 in
      let same = found.2 in
      let now : ChartState = record {
        next_id = st.next_id + length change.insert;
        sources = sources;
        params = st.params;
        stores = st.stores;
      } in
      kept_with g now held h.rules h.selections
      (subst (λ sources. IsState (state_in st.stores st.params (st.next_id + length change.insert) sources)) (sym same) still)
      (ap names_of same ∙ names_stay (map dataset_of st.sources) index found.0 ∙ h.sources) h.params h.stores drawn

-- a state whose sources are as they were is kept, with what is drawn of it
pub kept_same : (g : VgSpec) (st : ChartState) (old held : Drawing) (sources : List Named) → IsKept g st old → sources ≡ st.sources
    → held ≡ old
    → (let now : ChartState = record { next_id = st.next_id; sources = sources; params = st.params; stores = st.stores } in IsKept g now held)
kept_same g st old held sources h same shown =
    let at : List Named → Type 0 = λ sources. (let now : ChartState = record {
      next_id = st.next_id;
      sources = sources;
      params = st.params;
      stores = st.stores;
    } in
    IsKept g now held) in
    subst at (sym same) (subst (IsKept g st) (sym shown) h)
