-- Events on what is drawn of a state.
use Rattle.std.proofs.Common.{◌≡◌, ℕ, Bool, true, Some, List, [], ◌∷◌, map, refl, sym, ap, ◌∙◌, subst}
use Rattle.std.specs.Prelude.{◌≢◌, Result, Ok, Err, IfOk}
use Rattle.std.specs.List.{All, AllPairs}
use Rattle.std.proofs.lemmas.List.Elements.{All-nil, All-cons}
use Rattle.std.proofs.Math.Logic.{∥∥₁_elim, ∥∥₁_map, ∥∥₁_prop}
use mathlib.Core.HLevel.{⊥_prop}
use Rattle.cell_value.specs.State.{State, dataset_of, state_of}
use Rattle.cell_value.specs.declared.state.ChartState.{ChartState}
use Rattle.cell_value.specs.declared.state.Params.{Params}
use Rattle.cell_value.specs.declared.state.StoreOf.{StoreOf}
use Rattle.expr_eval.specs.Stores.{values_of_stores}
use Rattle.scale_kit.specs.Scale.{AreScales}
use Rattle.scene_tree.specs.declared.scene.Scene.{Scene}
use Rattle.scene_tree.specs.Outcome.{Outcome, Drawn, Overflow, Panels, ◌>>=◌, outcome_map}
use Rattle.plot_scenes.specs.declared.scenes.Drawing.{Drawing}
use Rattle.selection_events.specs.declared.drags.Drag.{Drag}
use Rattle.selection_events.specs.declared.selection.PlotOf.{PlotOf}
use Rattle.selection_events.specs.declared.selection.SelectionOf.{SelectionOf}
use Rattle.selection_events.specs.Events.{Seen}
use Rattle.selection_events.specs.Kept.{Temporal, AreStoresOf, IsSeenOf, IsSelection, ClicksKeepStores, TogglesKeepStores, ClearsKeepStores, DragsKeepStores}
use Rattle.param_flow.specs.declared.event.Event.{Event}
use Rattle.param_flow.specs.declared.event.Event.TheVariants as mouse
use Rattle.param_flow.specs.Machine.{state_by, state_on, stores_on, with_stores}
use Rattle.param_flow.specs.Semantics.{Picture, seen_over}
use Rattle.vega_spec.specs.declared.spec.VgSpec.{VgSpec}
use Rattle.vega_copies.specs.Tested.{KeepsRules}
use Rattle.vega_selections.specs.declared.selections.VgSelection.{VgSelection}
use Rattle.vega_selections.specs.Kept.{KeepsSelections}
use Rattle.vega_selections.specs.Plots.{plots_of}
use Rattle.vega_selections.specs.Selections.{selections_of}
use Rattle.vega_events.specs.Events.{UnitLists, params_after}
use Rattle.vega_events.specs.Laws.{EventsAreOfStores, inverted_in, plain_of}
use Rattle.vega_events.specs.Premises.{FieldsAreTold, IsTold, ItemsAreOfRows}
use Rattle.vega_charts.specs.Charts.{drawing_of}
use Rattle.vega_meaning.specs.Charts.{brushed_scene, inverts_in, picture_of, vega_picture_of}
use Rattle.vega_meaning.specs.Laws.{SpecificationsMean, DrawnScalesAreSound, ItemsHaveRows}
use Rattle.vega_meaning.specs.Semantics.{vega_semantics, rows_in}
use Rattle.vega_meaning.specs.States.{IsStateOf}
use Rattle.vega_meaning.specs.Times.{temporal_of}
use Rattle.plain_engine.specs.inner.Drawn.{IsDrawnOver}
use Rattle.plain_engine.specs.inner.Kept.{HasStores, IsKept, MayBeStores, is_state}
use Rattle.plain_engine.specs.inner.Pictures.{shown, scales_of}
use Rattle.plain_engine.specs.inner.Sources.{IsDrawingOf}
use Rattle.plain_engine.proofs.Replies.{kept_with}

-- what holds of an answer, and with it what follows
pub ok_more : {X E : Type 0} (P Q : X → Type 0) (result : Result X E) → ((x : X) → P x → Q x) → IfOk result P → IfOk result Q
ok_more P Q (Ok x) f h = f x h
ok_more P Q (Err e) f h = tt

-- all is told where all of each unit is
all_of : (names : List (List ℕ)) → All (λ (name : List ℕ). true ≡ true) names
all_of [] = All-nil (λ (name : List ℕ). true ≡ true)
all_of (name ∷ names) = All-cons (λ (name : List ℕ). true ≡ true) name names refl (all_of names)

abbrev tells_all : ℕ → List ℕ → Bool
tells_all unit name = true

pub all_told : (selections : List VgSelection) → FieldsAreTold (λ unit name. true) selections
all_told [] = All-nil (IsTold tells_all)
all_told (v ∷ vs) = All-cons (IsTold tells_all) v vs (λ unit is fields kept. all_of fields) (all_told vs)

-- ---- what is drawn of a state

-- what was drawn, by its scales
pub drawn_by_scales : (o : Outcome Drawing) (held : Drawing) → outcome_map scales_of o ≡ Drawn held.scales
    → (drawing : Drawing) × (o ≡ Drawn drawing) × (drawing.scales ≡ held.scales)
drawn_by_scales (Drawn d) held e = (d, refl, cc e)
drawn_by_scales Overflow held e = absurd (cc e)
drawn_by_scales (Panels n) held e = absurd (cc e)

-- a picture of a drawing with a scene
abbrev pictured : VgSpec → Drawing → Scene → Picture
pictured g d scene = record { scene = scene; inverts = inverts_in g d }

-- the picture, by its scene and its scales
picture_by : (g : VgSpec) (stores : List StoreOf) (o : Outcome Drawing) (held : Drawing) → outcome_map scales_of o ≡ Drawn held.scales
    → outcome_map (λ (p : Picture). p.scene) (o >>= picture_of g stores) ≡ Drawn held.scene
    → (o >>= picture_of g stores) ≡ Drawn (shown g held)
picture_by g stores Overflow held scales scene = absurd (cc scales)
picture_by g stores (Panels n) held scales scene = absurd (cc scales)
picture_by g stores (Drawn d) held scales scene =
    let same : d.scales ≡ held.scales = cc scales in
    by_scene (brushed_scene g stores d.scales d.scene) same scene
  where
    by_scene : (o : Outcome Scene) → d.scales ≡ held.scales
        → outcome_map (λ (p : Picture). p.scene) (outcome_map (pictured g d) o) ≡ Drawn held.scene
        → outcome_map (pictured g d) o ≡ Drawn (shown g held)
    by_scene (Drawn s) same e =
        let scenes : s ≡ held.scene = cc e in
        λ i. Drawn (record { scene = scenes i; inverts = inverted_in (same i) (selections_of g) })
    by_scene Overflow same e = absurd (cc e)
    by_scene (Panels n) same e = absurd (cc e)

module _ (g : VgSpec) (st : ChartState) (held : Drawing) (h : IsKept g st held) where
  abbrev now : State
  now = state_of st

  pub is_drawn : IsDrawnOver g (values_of_stores st.stores) st.params (map dataset_of st.sources)
  is_drawn =
      let found = drawn_by_scales (drawing_of g (values_of_stores st.stores) st.params (map dataset_of st.sources)) held h.scales in
      (found.0, found.1)

  pub scales_held : DrawnScalesAreSound → AreScales held.scales
  scales_held sound =
      let found = drawn_by_scales (drawing_of g (values_of_stores st.stores) st.params (map dataset_of st.sources)) held h.scales in
      subst AreScales found.2 (sound g (values_of_stores st.stores) st.params (map dataset_of st.sources) found.0 h.rules found.1)

  pub picture_held : vega_picture_of g now ≡ Drawn (shown g held)
  picture_held = picture_by g st.stores (drawing_of g (values_of_stores st.stores) st.params (map dataset_of st.sources)) held h.scales h.scene

  -- the rows that each unit draws
  abbrev pub rows_held : UnitLists
  rows_held unit = Some (rows_in g now unit)

  pub items_held : ItemsHaveRows → (rows : UnitLists) → ((unit : ℕ) → rows unit ≡ rows_held unit) → ItemsAreOfRows rows held.scene
  items_held law rows same =
      subst (λ rows. ItemsAreOfRows rows held.scene) (λ i unit. sym (same unit) i) (law g now (shown g held) h.rules picture_held)

  -- ---- the state after an event

  abbrev pub seen_held : Seen
  seen_held = seen_over (rows_in g now) (shown g held)

  abbrev pub stores_by : Event → List StoreOf
  stores_by e = stores_on (plots_of g) (map plain_of (selections_of g)) seen_held e st.stores

  state_is : (e : Event) → state_by (vega_semantics g) now e ≡ with_stores now (stores_by e)
  state_is e = ap (state_on (plots_of g) (map plain_of (selections_of g)) (rows_in g now) now e) picture_held

  own_names : AllPairs (λ a b. a ≢ b) (map (λ (v : VgSelection). v.selection.name) (selections_of g))
  own_names = λ i j d before within same. ∥∥₁_elim h.selections ⊥_prop (λ (k : KeepsSelections g). k.own_names i j d before within same)

  module _ (law : EventsAreOfStores) (e : Event) (after : Params) (rows : UnitLists) (given : Params) (same : (unit : ℕ) → rows unit ≡ rows_held unit)
      (of : given ≡ record { params = st.params; stores = st.stores }) (is : after ≡ params_after g given held.scales held.scene rows e) where
    stores_are : after.stores ≡ stores_by e
    stores_are =
        ap (λ (p : Params). p.stores) (is ∙ (λ i. params_after g (of i) held.scales held.scene (λ unit. same unit i) e))
        ∙ law e (plots_of g) held.scales held.scene rows_held (selections_of g) st.stores own_names

    pub state_after_is : with_stores now after.stores ≡ state_by (vega_semantics g) now e
    state_after_is = ap (with_stores now) stores_are ∙ sym (state_is e)

    module _ (means : SpecificationsMean) (clicks : ClicksKeepStores) (toggles : TogglesKeepStores) (clears : ClearsKeepStores) (drags : DragsKeepStores) where
      kept_by : (e : Event) (temporal : Temporal) (plots : List PlotOf) (selections : List SelectionOf) (seen : Seen) (stores : List StoreOf)
          → IsSeenOf temporal plots seen → All IsSelection selections → AreStoresOf temporal plots selections stores
          → AreStoresOf temporal plots selections (stores_on plots selections seen e stores)
      kept_by (mouse.Click x y) = clicks x y
      kept_by (mouse.Shift x y) = toggles x y
      kept_by (mouse.Double x y) = clears x y
      kept_by (mouse.Drag x1 y1 x2 y2) = drags (record { x1 = x1; y1 = y1; x2 = x2; y2 = y2 })

      left : KeepsSelections g → IsStateOf g now → HasStores g (stores_by e)
      left k is =
          let meant = means g h.rules k in
          kept_by e (temporal_of g) (plots_of g) (map plain_of (selections_of g)) seen_held st.stores (meant.seen now (shown g held) is picture_held)
          meant.selections is.stores

      pub stores_after_are : MayBeStores g after.stores
      stores_after_are =
          subst (MayBeStores g) (sym stores_are)
          (∥∥₁_elim h.selections ∥∥₁_prop (λ k. ∥∥₁_map (is_state g st held h) (λ is. left k is)))

-- what is kept once stores were put in place
pub kept_stored : (g : VgSpec) (st : ChartState) (old held : Drawing) (stores : List StoreOf) → IsKept g st old → MayBeStores g stores
    → IsDrawingOf g (map dataset_of st.sources) st.params stores held
    → (let put : ChartState = record { next_id = st.next_id; sources = st.sources; params = st.params; stores = stores } in IsKept g put held)
kept_stored g st old held stores h may drawn =
    let put : ChartState = record { next_id = st.next_id; sources = st.sources; params = st.params; stores = stores } in
    kept_with g put held h.rules h.selections (record {
      ids_read = h.is.ids_read;
      no_branch = h.is.no_branch;
      ids_rise = h.is.ids_rise;
      ids_distinct = h.is.ids_distinct;
      ids_below_next = h.is.ids_below_next;
      next_id_from = h.is.next_id_from;
      next_id_to = h.is.next_id_to;
      few_rows = h.is.few_rows;
    }) h.sources h.params may drawn

-- what is kept of a state that is opened
pub kept_opened : (g : VgSpec) (st : ChartState) (held : Drawing) → KeepsRules g → KeepsSelections g → IsStateOf g (state_of st)
    → vega_picture_of g (state_of st) ≡ Drawn (shown g held)
    → outcome_map scales_of (drawing_of g (values_of_stores st.stores) st.params (map dataset_of st.sources)) ≡ Drawn held.scales → IsKept g st held
kept_opened g st held rules selections of picture scales =
    kept_with g st held rules (∣ selections ∣₁) of.is of.sources of.params (∣ of.stores ∣₁) (record { picture = picture; scales = scales })
