-- What events leave of stores is stores.
use Rattle.std.proofs.Common.{◌≡◌, ◌≢◌, ◌⊎◌, ℕ, ℤ, suc, Bool, true, false, cond, ◌||◌, Option, Some, None, List, [], ◌∷◌, map, inl, inr}
use Rattle.std.proofs.Common.{refl, sym, ap, subst, ◌∙◌, arith}
use Rattle.std.specs.Prelude.{zip, is_some, unwrap_or, slice_get, Contains}
use Rattle.std.specs.Option.{option_map, option_map_or}
use Rattle.std.specs.List.{All, AllPairs, AllZip, find}
use Rattle.std.proofs.lemmas.List.Elements.{All-nil, All-cons, All-head, All-tail}
use Rattle.fixed_num.specs.Ranges.{◌>>=◌}
use Rattle.cell_value.specs.declared.state.Extent.{Extent}
use Rattle.cell_value.specs.declared.state.StoreOf.{StoreOf}
use Rattle.cell_value.specs.Row.{Cells}
use Rattle.scene_tree.specs.declared.scene.Panel.{Panel}
use Rattle.selection_events.specs.declared.selection.SelectionOf.{SelectionOf}
use Rattle.selection_events.specs.declared.selection.DragOf.{DragOf}
use Rattle.selection_events.specs.declared.selection.PlotOf.{PlotOf}
use Rattle.selection_events.specs.declared.hits.Hit.{Hit}
use Rattle.selection_events.specs.declared.drags.Drag.{Drag}
use Rattle.selection_events.specs.declared.drags.ChannelHere.{ChannelHere}
use Rattle.selection_events.specs.Places.{place_at, panel_at, has_unit, plot_with, plot_of, units_in}
use Rattle.selection_events.specs.Hits.{hit_at}
use Rattle.selection_events.specs.Stores.{empty_store, with_tuples, is_same_tuple, toggled, store_clicked, store_toggled}
use Rattle.selection_events.specs.Drags.{extents_of, with_extents}
use Rattle.selection_events.specs.Events.{Seen, Change, with_units, store_changed, stores_changed, tuple_of, tuple_at, clicked_at}
use Rattle.selection_events.specs.Events.{toggled_at, cleared_at, channel_here, dragged_over, dragged_at}
use Rattle.selection_events.specs.Kept.{Temporal, fields_of, IsSelection, HasFields, IsFacetRow, IsSeenOf, HoldsTuples, HoldsExtents}
use Rattle.selection_events.specs.Kept.{IsExtentOf, IsStoreOf, AreStoresOf, ClicksKeepStores, TogglesKeepStores, ClearsKeepStores}
use Rattle.selection_events.specs.Kept.{DragsKeepStores}
use Rattle.selection_events.proofs.FieldLemmas.{made_of, toggled_differ, toggled_have}
use Rattle.selection_events.proofs.ExtentLemmas.{extents_are}

-- ---- the plot of a panel

contains_here : {X : Type 0} (x : X) (xs : List X) → Contains (x ∷ xs) x
contains_here x xs = (0, omega arith, refl)

contains_later : {X : Type 0} (y : X) (xs : List X) (x : X) → Contains xs x → Contains (y ∷ xs) x
contains_later y xs x h = let below = h.1 in (suc h.0, omega (arith, below), h.2)

found_at : {X : Type 0} (b : Bool) (y : X) (ys : List X) (o : Option X) (x : X)
    → (o ≡ Some x → Contains ys x) → cond b (Some y) o ≡ Some x → Contains (y ∷ ys) x
found_at true y ys o x later e = let same : y ≡ x = cc e in subst (Contains (y ∷ ys)) same (contains_here y ys)
found_at false y ys o x later e = contains_later y ys x (later e)

find_contains : {X : Type 0} (test : X → Bool) (xs : List X) (x : X) → find test xs ≡ Some x → Contains xs x
find_contains test [] x e = absurd (cc e)
find_contains test (y ∷ ys) x e = found_at (test y) y ys (find test ys) x (find_contains test ys x) e

plot_contains : (plots : List PlotOf) (view : Option ℕ) (plot : PlotOf) → (view >>= plot_with plots) ≡ Some plot → Contains plots plot
plot_contains plots None plot e = absurd (cc e)
plot_contains plots (Some unit) plot e = find_contains (has_unit unit) plots plot e

mapped_place : (panels : List Panel) (index : ℕ) (o : Option Panel) (place : ℕ × Panel) → slice_get panels index ≡ o
    → option_map (λ panel. (index, panel)) o ≡ Some place → slice_get panels place.0 ≡ Some place.1
mapped_place panels index None place is e = absurd (cc e)
mapped_place panels index (Some panel) place is e =
    let same : (index, panel) ≡ place = cc e in subst (λ (p : ℕ × Panel). slice_get panels p.0 ≡ Some p.1) same is

there : (panels : List Panel) (at : Option ℕ) (place : ℕ × Panel)
    → (at >>= (λ index. option_map (λ panel. (index, panel)) (slice_get panels index))) ≡ Some place
    → slice_get panels place.0 ≡ Some place.1
there panels None place e = absurd (cc e)
there panels (Some index) place e = mapped_place panels index (slice_get panels index) place refl e

-- ---- all stores, from one

zipped : {S T : Type 0} (f : S → T → T) (Q : S → Type 0) (R : S → T → Type 0) → ((s : S) (t : T) → Q s → R s t → R s (f s t))
    → (ss : List S) (ts : List T) → All Q ss → AllZip R ss ts → AllZip R ss (map (λ (p : S × T). f p.0 p.1) (zip ss ts))
zipped f Q R keeps [] [] q h = tt
zipped f Q R keeps [] (t ∷ ts) q h = absurd h
zipped f Q R keeps (s ∷ ss) [] q h = absurd h
zipped f Q R keeps (s ∷ ss) (t ∷ ts) q h = (keeps s t (All-head Q s ss q) h.0, zipped f Q R keeps ss ts (All-tail Q s ss q) h.1)

-- what tuples ask to be held
record AreTuples (s : SelectionOf) (tuples : List Cells) : Type 0 where
  different : AllPairs (λ a b. a ≢ b) tuples
  fields : All (HasFields (fields_of s)) tuples

module _ (temporal : Temporal) (plots : List PlotOf) (seen : Seen) (is_seen : IsSeenOf temporal plots seen) where
  -- what a change does to the store of a selection that has units in the plot of a panel
  abbrev KeepsOne : Change → Type 0
  KeepsOne change = (s : SelectionOf) (place : ℕ × Panel) (plot : PlotOf) (u : ℕ) (us : List ℕ) (store : StoreOf) → IsSelection s
      → slice_get seen.scene.panels place.0 ≡ Some place.1 → plot_of plots place.1 ≡ Some plot → Contains plots plot → units_in s plot ≡ u ∷ us
      → IsStoreOf temporal plots s store → IsStoreOf temporal plots s (change s place u (u ∷ us) store)

  module _ (change : Change) (keeps : KeepsOne change) where
    by_units : (s : SelectionOf) (place : ℕ × Panel) (plot : PlotOf) (units : List ℕ) (store : StoreOf) → IsSelection s
        → slice_get seen.scene.panels place.0 ≡ Some place.1 → plot_of plots place.1 ≡ Some plot → units_in s plot ≡ units
        → IsStoreOf temporal plots s store → IsStoreOf temporal plots s (with_units change s place units store)
    by_units s place plot [] store sel at of units stored = stored
    by_units s place plot (u ∷ us) store sel at of units stored =
        keeps s place plot u us store sel at of (plot_contains plots place.1.view plot of) units stored

    by_plot : (s : SelectionOf) (place : ℕ × Panel) (o : Option PlotOf) (store : StoreOf) → IsSelection s
        → slice_get seen.scene.panels place.0 ≡ Some place.1 → plot_of plots place.1 ≡ o
        → IsStoreOf temporal plots s store → IsStoreOf temporal plots s (with_units change s place (option_map_or (units_in s) o []) store)
    by_plot s place None store sel at of stored = stored
    by_plot s place (Some plot) store sel at of stored = by_units s place plot (units_in s plot) store sel at of refl stored

    one_changed : (place : ℕ × Panel) → slice_get seen.scene.panels place.0 ≡ Some place.1 → (s : SelectionOf) (store : StoreOf) → IsSelection s
        → IsStoreOf temporal plots s store → IsStoreOf temporal plots s (store_changed plots change place s store)
    one_changed place at s store sel stored = by_plot s place (plot_of plots place.1) store sel at refl stored

    by_place : (selections : List SelectionOf) (stores : List StoreOf) → All IsSelection selections → AreStoresOf temporal plots selections stores
        → (o : Option (ℕ × Panel)) → ((place : ℕ × Panel) → o ≡ Some place → slice_get seen.scene.panels place.0 ≡ Some place.1)
        → AreStoresOf temporal plots selections (stores_changed plots change o selections stores)
    by_place selections stores sel stored None at = stored
    by_place selections stores sel stored (Some place) at =
        zipped (store_changed plots change place) IsSelection (IsStoreOf temporal plots) (one_changed place (at place refl)) selections stores sel stored

    all_changed : (x y : ℤ) (selections : List SelectionOf) (stores : List StoreOf) → All IsSelection selections → AreStoresOf temporal plots selections stores
        → AreStoresOf temporal plots selections (stores_changed plots change (place_at seen.scene x y) selections stores)
    all_changed x y selections stores sel stored =
        by_place selections stores sel stored (place_at seen.scene x y) (λ place e. there seen.scene.panels (panel_at seen.scene x y) place e)

  -- ---- a store that holds something

  held : (s : SelectionOf) (place : ℕ × Panel) (plot : PlotOf) (u : ℕ) (us : List ℕ) → slice_get seen.scene.panels place.0 ≡ Some place.1
      → plot_of plots place.1 ≡ Some plot → Contains plots plot → units_in s plot ≡ u ∷ us → (store : StoreOf) → store.name ≡ s.name
      → u ≡ store.unit → place.1.facet ≡ store.panel → (HoldsTuples s store ⊎ HoldsExtents (temporal plot s) s store) → IsStoreOf temporal plots s store
  held s place plot u us at of contains units store name unit panel holds =
      inr (
        plot,
        contains,
        record {
          name = name;
          unit = ap (λ l. slice_get l 0) units ∙ ap Some unit;
          panel = subst (IsFacetRow plot.facet) panel (is_seen.facets place.0 place.1 plot at of);
          holds = holds;
        },
      )

  -- ---- tuples

  tuples_held : (s : SelectionOf) (place : ℕ × Panel) (plot : PlotOf) (u : ℕ) (us : List ℕ) → slice_get seen.scene.panels place.0 ≡ Some place.1
      → plot_of plots place.1 ≡ Some plot → Contains plots plot → units_in s plot ≡ u ∷ us → (is_some s.click || is_some s.toggle) ≡ true
      → (name : List ℕ) → name ≡ s.name → (tuples : List Cells) → AreTuples s tuples
      → IsStoreOf temporal plots s (with_tuples name place.1.facet u tuples)
  tuples_held s place plot u us at of contains units clicks name named [] are = inl (ap empty_store named)
  tuples_held s place plot u us at of contains units clicks name named (t ∷ ts) are =
      held s place plot u us at of contains units (with_tuples name place.1.facet u (t ∷ ts)) named refl refl
      (inl (record { some = λ e. absurd (cc e); clicks = clicks; different = are.different; fields = are.fields; no_extents = refl }))

  one_tuple : (s : SelectionOf) (t : Cells) → HasFields (fields_of s) t → AreTuples s (t ∷ [])
  one_tuple s t has = record {
    different = λ i j d less below. absurd (omega (arith, less, below));
    fields = All-cons (HasFields (fields_of s)) t [] has (All-nil (HasFields (fields_of s)));
  }

  -- ---- clicks

  clicked_kept : (s : SelectionOf) (place : ℕ × Panel) (plot : PlotOf) (u : ℕ) (us : List ℕ) → slice_get seen.scene.panels place.0 ≡ Some place.1
      → plot_of plots place.1 ≡ Some plot → Contains plots plot → units_in s plot ≡ u ∷ us → (fields : List (List ℕ)) → s.click ≡ Some fields
      → (hit : Option Hit) → IsStoreOf temporal plots s (store_clicked s.name place.1.facet u (option_map (tuple_of seen.cell fields) hit))
  clicked_kept s place plot u us at of contains units fields click None = inl refl
  clicked_kept s place plot u us at of contains units fields click (Some hit) =
      let same : fields_of s ≡ fields = ap (λ o. unwrap_or o (unwrap_or s.toggle [])) click in
      tuples_held s place plot u us at of contains units (ap (λ o. is_some o || is_some s.toggle) click) s.name refl (tuple_of seen.cell fields hit ∷ [])
      (one_tuple s (tuple_of seen.cell fields hit)
      (subst (λ names. HasFields names (tuple_of seen.cell fields hit)) (sym same) (made_of (seen.cell hit.unit hit.key) fields)))

  by_click : (x y : ℤ) (s : SelectionOf) (place : ℕ × Panel) (plot : PlotOf) (u : ℕ) (us : List ℕ) (store : StoreOf)
      → slice_get seen.scene.panels place.0 ≡ Some place.1 → plot_of plots place.1 ≡ Some plot → Contains plots plot → units_in s plot ≡ u ∷ us
      → IsStoreOf temporal plots s store → (click : Option (List (List ℕ))) → s.click ≡ click
      → IsStoreOf temporal plots s (option_map_or (λ fields. store_clicked s.name place.1.facet u (tuple_at seen.cell fields (u ∷ us) place.1 x y)) click store)
  by_click x y s place plot u us store at of contains units stored None click = stored
  by_click x y s place plot u us store at of contains units stored (Some fields) click =
      clicked_kept s place plot u us at of contains units fields click (hit_at (u ∷ us) place.1 x y)

  clicks_keep : (x y : ℤ) → KeepsOne (clicked_at seen.cell x y)
  clicks_keep x y s place plot u us store sel at of contains units stored =
      by_click x y s place plot u us store at of contains units stored s.click refl

  -- ---- clicks with the shift key

  -- a selection of clicks holds no extents
  no_zip : (s : SelectionOf) (temporal_here : DragOf → Bool) (ds : List DragOf) (es : List Extent) → ds ≡ [] → es ≢ []
      → AllZip (λ d e. IsExtentOf (temporal_here d) d e) ds es → ⊥
  no_zip s temporal_here [] [] none some h = some refl
  no_zip s temporal_here [] (e ∷ es) none some h = h
  no_zip s temporal_here (d ∷ ds) es none some h = absurd (cc none)

  no_extents : (s : SelectionOf) (store : StoreOf) (plot : PlotOf) (fields : List (List ℕ)) → s.toggle ≡ Some fields
      → HoldsExtents (temporal plot s) s store → (s.drag ≡ []) ⊎ ((s.click ≡ None) × (s.toggle ≡ None)) → ⊥
  no_extents s store plot fields toggle holds (inl none) = no_zip s (temporal plot s) s.drag store.extents none holds.some holds.extents
  no_extents s store plot fields toggle holds (inr never) = absurd (cc (sym toggle ∙ never.1))

  tuples_in : (s : SelectionOf) (store : StoreOf) (plot : PlotOf) (fields : List (List ℕ)) → IsSelection s → s.toggle ≡ Some fields
      → (HoldsTuples s store ⊎ HoldsExtents (temporal plot s) s store) → AreTuples s store.tuples
  tuples_in s store plot fields sel toggle (inl tuples) = record { different = tuples.different; fields = tuples.fields }
  tuples_in s store plot fields sel toggle (inr extents) = absurd (no_extents s store plot fields toggle extents sel.apart)

  no_tuples : (s : SelectionOf) → AreTuples s []
  no_tuples s = record { different = λ i j d less below. absurd (omega (arith, below)); fields = All-nil (HasFields (fields_of s)) }

  -- the tuples of a store of a selection that does something on a click with the shift key
  tuples_of_store : (s : SelectionOf) (store : StoreOf) (fields : List (List ℕ)) → IsSelection s → s.toggle ≡ Some fields
      → IsStoreOf temporal plots s store → AreTuples s store.tuples
  tuples_of_store s store fields sel toggle (inl empty) =
      subst (AreTuples s) (sym (ap (λ (t : StoreOf). t.tuples) empty)) (no_tuples s)
  tuples_of_store s store fields sel toggle (inr found) = tuples_in s store found.0 fields sel toggle found.2.holds

  name_of_store : (s : SelectionOf) (store : StoreOf) → IsStoreOf temporal plots s store → store.name ≡ s.name
  name_of_store s store (inl empty) = ap (λ (t : StoreOf). t.name) empty
  name_of_store s store (inr found) = found.2.name

  -- a tuple of the fields of a click with the shift key has those that the selection keeps
  has_kept : (s : SelectionOf) (fields : List (List ℕ)) → IsSelection s → s.toggle ≡ Some fields → (row : Cells) → HasFields fields row
      → HasFields (fields_of s) row
  has_kept s fields sel toggle row has name = has name ∙ sel.alike fields toggle name

  or_true : (a b : Bool) → b ≡ true → (a || b) ≡ true
  or_true true b h = refl
  or_true false b h = h

  toggled_kept : (s : SelectionOf) (place : ℕ × Panel) (plot : PlotOf) (u : ℕ) (us : List ℕ) (store : StoreOf) → IsSelection s
      → slice_get seen.scene.panels place.0 ≡ Some place.1 → plot_of plots place.1 ≡ Some plot → Contains plots plot → units_in s plot ≡ u ∷ us
      → IsStoreOf temporal plots s store → (fields : List (List ℕ)) → s.toggle ≡ Some fields → (hit : Option Hit)
      → IsStoreOf temporal plots s (store_toggled fields place.1.facet u store (option_map (tuple_of seen.cell fields) hit))
  toggled_kept s place plot u us store sel at of contains units stored fields toggle None = stored
  toggled_kept s place plot u us store sel at of contains units stored fields toggle (Some hit) =
      let before = tuples_of_store s store fields sel toggle stored in
      tuples_held s place plot u us at of contains units
      (or_true (is_some s.click) (is_some s.toggle) (ap is_some toggle)) store.name (name_of_store s store stored)
      (toggled (is_same_tuple fields) (tuple_of seen.cell fields hit) store.tuples)
      (record {
        different = toggled_differ fields (tuple_of seen.cell fields hit) store.tuples before.different;
        fields =
            toggled_have fields (tuple_of seen.cell fields hit) store.tuples (HasFields (fields_of s))
            (has_kept s fields sel toggle (tuple_of seen.cell fields hit) (made_of (seen.cell hit.unit hit.key) fields)) before.fields;
      })

  by_toggle : (x y : ℤ) (s : SelectionOf) (place : ℕ × Panel) (plot : PlotOf) (u : ℕ) (us : List ℕ) (store : StoreOf) → IsSelection s
      → slice_get seen.scene.panels place.0 ≡ Some place.1 → plot_of plots place.1 ≡ Some plot → Contains plots plot → units_in s plot ≡ u ∷ us
      → IsStoreOf temporal plots s store → (toggle : Option (List (List ℕ))) → s.toggle ≡ toggle
      → IsStoreOf temporal plots s
      (option_map_or (λ fields. store_toggled fields place.1.facet u store (tuple_at seen.cell fields (u ∷ us) place.1 x y)) toggle store)
  by_toggle x y s place plot u us store sel at of contains units stored None toggle = stored
  by_toggle x y s place plot u us store sel at of contains units stored (Some fields) toggle =
      toggled_kept s place plot u us store sel at of contains units stored fields toggle (hit_at (u ∷ us) place.1 x y)

  toggles_keep : (x y : ℤ) → KeepsOne (toggled_at seen.cell x y)
  toggles_keep x y s place plot u us store sel at of contains units stored =
      by_toggle x y s place plot u us store sel at of contains units stored s.toggle refl

  -- ---- double clicks

  by_clears : (s : SelectionOf) (store : StoreOf) (b : Bool) → IsStoreOf temporal plots s store → IsStoreOf temporal plots s (cond b (empty_store s.name) store)
  by_clears s store true stored = inl refl
  by_clears s store false stored = stored

  clears_keep : KeepsOne cleared_at
  clears_keep s place plot u us store sel at of contains units stored = by_clears s store s.clears stored

  -- ---- drags

  by_extents : (s : SelectionOf) (place : ℕ × Panel) (plot : PlotOf) (u : ℕ) (us : List ℕ) → slice_get seen.scene.panels place.0 ≡ Some place.1
      → plot_of plots place.1 ≡ Some plot → Contains plots plot → units_in s plot ≡ u ∷ us → (o : Option (List Extent))
      → ((es : List Extent) → o ≡ Some es → AllZip (λ d e. IsExtentOf (temporal plot s d) d e) s.drag es)
      → IsStoreOf temporal plots s (with_extents s.name place.1.facet u o)
  by_extents s place plot u us at of contains units None are = inl refl
  by_extents s place plot u us at of contains units (Some []) are = inl refl
  by_extents s place plot u us at of contains units (Some (e ∷ es)) are =
      held s place plot u us at of contains units (with_extents s.name place.1.facet u (Some (e ∷ es))) refl refl refl
      (inr (record { some = λ none. absurd (cc none); extents = are (e ∷ es) refl; no_tuples = refl }))

  by_channels : (d : Drag) (s : SelectionOf) (place : ℕ × Panel) (plot : PlotOf) (u : ℕ) (us : List ℕ) (store : StoreOf)
      → slice_get seen.scene.panels place.0 ≡ Some place.1 → plot_of plots place.1 ≡ Some plot → Contains plots plot → units_in s plot ≡ u ∷ us
      → IsStoreOf temporal plots s store → (cs : List ChannelHere) → map (channel_here seen.scale place.0 s) s.drag ≡ cs
      → IsStoreOf temporal plots s (dragged_over d s place u store cs)
  by_channels d s place plot u us store at of contains units stored [] is = stored
  by_channels d s place plot u us store at of contains units stored (c ∷ cs) is =
      by_extents s place plot u us at of contains units (extents_of place.1 d (c ∷ cs))
      (λ es found. extents_are seen.scale place.0 s place.1 d (temporal plot s)
      (λ channel scale inverts. is_seen.scales place.0 place.1 plot s channel scale at of inverts)
      s.drag es (ap (extents_of place.1 d) is ∙ found))

  drags_keep : (d : Drag) → KeepsOne (dragged_at seen.scale d)
  drags_keep d s place plot u us store sel at of contains units stored =
      by_channels d s place plot u us store at of contains units stored (map (channel_here seen.scale place.0 s) s.drag) refl

-- ---- the law

pub clicks_keep_stores : ClicksKeepStores
clicks_keep_stores x y temporal plots selections seen stores is_seen sel stored =
    all_changed temporal plots seen is_seen (clicked_at seen.cell x y) (clicks_keep temporal plots seen is_seen x y) x y selections stores sel stored

pub toggles_keep_stores : TogglesKeepStores
toggles_keep_stores x y temporal plots selections seen stores is_seen sel stored =
    all_changed temporal plots seen is_seen (toggled_at seen.cell x y) (toggles_keep temporal plots seen is_seen x y) x y selections stores sel stored

pub clears_keep_stores : ClearsKeepStores
clears_keep_stores x y temporal plots selections seen stores is_seen sel stored =
    all_changed temporal plots seen is_seen cleared_at (clears_keep temporal plots seen is_seen) x y selections stores sel stored

pub drags_keep_stores : DragsKeepStores
drags_keep_stores d temporal plots selections seen stores is_seen sel stored =
    all_changed temporal plots seen is_seen (dragged_at seen.scale d) (drags_keep temporal plots seen is_seen d) d.x1 d.y1 selections stores sel stored
