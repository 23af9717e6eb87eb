-- The signals of an object stand in an order.
use Rattle.std.proofs.Common.{◌≡◌, ℕ, List, [], ◌∷◌, map, cond, refl, sym, ap, subst, ◌∙◌, inl, inr}
use Rattle.std.specs.Prelude.{Option, Some, None, Bool, true, false, codes, unwrap_or, filter, filter_map, flat_map}
use Rattle.std.specs.Option.{option_map, option_and_then}
use Rattle.json_exact.specs.declared.json.Json.{Json, out-Json}
use Rattle.json_exact.specs.declared.json.Json.TheOpen as level
use Rattle.json_exact.specs.declared.json.Member.{Member}
use Rattle.json_exact.specs.Inside.{items_in}
use Rattle.json_exact.specs.Path.{member_value}
use Rattle.spec_schema.specs.declared.layout.Layout.{Layout}
use Rattle.spec_schema.specs.Layouts.{shape_in}
use Rattle.vega_schema.specs.declared.codes.TheConstants.{SIGNALS, DATA_LIST}
use Rattle.vega_parts.specs.Trails.{Trail, noted, place_of}
use Rattle.vega_spec.specs.declared.data.DataSet.{DataSet}
use Rattle.vega_spec.specs.declared.signals.Signal.{Signal}
use Rattle.vega_spec.specs.declared.transforms.Transform.{Transform}
use Rattle.vega_spec.specs.declared.transforms.Extent.{Extent}
use Rattle.vega_building.specs.Parts.{members_of, objects_at}
use Rattle.vega_building.specs.Signals.{signal_of}
use Rattle.vega_building.specs.Sources.{data_set_of}
use Rattle.vega_lists.specs.Transforms.{transforms_of}
use Rattle.vega_signals.specs.Extents.{is_computed, extent_asked, extent_names}
use Rattle.vega_signals.specs.Settling.{own_names}
use Rattle.vega_signals.specs.Needs.{Need, no_reads, computed_needs, set_needs, own_needs, AreInOrder}
use Rattle.vega_standing.proofs.Trees.{Each}
use Rattle.vega_standing.proofs.Stands.{EachFrom}
use Rattle.vega_standing.proofs.Quiet.{each_append}
use Rattle.vega_standing.proofs.Among.{In, in_front, in_back, in_map, in_flat, in_filter}
use Rattle.vega_standing.proofs.Seated.{Seat, SeatedMember, seat_from}
use Rattle.vega_standing.proofs.Owned.{Ordered, Kept, in_order}
use Rattle.vega_standing.proofs.OwnSignals.{signals_kept}
use Rattle.vega_standing.proofs.OwnSets.{sets_kept}

passed : {X : Type 0} (t : X → Bool) (x : X) (xs : List X) → In x xs → t x ≡ true → In x (filter t xs)
passed t x [] i e = absurd i
passed t x (y ∷ xs) (inl same) e = subst (λ b. In x (cond b (y ∷ filter t xs) (filter t xs))) (sym (ap t (sym same) ∙ e)) (inl same)
passed t x (y ∷ xs) (inr i) e = by_test (t y) (passed t x xs i e)
  where
    by_test : (b : Bool) → In x (filter t xs) → In x (cond b (y ∷ filter t xs) (filter t xs))
    by_test true j = inr j
    by_test false j = j

module _ (tree : Json) (ordered : Ordered tree) (round : Trail) (number shape : ℕ) (v : Json)
    (s : Seat tree round number shape v) (object : (noted number shape v).object ≡ true)
    (l : Layout) (ms : List Member) (each : EachFrom (SeatedMember tree round number shape v s l) 0 ms)
    (signals_ruled : shape_in l (codes "signals") ≡ Some SIGNALS) (data_ruled : shape_in l (codes "data") ≡ Some DATA_LIST) where
  abbrev signals_in : Option Json → List Signal
  signals_in o = unwrap_or (option_map (map (λ t. signal_of (members_of t))) (option_and_then (λ v. items_in (out-Json v)) o)) []

  abbrev sets_in : Option Json → List DataSet
  sets_in o = unwrap_or (option_map (map (λ t. data_set_of (members_of t))) (option_and_then (λ v. items_in (out-Json v)) o)) []

  abbrev signals : List Signal
  signals = unwrap_or (objects_at signal_of ms (codes "signals")) []

  abbrev sets : List DataSet
  sets = unwrap_or (objects_at data_set_of ms (codes "data")) []

  abbrev names : List (List ℕ)
  names = own_names signals sets

  abbrev OneKept : Need → Type 0
  OneKept = Kept tree ordered (place_of (noted number shape v ∷ round)) names

  own_signal : (x : Signal) → In x signals → is_computed x ≡ true → In x.name names
  own_signal x i e = in_front x.name (map (λ (s : Signal). s.name) (filter is_computed signals)) (flat_map extent_names sets)
      (in_map (λ (s : Signal). s.name) x (filter is_computed signals) (passed is_computed x signals i e))

  own_extent : (set : DataSet) (t : Transform) (x : Extent) → In set sets → In t (transforms_of set) → extent_asked t ≡ Some x → In x.signal names
  own_extent set t x i j e = in_back x.signal (map (λ (s : Signal). s.name) (filter is_computed signals)) (flat_map extent_names sets)
      (in_flat extent_names set x.signal sets i
      (in_map (λ (e : Extent). e.signal) x (filter_map extent_asked (transforms_of set)) (in_filter extent_asked t x (transforms_of set) j e)))

  by_signals : (o : Option Json) → member_value ms (codes "signals") ≡ o → Each OneKept (flat_map computed_needs signals)
  by_signals None e = subst (λ o. Each OneKept (flat_map computed_needs (signals_in o))) (sym e) tt
  by_signals (Some w) e =
      let seat = seat_from tree round number shape v s l 0 ms (codes "signals") SIGNALS w each signals_ruled e in
      let are : (items : List Json) → out-Json w ≡ level.List items → signals ≡ map (λ t. signal_of (members_of t)) items =
      λ items is. ap signals_in e ∙ ap (λ o. unwrap_or (option_map (map (λ t. signal_of (members_of t))) (items_in o)) []) is in
      let kept = signals_kept tree ordered (noted number shape v) round object names seat.0 w seat.1
      (λ items is x i c. own_signal x (subst (In x) (sym (are items is)) i) c) in
      subst (λ xs. Each OneKept (flat_map computed_needs xs)) (sym (are kept.0 kept.1)) kept.2

  by_sets : (o : Option Json) → member_value ms (codes "data") ≡ o → Each OneKept (set_needs no_reads sets)
  by_sets None e = subst (λ o. Each OneKept (set_needs no_reads (sets_in o))) (sym e) tt
  by_sets (Some w) e =
      let seat = seat_from tree round number shape v s l 0 ms (codes "data") DATA_LIST w each data_ruled e in
      let are : (items : List Json) → out-Json w ≡ level.List items → sets ≡ map (λ t. data_set_of (members_of t)) items =
      λ items is. ap sets_in e ∙ ap (λ o. unwrap_or (option_map (map (λ t. data_set_of (members_of t))) (items_in o)) []) is in
      let kept = sets_kept tree ordered (noted number shape v) round object names seat.0 w seat.1
      (λ items is set t x i j a. own_extent set t x (subst (In set) (sym (are items is)) i) j a) in
      subst (λ xs. Each OneKept (set_needs no_reads xs)) (sym (are kept.0 kept.1)) kept.2

  -- an object whose members stand in a tree has an order of its signals
  pub object_ordered : (place : List ℕ → ℕ) × AreInOrder signals sets place
  object_ordered =
      in_order tree ordered (place_of (noted number shape v ∷ round)) names (own_needs signals sets)
      (each_append OneKept (flat_map computed_needs signals) (set_needs no_reads sets)
      (by_signals (member_value ms (codes "signals")) refl) (by_sets (member_value ms (codes "data")) refl))
