-- Selections by their names.
use Rattle.std.proofs.Common.{◌≡◌, ◌≢◌, ℕ, zero, suc, ◌<◌, Bool, true, false, cond, Option, Some, None, List, [], ◌∷◌, length, get_or, map}
use Rattle.std.proofs.Common.{refl, sym, ap, ap₂, subst, ◌∙◌, arith}
use Rattle.std.specs.Prelude.{find, zip, Contains, AllPairs}
use Rattle.std.specs.Str.{bytes_eq}
use Rattle.std.proofs.lemmas.List.{length-map}
use Rattle.std.proofs.lemmas.Slice.Eq.{bytes_eq-Decides}
use Rattle.fixed_num.specs.Ranges.{◌>>=◌}
use Rattle.cell_value.specs.declared.state.StoreOf.{StoreOf}
use Rattle.scale_kit.specs.declared.scale.ScaleSet.{ScaleSet}
use Rattle.scene_tree.specs.declared.scene.Panel.{Panel}
use Rattle.param_flow.specs.declared.event.Event.{Event}
use Rattle.param_flow.specs.declared.event.Event.TheVariants as mouse
use Rattle.selection_events.specs.declared.selection.DragOf.{DragOf}
use Rattle.selection_events.specs.declared.selection.PlotOf.{PlotOf}
use Rattle.selection_events.specs.declared.selection.SelectionOf.{SelectionOf}
use Rattle.selection_events.specs.declared.drags.Drag.{Drag}
use Rattle.selection_events.specs.Places.{place_at, units_in_panel}
use Rattle.selection_events.specs.Events.{Change, Inverts, with_units, store_changed, stores_changed, channel_here, dragged_over}
use Rattle.vega_selections.specs.declared.selections.VgSelection.{VgSelection}
use Rattle.vega_events.specs.Scales.{inverted_by}
use Rattle.vega_events.specs.Events.{UnitLists, read_in, change_on, store_after, stores_after}
use Rattle.vega_events.specs.Laws.{is_named, inverted_in, plain_of, EventsAreOfStores}

-- ---- a name of its own finds a selection

abbrev name_of : VgSelection → List ℕ
name_of v = v.selection.name

other_name : (a b : List ℕ) → a ≢ b → (t : Bool) → bytes_eq a b ≡ t → t ≡ false
other_name a b apart true is = absurd (apart ((bytes_eq-Decides a b).0 is))
other_name a b apart false is = refl

apart_from_head : {X : Type 0} (x : X) (xs : List X) (k : ℕ) (d : X) → AllPairs (λ a b. a ≢ b) (x ∷ xs) → k < length xs → x ≢ get_or xs k d
apart_from_head x xs k d h below = h 0 (suc k) d (omega arith) (omega (arith, below))

apart_behind : {X : Type 0} (x : X) (xs : List X) → AllPairs (λ a b. a ≢ b) (x ∷ xs) → AllPairs (λ a b. a ≢ b) xs
apart_behind x xs h i j d less below = h (suc i) (suc j) d (omega (arith, less)) (omega (arith, below))

name_at : (vs : List VgSelection) (k : ℕ) (v : VgSelection) → k < length vs → get_or vs k v ≡ v → get_or (map name_of vs) k (name_of v) ≡ name_of v
name_at [] k v below is = absurd (omega (arith, below))
name_at (w ∷ ws) zero v below is = ap name_of is
name_at (w ∷ ws) (suc k) v below is = let less : k < length ws = omega (arith, below) in name_at ws k v less is

found_by_name : (vs : List VgSelection) (k : ℕ) (v : VgSelection) → k < length vs → get_or vs k v ≡ v → AllPairs (λ a b. a ≢ b) (map name_of vs)
    → find (is_named (name_of v)) vs ≡ Some v
found_by_name [] k v below is own = absurd (omega (arith, below))
found_by_name (w ∷ ws) zero v below is own =
    ap (λ t. cond t (Some w) (find (is_named (name_of v)) ws)) ((bytes_eq-Decides (name_of w) (name_of v)).1 (ap name_of is)) ∙ ap Some is
found_by_name (w ∷ ws) (suc k) v below is own =
    let less : k < length ws = omega (arith, below) in
    let long : k < length (map name_of ws) = omega (arith, less, length-map ws name_of) in
    let apart : name_of w ≢ name_of v =
    subst (λ n. name_of w ≢ n) (name_at ws k v less is) (apart_from_head (name_of w) (map name_of ws) k (name_of v) own long)
    in
    ap (λ t. cond t (Some w) (find (is_named (name_of v)) ws)) (other_name (name_of w) (name_of v) apart (bytes_eq (name_of w) (name_of v)) refl)
    ∙ found_by_name ws k v less is (apart_behind (name_of w) (map name_of ws) own)

inverted_alike : (set : ScaleSet) (vs : List VgSelection) (v : VgSelection) → Contains vs v
    → AllPairs (λ a b. a ≢ b) (map name_of vs) → (index : ℕ) (channel : List ℕ)
    → inverted_by set v index (name_of v) channel ≡ inverted_in set vs index (name_of v) channel
inverted_alike set vs v among own index channel =
    ap (λ o. o >>= (λ w. inverted_by set w index (name_of v) channel)) (sym (found_by_name vs among.0 v among.1 among.2 own))

-- ---- the same for all

contains_here : {X : Type 0} (x : X) (xs : List X) → Contains (x ∷ xs) x
contains_here x xs = (0, omega arith, refl)

contains_later : {X : Type 0} (y : X) (xs : List X) (x : X) → Contains xs x → Contains (y ∷ xs) x
contains_later y xs x h = let below = h.1 in (suc h.0, omega (arith, below), h.2)

all_alike : (f : VgSelection × StoreOf → StoreOf) (g : SelectionOf × StoreOf → StoreOf) (vs : List VgSelection) (stores : List StoreOf)
    → ((v : VgSelection) (store : StoreOf) → Contains vs v → f (v, store) ≡ g (plain_of v, store))
    → map f (zip vs stores) ≡ map g (zip (map plain_of vs) stores)
all_alike f g [] stores each = refl
all_alike f g (v ∷ vs) [] each = refl
all_alike f g (v ∷ vs) (store ∷ stores) each =
    ap₂ (λ a b. a ∷ b) (each v store (contains_here v vs))
    (all_alike f g vs stores (λ w other among. each w other (contains_later v vs w among)))

channels_alike : (a b : Inverts) (index : ℕ) (s : SelectionOf) → ((channel : List ℕ) → a index s.name channel ≡ b index s.name channel) → (ds : List DragOf)
    → map (channel_here a index s) ds ≡ map (channel_here b index s) ds
channels_alike a b index s same [] = refl
channels_alike a b index s same (d ∷ ds) =
    ap₂ (λ scale cs. record { channel = d.channel; field = d.field; scale = scale } ∷ cs) (same d.channel) (channels_alike a b index s same ds)

-- two changes that do the same to a store do the same to it in a panel
changed_alike : (plots : List PlotOf) (f g : Change) (place : ℕ × Panel) (s : SelectionOf) (store : StoreOf)
    → ((u : ℕ) (units : List ℕ) → f s place u units store ≡ g s place u units store)
    → (units : List ℕ) → with_units f s place units store ≡ with_units g s place units store
changed_alike plots f g place s store same [] = refl
changed_alike plots f g place s store same (u ∷ us) = same u (u ∷ us)

module _ (plots : List PlotOf) (set : ScaleSet) (rows : UnitLists) (selections : List VgSelection)
    (own : AllPairs (λ a b. a ≢ b) (map name_of selections)) where
  -- a change with the scales of a selection, and with those by its name
  change_alike : (e : Event) (place : ℕ × Panel) (v : VgSelection) (store : StoreOf) → Contains selections v → (u : ℕ) (units : List ℕ)
      → change_on e (read_in rows) (inverted_by set v) (plain_of v) place u units store
      ≡ change_on e (read_in rows) (inverted_in set selections) (plain_of v) place u units store
  change_alike (mouse.Click x y) place v store among u units = refl
  change_alike (mouse.Shift x y) place v store among u units = refl
  change_alike (mouse.Double x y) place v store among u units = refl
  change_alike (mouse.Drag x1 y1 x2 y2) place v store among u units =
      ap (dragged_over (record { x1 = x1; y1 = y1; x2 = x2; y2 = y2 }) (plain_of v) place u store)
      (channels_alike (inverted_by set v) (inverted_in set selections) place.0
      (plain_of v) (inverted_alike set selections v among own place.0) v.selection.drag)

  in_place : (e : Event) (o : Option (ℕ × Panel)) (stores : List StoreOf)
      → stores_after plots set rows e o selections stores
      ≡ stores_changed plots (change_on e (read_in rows) (inverted_in set selections)) o (map plain_of selections) stores
  in_place e None stores = refl
  in_place e (Some place) stores =
      all_alike (λ p. store_after plots set rows e place p.0 p.1)
      (λ p. store_changed plots (change_on e (read_in rows) (inverted_in set selections)) place p.0 p.1) selections stores
      (λ v store among. changed_alike plots (change_on e (read_in rows) (inverted_by set v)) (change_on e (read_in rows) (inverted_in set selections)) place
      (plain_of v) store (change_alike e place v store among) (units_in_panel plots (plain_of v) place.1))

pub events_are_of_stores : EventsAreOfStores
events_are_of_stores (mouse.Click x y) plots set scene rows selections stores own =
    in_place plots set rows selections own (mouse.Click x y) (place_at scene x y) stores
events_are_of_stores (mouse.Shift x y) plots set scene rows selections stores own =
    in_place plots set rows selections own (mouse.Shift x y) (place_at scene x y) stores
events_are_of_stores (mouse.Double x y) plots set scene rows selections stores own =
    in_place plots set rows selections own (mouse.Double x y) (place_at scene x y) stores
events_are_of_stores (mouse.Drag x1 y1 x2 y2) plots set scene rows selections stores own =
    in_place plots set rows selections own (mouse.Drag x1 y1 x2 y2) (place_at scene x1 y1) stores
