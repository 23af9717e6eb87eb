-- Why the state after a command is again a state of the specification.
use Rattle.std.proofs.Common.{◌≡◌, ℕ, suc, ◌+◌, ◌<◌, Bool, true, false, cond, not, ◌&&◌, ◌||◌, nat_lt, Option, Some, None, List, [], ◌∷◌}
use Rattle.std.proofs.Common.{length, map, refl, sym, ap, ap₂, subst, ◌∙◌, arith}
use Rattle.std.specs.Prelude.{if◌then◌else◌, sum_by}
use Rattle.std.specs.Option.{option_map}
use Rattle.std.specs.List.{list_any, list_all}
use Rattle.std.specs.Str.{bytes_eq}
use Rattle.std.proofs.lemmas.Slice.Eq.{bytes_eq-Decides}
use Rattle.fixed_num.specs.Ranges.{◌>>=◌}
use Rattle.cell_value.specs.declared.cell.Cell.{Cell}
use Rattle.cell_value.specs.declared.state.StoreOf.{StoreOf}
use Rattle.cell_value.specs.Datum.{Datum}
use Rattle.cell_value.specs.State.{Dataset, State, IsState, most_rows, greatest_id}
use Rattle.data_rows.specs.JsonRows.{first_bad}
use Rattle.scene_tree.specs.Outcome.{Outcome, Drawn, Overflow, Panels}
use Rattle.selection_events.specs.Kept.{AreStoresOf, IsSeenOf}
use Rattle.selection_events.proofs.KeptLemmas.{clicks_keep_stores, toggles_keep_stores, clears_keep_stores, drags_keep_stores}
use Rattle.param_flow.specs.declared.command.ChangeOf.{ChangeOf}
use Rattle.param_flow.specs.declared.command.Command.TheVariants.{Change, Set, Event as OfMouse, Print}
use Rattle.param_flow.specs.declared.event.Event.{Event}
use Rattle.param_flow.specs.declared.event.Event.TheVariants as mouse
use Rattle.param_flow.specs.declared.reply.Reply.{Reply}
use Rattle.param_flow.specs.declared.reply.Reply.TheVariants.{Done, Refused}
use Rattle.param_flow.specs.declared.reply.Cause.TheVariants as cause
use Rattle.param_flow.specs.Change.{names_of_change}
use Rattle.param_flow.specs.Semantics.{Semantics, Picture, seen_of, has_source, has_param}
use Rattle.param_flow.specs.Machine.{with_value, state_changed, state_set, count_left, is_past_limit, reply_to_rows, reply_to_state}
use Rattle.param_flow.specs.Machine.{has_names, reply_to_change, reply_to_set, reply_to_event, state_if, stores_on, state_on, state_by}
use Rattle.param_flow.specs.States.{IsStateFor, IsMeaning}
use Rattle.param_flow.specs.Laws.{StatesAreKept}
use Rattle.param_flow.specs.inner.Sources.{with_data, names_of, name_at, AreApart, new_data, state_in, rows_changed, staying_in_all, is_past}
use Rattle.param_flow.proofs.StateRows.{still_state, names_stay}
use Rattle.param_flow.proofs.SourcePlaces.{changed_at, counted_at, few_at}

-- ---- the source of a name

-- where a source has a name
abbrev Place : List Dataset → List ℕ → Type 0
Place sources name = (index : ℕ) × (index < length sources) × (name_at sources index ≡ name)

place_later : (source : Dataset) (sources : List Dataset) (name : List ℕ) → Place sources name → Place (source ∷ sources) name
place_later source sources name (index, within, is) = (suc index, omega (arith, within), is)

-- whether some source has a name
abbrev is_there : List Dataset → List ℕ → Bool
is_there sources name = list_any (λ other. bytes_eq other name) (names_of sources)

place_among : (source : Dataset) (sources : List Dataset) (name : List ℕ) → (is_there sources name ≡ true → Place sources name) → (b : Bool)
    → bytes_eq source.name name ≡ b → (b || is_there sources name) ≡ true → Place (source ∷ sources) name
place_among source sources name later true is h = (0, omega arith, (bytes_eq-Decides source.name name).0 is)
place_among source sources name later false is h = place_later source sources name (later h)

-- there is one where some source has it
place_of : (sources : List Dataset) (name : List ℕ) → is_there sources name ≡ true → Place sources name
place_of [] name e = absurd (cc e)
place_of (source ∷ sources) name e = place_among source sources name (place_of sources name) (bytes_eq source.name name) refl e

-- ---- a change

some_state : (next_id : ℕ) (params : List (List ℕ × Cell)) (stores : List StoreOf) (sources : List Dataset) (index : ℕ) (found : Option (List Datum))
    (new : State)
    → (option_map (with_data sources index) found >>= λ all. Some (state_in stores params next_id all)) ≡ Some new
    → (rows : List Datum) × (found ≡ Some rows) × (new ≡ state_in stores params next_id (with_data sources index rows))
some_state next_id params stores sources index None new e = absurd (cc e)
some_state next_id params stores sources index (Some rows) new e = (rows, refl, cc e)

left_true : (a b : Bool) → (a && b) ≡ true → a ≡ true
left_true true b e = refl
left_true false b e = e

module _ (meaning : Semantics) (st : State) (h : IsMeaning meaning) (of : IsStateFor meaning st) (name : List ℕ) (change : ChangeOf) where
  apart : AreApart (names_of st.sources)
  apart = subst AreApart (sym of.sources) h.apart

  source_there : has_names meaning name change ≡ true → Place st.sources name
  source_there known =
      place_of st.sources name
      (ap (list_any (λ other. bytes_eq other name)) of.sources
      ∙ left_true (has_source meaning name) (list_all (has_param meaning) (names_of_change change)) known)

  module _ (place : Place st.sources name) where
    limit : is_past_limit (meaning.values st) st name change ≡ is_past (meaning.values st) st.next_id st.sources place.0 change
    limit =
        let count = counted_at (meaning.values st) name change (new_data st.next_id change.insert) st.sources place.0 place.1 apart place.2 in
        let few = few_at st.sources place.0 in
        let same : sum_by (count_left (meaning.values st) name change) st.sources
        ≡ staying_in_all (meaning.values st) st.next_id st.sources place.0 change = omega (arith, count, few) in
        ap (λ n. nat_lt most_rows (n + length change.insert) || nat_lt (greatest_id + 1) (st.next_id + length change.insert)) same

    found : state_changed (meaning.values st) st name change
        ≡ (option_map (with_data st.sources place.0) (rows_changed (meaning.values st) st.next_id st.sources place.0 change) >>= λ all.
        Some (state_in st.stores st.params (st.next_id + length change.insert) all))
    found =
        ap (λ o. o >>= λ all. Some (state_in st.stores st.params (st.next_id + length change.insert) all))
        (changed_at (meaning.values st) name change (new_data st.next_id change.insert) st.sources place.0 place.1 apart place.2)

    kept_at : (new : State) → is_past_limit (meaning.values st) st name change ≡ false → state_changed (meaning.values st) st name change ≡ Some new
        → IsStateFor meaning new
    kept_at new free is =
        let rows = some_state (st.next_id + length change.insert) st.params st.stores st.sources place.0
        (rows_changed (meaning.values st) st.next_id st.sources place.0 change) new (sym found ∙ is) in
        let still = still_state st.stores st.params (meaning.values st) st.next_id st.sources place.0 change place.1 of.is rows.0 (sym limit ∙ free) rows.1 in
        subst (IsStateFor meaning) (sym rows.2) (record {
          is = still;
          sources = names_stay st.sources place.0 rows.0 ∙ of.sources;
          params = of.params;
          stores = of.stores;
        })

  -- a change that names a source and isn't past the limit
  pub change_kept : (new : State) → has_names meaning name change ≡ true → is_past_limit (meaning.values st) st name change ≡ false
      → state_changed (meaning.values st) st name change ≡ Some new → IsStateFor meaning new
  change_kept new known free is = kept_at (source_there known) new free is

-- what is done names a source and isn't past the limit
done_is : (meaning : Semantics) (known past : Bool) (bad : Option (ℕ × List ℕ)) (o : Option State)
    → (if not known then Refused cause.Name else reply_to_rows bad (if past then Refused cause.Limit else reply_to_state meaning o)) ≡ Done
    → (known ≡ true) × (past ≡ false)
done_is meaning false past bad o e = absurd (cc e)
done_is meaning true past (Some b) o e = absurd (cc e)
done_is meaning true true None o e = absurd (cc e)
done_is meaning true false None o e = (refl, refl)

-- ---- a setting

value_keeps_name : (name : List ℕ) (value : Cell) (param : List ℕ × Cell) (b : Bool) → (cond b (param.0, value) param).0 ≡ param.0
value_keeps_name name value param true = refl
value_keeps_name name value param false = refl

names_kept : (name : List ℕ) (value : Cell) (params : List (List ℕ × Cell))
    → map (λ (p : List ℕ × Cell). p.0) (map (with_value name value) params) ≡ map (λ (p : List ℕ × Cell). p.0) params
names_kept name value [] = refl
names_kept name value (param ∷ params) =
    ap₂ (λ n ns. n ∷ ns) (value_keeps_name name value param (bytes_eq param.0 name)) (names_kept name value params)

-- a state with other values and stores is one
still : (st : State) (params : List (List ℕ × Cell)) (stores : List StoreOf) → IsState st → IsState (state_in stores params st.next_id st.sources)
still st params stores h = record {
  ids_read = h.ids_read;
  no_branch = h.no_branch;
  ids_rise = h.ids_rise;
  ids_distinct = h.ids_distinct;
  ids_below_next = h.ids_below_next;
  next_id_from = h.next_id_from;
  next_id_to = h.next_id_to;
  few_rows = h.few_rows;
}

pub set_kept : (meaning : Semantics) (st : State) (name : List ℕ) (value : Cell) → IsStateFor meaning st → IsStateFor meaning (state_set st name value)
set_kept meaning st name value of = record {
  is = still st (map (with_value name value) st.params) st.stores of.is;
  sources = of.sources;
  params = names_kept name value st.params ∙ of.params;
  stores = of.stores;
}

-- ---- an event

stores_kept : (meaning : Semantics) (st : State) (picture : Picture) (event : Event) → IsMeaning meaning → IsStateFor meaning st
    → IsSeenOf meaning.temporal meaning.plots (seen_of meaning st picture)
    → AreStoresOf meaning.temporal meaning.plots meaning.selections
    (stores_on meaning.plots meaning.selections (seen_of meaning st picture) event st.stores)
stores_kept meaning st picture (mouse.Click x y) h of seen =
    clicks_keep_stores x y meaning.temporal meaning.plots meaning.selections (seen_of meaning st picture) st.stores seen h.selections of.stores
stores_kept meaning st picture (mouse.Shift x y) h of seen =
    toggles_keep_stores x y meaning.temporal meaning.plots meaning.selections (seen_of meaning st picture) st.stores seen h.selections of.stores
stores_kept meaning st picture (mouse.Double x y) h of seen =
    clears_keep_stores x y meaning.temporal meaning.plots meaning.selections (seen_of meaning st picture) st.stores seen h.selections of.stores
stores_kept meaning st picture (mouse.Drag x1 y1 x2 y2) h of seen =
    drags_keep_stores (record { x1 = x1; y1 = y1; x2 = x2; y2 = y2 }) meaning.temporal meaning.plots meaning.selections (seen_of meaning st picture) st.stores
    seen h.selections of.stores

on_picture : (meaning : Semantics) (st : State) (event : Event) → IsMeaning meaning → IsStateFor meaning st → (o : Outcome Picture) → meaning.draw st ≡ o
    → IsStateFor meaning (state_on meaning.plots meaning.selections (meaning.rows st) st event o)
on_picture meaning st event h of (Drawn picture) is = record {
  is = still st st.params (stores_on meaning.plots meaning.selections (seen_of meaning st picture) event st.stores) of.is;
  sources = of.sources;
  params = of.params;
  stores = stores_kept meaning st picture event h of (h.seen st picture of is);
}
on_picture meaning st event h of Overflow is = of
on_picture meaning st event h of (Panels n) is = of

pub event_kept : (meaning : Semantics) (st : State) (event : Event) → IsMeaning meaning → IsStateFor meaning st → IsStateFor meaning (state_by meaning st event)
event_kept meaning st event h of = on_picture meaning st event h of (meaning.draw st) refl

-- ---- any command

kept_if : (meaning : Semantics) (st : State) (r : Reply) (o : Option State) → IsStateFor meaning st
    → (r ≡ Done → (new : State) → o ≡ Some new → IsStateFor meaning new) → IsStateFor meaning (state_if r st o)
kept_if meaning st Done (Some new) of done = done refl new refl
kept_if meaning st Done None of done = of
kept_if meaning st (Refused why) o of done = of

pub states_are_kept : StatesAreKept
states_are_kept meaning st (Change name change) h of =
    kept_if meaning st (reply_to_change meaning st name change) (state_changed (meaning.values st) st name change) of
    (λ done new is.
    let both = done_is meaning (has_names meaning name change) (is_past_limit (meaning.values st) st name change) (first_bad 0 change.insert)
    (state_changed (meaning.values st) st name change) done in
    change_kept meaning st h of name change new both.0 both.1 is)
states_are_kept meaning st (Set name value) h of =
    kept_if meaning st (reply_to_set meaning st name value) (Some (state_set st name value)) of
    (λ done new is. let same : state_set st name value ≡ new = cc is in subst (IsStateFor meaning) same (set_kept meaning st name value of))
states_are_kept meaning st (OfMouse event) h of =
    kept_if meaning st (reply_to_event meaning st event) (Some (state_by meaning st event)) of
    (λ done new is. let same : state_by meaning st event ≡ new = cc is in subst (IsStateFor meaning) same (event_kept meaning st event h of))
states_are_kept meaning st Print h of = of
