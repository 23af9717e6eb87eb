-- The entries of `on` of a signal that stands in a specification without faults.
use Rattle.std.proofs.Common.{◌≡◌, ℕ, ◌+◌, List, [], ◌∷◌, ◌++◌, map, flat_map, find, cond, refl, sym, ap, subst, ◌∙◌}
use Rattle.std.specs.Prelude.{Option, Some, None, Bool, true, false, not, ◌&&◌, ◌||◌, bytes_eq, codes, unwrap_or, is_some, if◌then◌else◌}
use Rattle.std.specs.Option.{option_map, option_map_or, option_and_then}
use Rattle.std.specs.List.{list_any, enumerate_from}
use Rattle.std.proofs.lemmas.Bool.{or_parts}
use Rattle.std.proofs.lemmas.Slice.Eq.{bytes_eq-Decides}
use Rattle.json_exact.specs.declared.json.Json.{Json, out-Json}
use Rattle.json_exact.specs.declared.json.Json.TheOpen as level
use Rattle.json_exact.specs.declared.json.Member.{Member}
use Rattle.spec_schema.specs.declared.spec_error.SpecKind.TheVariants.{Wrong}
use Rattle.json_exact.specs.Inside.{text_in, members_in}
use Rattle.json_exact.specs.Path.{member_value}
use Rattle.spec_schema.specs.declared.form.Form.{Form}
use Rattle.spec_schema.specs.declared.form.Form.TheVariants as form
use Rattle.spec_schema.specs.declared.layout.Layout.{Layout}
use Rattle.spec_schema.specs.Values.{Opened, text_passes, object_passes, among}
use Rattle.spec_schema.specs.Layouts.{shape_in, layout_in, has_name}
use Rattle.spec_schema.specs.Forms.{taken_form}
use Rattle.vega_schema.specs.declared.codes.TheConstants.{ON, EVENTS, TEXT}
use Rattle.vega_schema.specs.Schema.{vega_schema}
use Rattle.vega_schema.specs.Shapes.{leaves, named as named_shapes, lists, objects}
use Rattle.vega_schema.specs.Words.{event_names}
use Rattle.vega_schema.specs.Guides.{group_mark, axis, legend, grid_layout, top}
use Rattle.vega_schema.specs.Sources.{data_set, data_format, parse, sort, extent_signal}
use Rattle.vega_schema.specs.Transforms.{filter, formula, extent, bin, time_unit, stack, fold}
use Rattle.vega_schema.specs.Groupings.{aggregate, join_aggregate, window, lookup, no_transform}
use Rattle.vega_schema.specs.Signals.{signal, on_event, expression_signal}
use Rattle.vega_schema.specs.Scales.{linear_scale, time_scale, band_scale, point_scale, ordinal_scale, no_scale}
use Rattle.vega_schema.specs.Domains.{domain_of_signal, domain_of_field, domain_of_fields, reference, sort_by_operation, sort_by_cells}
use Rattle.vega_schema.specs.PlainMarks.{rect_mark, symbol_mark, line_mark, area_mark, rule_mark, text_mark}
use Rattle.vega_schema.specs.Marks.{mark_from, group_from, facet, cross, encode, no_mark}
use Rattle.vega_schema.specs.Channels.{channel_members, value, words_value}
use Rattle.vega_schema.specs.Sizes.{size_signal, group_encode, group_channels, size_value}
use Rattle.vega_parts.specs.declared.part.Part.TheVariants as part
use Rattle.vega_parts.specs.declared.selections.Entry.{Entry}
use Rattle.vega_parts.specs.declared.selections.Concerned.{Concerned}
use Rattle.vega_parts.specs.declared.updates.Change.{Change}
use Rattle.vega_parts.specs.declared.updates.Change.TheVariants.{Point, Toggle, Clear, Interval}
use Rattle.vega_parts.specs.declared.updates.Update.{Update}
use Rattle.vega_parts.specs.Trails.{Trail, noted}
use Rattle.vega_parts.specs.Members.{text_at as part_text}
use Rattle.vega_parts.specs.Updates.{update_of, selector_of, is_selector, clash}
use Rattle.vega_parts.specs.Selections.{entry_with, entry_by, entry_of, is_of_another, misses_channels, clashes_with, is_wrong_alone}
use Rattle.vega_parts.specs.Selections.{is_wrong, is_wrong_entry, entry_fault, entry_intervals, entry_parts, entries_parts}
use Rattle.vega_rules.specs.Rules.{shown}
use Rattle.vega_spec.specs.declared.signals.EventSelector.TheVariants.{Click}
use Rattle.vega_spec.specs.declared.signals.EventUpdate.{EventUpdate}
use Rattle.vega_building.specs.Parts.{text_at, members_of}
use Rattle.vega_building.specs.Names.{selector_named}
use Rattle.vega_building.specs.Signals.{event_update_of}
use Rattle.vega_selections.specs.Updates.{number_of}
use Rattle.vega_standing.proofs.Trees.{Each}
use Rattle.vega_standing.proofs.Stands.{EachFrom, Stands, StandsObject, formed, quiet_parts}
use Rattle.vega_standing.proofs.Shapes.{if_taken, form_taken}
use Rattle.vega_standing.proofs.Members.{Laid, laid_out, opened_as, found_as, among_each}
use Rattle.vega_standing.proofs.Quiet.{each_of}
use Rattle.vega_standing.proofs.Sources.{texts_are, text_stands, the_text}
use Rattle.vega_standing.proofs.SelectedFields.{number_by, IsUpdate, clashes, AreUpdates}

-- ---- the table

on_taken : (o : Opened) (f : Form) → taken_form vega_schema ON o ≡ Some f →
    (object_passes (λ members. is_some (layout_in vega_schema ON members)) o ≡ true) × (form.Object ON ≡ f)
unfolding vega_schema leaves named_shapes lists objects
on_taken o f e = (
  if_taken (object_passes (λ members. is_some (layout_in vega_schema ON members)) o) _ f e,
  form_taken (object_passes (λ members. is_some (layout_in vega_schema ON members)) o) _ f e,
)

one_of_two : (a b : Bool) (l m : Layout) → cond (a && (b && true)) (Some l) None ≡ Some m → (a ≡ true) × (b ≡ true) × (m ≡ l)
one_of_two true true l m e = let same : l ≡ m = cc in (refl, refl, sym same)
one_of_two true false l m e = absurd cc
one_of_two false b l m e = absurd cc

on_layout : (ms : List Member) (l : Layout) → layout_in vega_schema ON ms ≡ Some l →
    (has_name ms (codes "events") ≡ true) × (has_name ms (codes "update") ≡ true) × (l ≡ on_event)
unfolding vega_schema group_mark axis legend grid_layout top data_set data_format parse sort extent_signal
    filter formula extent bin time_unit stack fold aggregate join_aggregate window lookup no_transform signal on_event expression_signal
    linear_scale time_scale band_scale point_scale ordinal_scale no_scale domain_of_signal domain_of_field domain_of_fields reference
    sort_by_operation sort_by_cells rect_mark symbol_mark line_mark area_mark rule_mark text_mark mark_from group_from facet cross
    encode no_mark channel_members value words_value size_signal group_encode group_channels size_value
on_layout ms l e = one_of_two (has_name ms (codes "events")) (has_name ms (codes "update")) on_event l e

on_rules : (shape_in on_event (codes "events") ≡ Some EVENTS) × (shape_in on_event (codes "update") ≡ Some TEXT)
unfolding on_event
on_rules = (refl, refl)

events_tested : (o : Opened) (f : Form) → taken_form vega_schema EVENTS o ≡ Some f → text_passes (among event_names) o ≡ true
unfolding vega_schema leaves named_shapes lists objects
events_tested o f e = if_taken (text_passes (among event_names) o) _ f e

a_selector : (o : Opened) → text_passes (among event_names) o ≡ true → (t : List ℕ) × (text_in o ≡ Some t) × (among event_names t ≡ true)
a_selector level.Null e = absurd cc
a_selector (level.Flag b) e = absurd cc
a_selector (level.Number n) e = absurd cc
a_selector level.Huge e = absurd cc
a_selector (level.Text t) e = (t, refl, e)
a_selector (level.List items) e = absurd cc
a_selector (level.Object ms) e = absurd cc

valued : (ms : List Member) (name : List ℕ) → has_name ms name ≡ true → (v : Json) × (member_value ms name ≡ Some v)
valued [] name e = absurd cc
valued (m ∷ ms) name e = by_name (bytes_eq m.name name) e (valued ms name)
  where
    by_name : (b : Bool) → (b || has_name ms name) ≡ true → (has_name ms name ≡ true → (v : Json) × (member_value ms name ≡ Some v)) →
        (v : Json) × (option_map (λ (m : Member). m.value) (cond b (Some m) (find (λ (m : Member). bytes_eq m.name name) ms)) ≡ Some v)
    by_name true f rest = (m.value, refl)
    by_name false f rest = rest f

-- ---- one entry

-- the entry that an item says
abbrev pub built : Json → EventUpdate
built item = event_update_of (members_of item)

-- an item says one of the four selectors, and a text
pub record IsEntry (item : Json) : Type 0 where
  pub events : List ℕ
  pub update : List ℕ
  pub known : among event_names events ≡ true
  pub events_there : option_map (λ (m : ℕ × List ℕ). m.1) (part_text (codes "events") item) ≡ Some events
  pub update_there : option_map (λ (m : ℕ × List ℕ). m.1) (part_text (codes "update") item) ≡ Some update
  pub built_events : (built item).events ≡ unwrap_or (selector_named events) Click
  pub built_update : (built item).update ≡ update

entry_by_members : (round : Trail) (number : ℕ) (item : Json) (ms : List Member) →
    out-Json item ≡ level.Object ms → StandsObject (noted number ON item ∷ round) on_event ms →
    has_name ms (codes "events") ≡ true → has_name ms (codes "update") ≡ true → IsEntry item
entry_by_members round number item ms is s first second =
    let trail : Trail = noted number ON item ∷ round in
    let a : (v : Json) × (member_value ms (codes "events") ≡ Some v) = valued ms (codes "events") first in
    let b : (v : Json) × (member_value ms (codes "update") ≡ Some v) = valued ms (codes "update") second in
    let at : (i : ℕ) × Stands trail i EVENTS a.0 = found_as trail on_event ms (codes "events") a.0 EVENTS s on_rules.0 a.1 in
    let f : (f : Form) × (taken_form vega_schema EVENTS (out-Json a.0) ≡ Some f) = formed EVENTS a.0 at.1.fine in
    let x : (t : List ℕ) × (text_in (out-Json a.0) ≡ Some t) × (among event_names t ≡ true) =
    a_selector (out-Json a.0) (events_tested (out-Json a.0) f.0 f.1) in
    let there : (i : ℕ) × Stands trail i TEXT b.0 = found_as trail on_event ms (codes "update") b.0 TEXT s on_rules.1 b.1 in
    let y : (t : List ℕ) × (text_in (out-Json b.0) ≡ Some t) = the_text (text_in (out-Json b.0)) (text_stands trail there.0 b.0 there.1) in
    let events : text_at ms (codes "events") ≡ Some x.0 = ap (λ o. option_and_then (λ v. text_in (out-Json v)) o) a.1 ∙ x.1 in
    let update : text_at ms (codes "update") ≡ Some y.0 = ap (λ o. option_and_then (λ v. text_in (out-Json v)) o) b.1 ∙ y.1 in
    let same : members_of item ≡ ms = ap (λ o. unwrap_or (members_in o) []) is in
    record {
      events = x.0;
      update = y.0;
      known = x.2;
      events_there = texts_are item ms is (codes "events") ∙ events;
      update_there = texts_are item ms is (codes "update") ∙ update;
      built_events = ap (λ m. (event_update_of m).events) same ∙ ap (λ o. unwrap_or (option_and_then selector_named o) Click) events;
      built_update = ap (λ m. (event_update_of m).update) same ∙ ap (λ o. unwrap_or o []) update;
    }

pub an_entry : (round : Trail) (number : ℕ) (item : Json) → Stands round number ON item → IsEntry item
an_entry round number item s =
    let f = formed ON item s.fine in
    let ms : (ms : List Member) × (out-Json item ≡ level.Object ms) = opened_as ON (out-Json item) (on_taken (out-Json item) f.0 f.1).0 in
    let l : Laid round number ON ON item ms.0 = laid_out round number ON ON item ms.0 s ms.1 (λ f e. on_taken (level.Object ms.0) f e) in
    let laid = on_layout ms.0 l.layout l.applies in
    entry_by_members round number item ms.0 ms.1 (subst (λ x. StandsObject (noted number ON item ∷ round) x ms.0) laid.2 l.stands) laid.0 laid.1

pub all_entries : (trail : Trail) (n : ℕ) (items : List Json) → EachFrom (λ i v. Stands trail i ON v) n items → Each IsEntry items
all_entries trail n [] each = tt
all_entries trail n (v ∷ items) each = (an_entry trail n v each.0, all_entries trail (n + 1) items each.1)

-- ---- what is judged of it

all_selectors : (text : List ℕ) → among event_names text ≡ true → is_selector text ≡ true
unfolding event_names
all_selectors text e = among_each (λ t. is_selector t ≡ true) event_names text (refl, (refl, (refl, (refl, tt)))) e

-- the one entry that is judged of an item
record Judged (trail : Trail) (number n : ℕ) (item : Json) (events update : List ℕ) : Type 0 where
  entry : Entry
  is : entry_of trail number (n, item) ≡ entry ∷ []
  events_are : entry.events ≡ events
  update_is : entry.update ≡ update_of update

judged : (trail : Trail) (number n : ℕ) (item : Json) (e : IsEntry item) → Judged trail number n item e.events e.update
judged trail number n item e = by_events (part_text (codes "events") item) refl e.events_there
  where
    by_update : (o : Option (ℕ × List ℕ)) → option_map (λ (m : ℕ × List ℕ). m.1) o ≡ Some e.update →
        (x : Entry) × (option_map_or (λ (m : ℕ × List ℕ). entry_with trail number n e.events m ∷ []) o [] ≡ x ∷ [])
        × (x.events ≡ e.events) × (x.update ≡ update_of e.update)
    by_update None same = absurd cc
    by_update (Some m) same = let text : m.1 ≡ e.update = cc in (entry_with trail number n e.events m, refl, refl, ap update_of text)

    by_events : (o : Option (ℕ × List ℕ)) → part_text (codes "events") item ≡ o → option_map (λ (m : ℕ × List ℕ). m.1) o ≡ Some e.events →
        Judged trail number n item e.events e.update
    by_events None at same = absurd cc
    by_events (Some m) at same =
        let text : m.1 ≡ e.events = cc in
        let x = by_update (part_text (codes "update") item) e.update_there in
        record {
          entry = x.0;
          is = ap (λ o. option_map_or (λ (w : ℕ × List ℕ). if is_selector w.1 then entry_by trail number n w.1 item else []) o []) at
              ∙ ap (λ t. if is_selector t then entry_by trail number n t item else []) text
              ∙ ap (λ b. if b then entry_by trail number n e.events item else []) (all_selectors e.events e.known) ∙ x.1;
          events_are = x.2;
          update_is = x.3;
        }

not_wrong : (at : List ℕ) (b : Bool) → shown (if b then part.Fault at Wrong ∷ [] else []) ≡ [] → b ≡ false
not_wrong at true e = absurd cc
not_wrong at false e = refl

selector_is : (c : Change) → number_of (unwrap_or (selector_named (selector_of c)) Click) ≡ number_by c
selector_is Point = refl
selector_is Toggle = refl
selector_is Clear = refl
selector_is Interval = refl

not_true : (b : Bool) → not b ≡ false → b ≡ true
not_true true e = refl
not_true false e = absurd cc

-- ---- several

mapped_any : {X Y : Type 0} (P : Y → Bool) (f : X → Y) (xs : List X) → list_any P (map f xs) ≡ list_any (λ x. P (f x)) xs
mapped_any P f [] = refl
mapped_any P f (x ∷ xs) = ap (λ b. P (f x) || b) (mapped_any P f xs)

none_passes : {X : Type 0} (P : X → Bool) (xs : List X) → list_any P xs ≡ false → Each (λ x. P x ≡ false) xs
none_passes P [] e = tt
none_passes P (x ∷ xs) e = let parts = or_parts (P x) (list_any P xs) e in (parts.0, none_passes P xs parts.1)

map_append : {X Y : Type 0} (f : X → Y) (xs ys : List X) → map f (xs ++ ys) ≡ map f xs ++ map f ys
map_append f [] ys = refl
map_append f (x ∷ xs) ys = ap (λ zs. f x ∷ zs) (map_append f xs ys)

-- the updates of entries
abbrev pub updates : List Entry → List (Option Update)
updates entries = map (λ (x : Entry). x.update) entries

abbrev pub said_updates : List EventUpdate → List (Option Update)
said_updates entries = map (λ (e : EventUpdate). update_of e.update) entries

abbrev beside : Update → Option Update → Bool
beside u o = option_map_or (λ v. clash u v) o false

-- what is said where an entry isn't wrong
said_right : (own : Option (List ℕ)) (earlier : List Entry) (before : List EventUpdate) (item : Json) (e : IsEntry item) (x : Entry) →
    x.events ≡ e.events → x.update ≡ update_of e.update → updates earlier ≡ said_updates before → is_wrong_entry own earlier x ≡ false →
    IsUpdate (built item) × Each (λ f. clashes (built item) f ≡ false) before
said_right own earlier before item e x events_are update_is same right = by_update x.update refl right
  where
    by_update : (o : Option Update) → x.update ≡ o → option_map_or (λ (u : Update). is_wrong own earlier x.events u) o true ≡ false →
        IsUpdate (built item) × Each (λ f. clashes (built item) f ≡ false) before
    by_update None at f = absurd cc
    by_update (Some u) at f =
        let parts = or_parts (is_wrong_alone own x.events u) (list_any (clashes_with u) earlier) f in
        let alone = or_parts (not (bytes_eq x.events (selector_of u.change)) || is_of_another own u) (misses_channels u) parts.0 in
        let first = or_parts (not (bytes_eq x.events (selector_of u.change))) (is_of_another own u) alone.0 in
        let belongs : x.events ≡ selector_of u.change =
        (bytes_eq-Decides x.events (selector_of u.change)).0 (not_true (bytes_eq x.events (selector_of u.change)) first.0) in
        let said : update_of (built item).update ≡ Some u = ap update_of e.built_update ∙ sym update_is ∙ at in
        let none : Each (λ (f : EventUpdate). beside u (update_of f.update) ≡ false) before =
        none_passes (λ (f : EventUpdate). beside u (update_of f.update)) before
        (sym (mapped_any (beside u) (λ (f : EventUpdate). update_of f.update) before) ∙ ap (list_any (beside u)) (sym same)
        ∙ mapped_any (beside u) (λ (x : Entry). x.update) earlier ∙ parts.1) in (
          record {
            said = u;
            is = said;
            selector = ap number_of (e.built_events ∙ ap (λ t. unwrap_or (selector_named t) Click) (sym events_are ∙ belongs)) ∙ selector_is u.change;
          },
          each_of (λ (f : EventUpdate). beside u (update_of f.update) ≡ false) (λ f. clashes (built item) f ≡ false)
              (λ f none. ap (λ o. option_map_or (λ u. option_map_or (λ v. clash u v) (update_of f.update) false) o false) said ∙ none) before none,
        )

-- where the entries of items show no fault, the items say updates, of which none clashes with an earlier one
pub items_clean : (concerned : Concerned) (trail : Trail) (number n : ℕ) (earlier : List Entry) (before : List EventUpdate) (items : List Json) →
    Each IsEntry items →
    updates earlier ≡ said_updates before → shown (entries_parts concerned earlier (flat_map (entry_of trail number) (enumerate_from n items))) ≡ [] →
    AreUpdates before (map built items)
items_clean concerned trail number n earlier before [] each same quiet = tt
items_clean concerned trail number n earlier before (item ∷ items) each same quiet =
    let x : Judged trail number n item each.0.events each.0.update = judged trail number n item each.0 in
    let rest : List Entry = flat_map (entry_of trail number) (enumerate_from (n + 1) items) in
    let still : shown (entry_parts concerned earlier x.entry ++ entries_parts concerned (earlier ++ x.entry ∷ []) rest) ≡ [] =
    ap (λ xs. shown (entries_parts concerned earlier (xs ++ rest))) (sym x.is) ∙ quiet in
    let both = quiet_parts (entry_parts concerned earlier x.entry) (entries_parts concerned (earlier ++ x.entry ∷ []) rest) still in
    let first = quiet_parts (entry_fault concerned.own earlier x.entry) (entry_intervals concerned x.entry) both.0 in
    let right : is_wrong_entry concerned.own earlier x.entry ≡ false = not_wrong x.entry.at (is_wrong_entry concerned.own earlier x.entry) first.0 in
    let said = said_right concerned.own earlier before item each.0 x.entry x.events_are x.update_is same right in
    let as_said : x.entry.update ≡ update_of (built item).update = x.update_is ∙ ap update_of (sym each.0.built_update) in
    let longer : updates (earlier ++ x.entry ∷ []) ≡ said_updates (before ++ built item ∷ []) =
    map_append (λ (x : Entry). x.update) earlier (x.entry ∷ []) ∙ (λ i. same i ++ as_said i ∷ [])
    ∙ sym (map_append (λ (e : EventUpdate). update_of e.update) before (built item ∷ [])) in
    (said.0, said.1, items_clean concerned trail number (n + 1) (earlier ++ x.entry ∷ []) (before ++ built item ∷ []) items each.1 longer both.1)
