-- The selections of a specification without faults: their names are their own, and each keeps the rules of selections.
use Rattle.std.proofs.Common.{◌≡◌, ◌≢◌, ℕ, suc, ◌+◌, ◌≤◌, List, [], ◌∷◌, ◌++◌, map, flat_map, length, take, find, cond, refl, sym, ap, subst, ◌∙◌, arith}
use Rattle.std.specs.Prelude.{Option, Some, None, Bool, true, false, ◌&&◌, IfSome, bytes_eq, codes, unwrap_or, is_some, filter_map}
use Rattle.std.specs.Option.{option_map, option_map_or, option_and_then}
use Rattle.std.specs.List.{All, AllPairs, enumerate_from, cons_option}
use Rattle.std.proofs.lemmas.List.{take_all, length-map}
use Rattle.std.proofs.lemmas.List.Elements.{All-cons, All-nil}
use Rattle.std.proofs.lemmas.Slice.Eq.{bytes_eq-Decides}
use Rattle.json_exact.specs.declared.json.Json.{Json, out-Json}
use Rattle.json_exact.specs.declared.json.Json.TheOpen as level
use Rattle.json_exact.specs.declared.json.Member.{Member}
use Rattle.json_exact.specs.Inside.{text_in, items_in, members_in}
use Rattle.json_exact.specs.Path.{member_value}
use Rattle.spec_schema.specs.declared.form.Form.{Form}
use Rattle.spec_schema.specs.declared.form.Form.TheVariants as form
use Rattle.spec_schema.specs.declared.layout.Layout.{Layout}
use Rattle.spec_schema.specs.Values.{Opened, object_passes, list_passes, has_length, among}
use Rattle.spec_schema.specs.Layouts.{shape_in, layout_in}
use Rattle.spec_schema.specs.Forms.{taken_form}
use Rattle.spec_schema.specs.Tables.{must}
use Rattle.spec_walk.specs.Walk.{seen_in, member_parts}
use Rattle.vega_schema.specs.declared.codes.TheConstants.{SIGNAL, SIGNALS, ON, ON_LIST, TEXT, TOP}
use Rattle.vega_schema.specs.Schema.{vega_schema}
use Rattle.vega_schema.specs.Shapes.{leaves, named as named_shapes, lists, objects, MAX_LENGTH}
use Rattle.vega_schema.specs.Words.{event_names}
use Rattle.vega_schema.specs.Guides.{group_mark, axis, legend, grid_layout, top}
use Rattle.vega_schema.specs.Sources.{data_set, data_format, parse, sort, extent_signal}
use Rattle.vega_schema.specs.Transforms.{filter, formula, extent, bin, time_unit, stack, fold}
use Rattle.vega_schema.specs.Groupings.{aggregate, join_aggregate, window, lookup, no_transform}
use Rattle.vega_schema.specs.Signals.{signal, on_event, expression_signal}
use Rattle.vega_schema.specs.Scales.{linear_scale, time_scale, band_scale, point_scale, ordinal_scale, no_scale}
use Rattle.vega_schema.specs.Domains.{domain_of_signal, domain_of_field, domain_of_fields, reference, sort_by_operation, sort_by_cells}
use Rattle.vega_schema.specs.PlainMarks.{rect_mark, symbol_mark, line_mark, area_mark, rule_mark, text_mark}
use Rattle.vega_schema.specs.Marks.{mark_from, group_from, facet, cross, encode, no_mark}
use Rattle.vega_schema.specs.Channels.{channel_members, value, words_value}
use Rattle.vega_schema.specs.Sizes.{size_signal, group_encode, group_channels, size_value}
use Rattle.vega_parts.specs.declared.part.Part.{Part}
use Rattle.vega_parts.specs.declared.part.Given.{Given}
use Rattle.vega_parts.specs.declared.part.Given.TheVariants as given_as
use Rattle.vega_parts.specs.Trails.{Trail, noted, place_of, scope_of, grandchild}
use Rattle.vega_parts.specs.Members.{text_at as part_text, items_at}
use Rattle.vega_parts.specs.Names.{given}
use Rattle.vega_parts.specs.Signals.{signal_name, store_name, signal_names, on_in_group, mark_names, selector, selectors_in, selectors}
use Rattle.vega_parts.specs.Selections.{entries_parts, concerned_by, entries_in, updates_in, update_parts}
use Rattle.vega_parts.specs.Parts.{parts_at, signal_itself, signal_parts}
use Rattle.vega_rules.specs.Names.{number_of}
use Rattle.vega_rules.specs.Places.{same_place}
use Rattle.vega_rules.specs.Rules.{shown}
use Rattle.vega_rules.specs.Twice.{is_single, twice}
use Rattle.vega_spec.specs.declared.signals.EventUpdate.{EventUpdate}
use Rattle.vega_spec.specs.declared.signals.Signal.{Signal}
use Rattle.vega_building.specs.Parts.{text_at, needed_text, found_at, objects_at, members_of}
use Rattle.vega_building.specs.Signals.{signal_of}
use Rattle.vega_selections.specs.Marks.{MarkNames}
use Rattle.vega_selections.specs.Selections.{selection_with, selection_in}
use Rattle.vega_selections.specs.Kept.{selection_name, IsKept}
use Rattle.vega_standing.proofs.Trees.{Each}
use Rattle.vega_standing.proofs.Stands.{EachFrom, Stands, StandsMember, StandsObject, formed, quiet_here, quiet_parts, parts_in}
use Rattle.vega_standing.proofs.Stands.{parts_of_items, parts_of_members, parts_open}
use Rattle.vega_standing.proofs.Shapes.{if_taken, form_taken}
use Rattle.vega_standing.proofs.Members.{Laid, laid_out, opened_as, found_as, required, among_each}
use Rattle.vega_standing.proofs.Transforms.{items_are}
use Rattle.vega_standing.proofs.Sets.{Listed, listed_as}
use Rattle.vega_standing.proofs.Sources.{one, times, texts_are, text_stands, the_text, one_given, given_once, apart}
use Rattle.vega_standing.proofs.Weights.{weight, weight_append, total, items_weigh}
use Rattle.vega_standing.proofs.SelectedFields.{AreUpdates, selection_kept}
use Rattle.vega_standing.proofs.Entries.{built, IsEntry, all_entries, items_clean}

-- ---- weights of parts

less_front : (a b c : ℕ) → c ≡ a + b → a ≤ c
less_front a b c e = omega arith

less_back : (a b c : ℕ) → c ≡ a + b → b ≤ c
less_back a b c e = omega arith

through : (a b c : ℕ) → a ≤ b → b ≤ c → a ≤ c
through a b c x y = omega arith

front_weighs : (w : Part → ℕ) (xs ys : List Part) → weight w xs ≤ weight w (xs ++ ys)
front_weighs w xs ys = less_front (weight w xs) (weight w ys) _ (weight_append w xs ys)

back_weighs : (w : Part → ℕ) (xs ys : List Part) → weight w ys ≤ weight w (xs ++ ys)
back_weighs w xs ys = less_back (weight w xs) (weight w ys) _ (weight_append w xs ys)

in_front : (w : Part → ℕ) (n : ℕ) (xs ys : List Part) → n ≤ weight w xs → n ≤ weight w (xs ++ ys)
in_front w n xs ys less = through n (weight w xs) (weight w (xs ++ ys)) less (front_weighs w xs ys)

in_back : (w : Part → ℕ) (n : ℕ) (xs ys : List Part) → n ≤ weight w ys → n ≤ weight w (xs ++ ys)
in_back w n xs ys less = through n (weight w ys) (weight w (xs ++ ys)) less (back_weighs w xs ys)

-- a value stands in a specification, and what it gives weighs no more than the whole
pub record Heavy (whole : List Part) (round : Trail) (number shape : ℕ) (v : Json) : Type 0 where
  pub stands : Stands round number shape v
  pub weighs : (w : Part → ℕ) → weight w (parts_in round number shape v) ≤ weight w whole

items_heavy : (whole : List Part) (trail : Trail) (inner n : ℕ) (items : List Json) → EachFrom (λ i v. Stands trail i inner v) n items →
    ((w : Part → ℕ) → weight w (parts_of_items trail inner n items) ≤ weight w whole) → EachFrom (λ i v. Heavy whole trail i inner v) n items
items_heavy whole trail inner n [] each less = tt
items_heavy whole trail inner n (v ∷ items) each less = (
  record {
    stands = each.0;
    weighs = λ w. through (weight w (parts_in trail n inner v))
        (weight w (parts_in trail n inner v ++ parts_of_items trail inner (n + 1) items)) (weight w whole)
        (front_weighs w (parts_in trail n inner v) (parts_of_items trail inner (n + 1) items)) (less w);
  },
  items_heavy whole trail inner (n + 1) items each.1
      (λ w. through (weight w (parts_of_items trail inner (n + 1) items))
      (weight w (parts_in trail n inner v ++ parts_of_items trail inner (n + 1) items)) (weight w whole)
      (back_weighs w (parts_in trail n inner v) (parts_of_items trail inner (n + 1) items)) (less w)),
)

member_heavy : (whole : List Part) (trail : Trail) (l : Layout) (n : ℕ) (ms : List Member) (name : List ℕ) (shape : ℕ) (v : Json) →
    EachFrom (StandsMember trail l) n ms →
    member_value ms name ≡ Some v → shape_in l name ≡ Some shape → ((w : Part → ℕ) → weight w (parts_of_members trail l n ms) ≤ weight w whole) →
    (k : ℕ) × Heavy whole trail k shape v
member_heavy whole trail l n [] name shape v each e ruled less = absurd cc
member_heavy whole trail l n (m ∷ ms) name shape v each e ruled less =
    by_name (bytes_eq m.name name) refl e
    (λ f. member_heavy whole trail l (n + 1) ms name shape v each.1 f ruled
    (λ w. through (weight w rest) (weight w (here ++ rest)) (weight w whole) (back_weighs w here rest) (less w)))
  where
    here : List Part
    here = member_parts l trail (n, (m.name, seen_in vega_schema noted parts_at m.value))

    rest : List Part
    rest = parts_of_members trail l (n + 1) ms

    by_name : (b : Bool) → bytes_eq m.name name ≡ b →
        option_map (λ (m : Member). m.value) (cond b (Some m) (find (λ (m : Member). bytes_eq m.name name) ms)) ≡ Some v →
        (member_value ms name ≡ Some v → (k : ℕ) × Heavy whole trail k shape v) → (k : ℕ) × Heavy whole trail k shape v
    by_name true same f others =
        let name_is : m.name ≡ name = (bytes_eq-Decides m.name name).0 same in
        let rule : shape_in l m.name ≡ Some shape = ap (shape_in l) name_is ∙ ruled in
        let shaped : each.0.0 ≡ shape = let a = each.0.1 in cc in
        let valued : m.value ≡ v = cc in
        let is : parts_in trail n each.0.0 m.value ≡ here = ap (λ o. option_map_or (λ shape. parts_in trail n shape m.value) o []) (sym each.0.1) in
        let heavy : Heavy whole trail n each.0.0 m.value =
        record {
          stands = each.0.2;
          weighs = λ w. subst (λ ps. weight w ps ≤ weight w whole) (sym is)
              (through (weight w here) (weight w (here ++ rest)) (weight w whole) (front_weighs w here rest) (less w));
        } in
        (n, subst (λ x. Heavy whole trail n shape x) valued (subst (λ c. Heavy whole trail n c m.value) shaped heavy))
    by_name false same f others = others f

-- ---- the table

signal_taken : (o : Opened) (f : Form) → taken_form vega_schema SIGNAL o ≡ Some f →
    (object_passes (λ members. is_some (layout_in vega_schema SIGNAL members)) o ≡ true) × (form.Object SIGNAL ≡ f)
unfolding vega_schema leaves named_shapes lists objects
signal_taken o f e = (
  if_taken (object_passes (λ members. is_some (layout_in vega_schema SIGNAL members)) o) _ f e,
  form_taken (object_passes (λ members. is_some (layout_in vega_schema SIGNAL members)) o) _ f e,
)

signals_taken : (o : Opened) (f : Form) → taken_form vega_schema SIGNALS o ≡ Some f →
    (list_passes (has_length 0 MAX_LENGTH) o ≡ true) × (form.List 0 MAX_LENGTH SIGNAL ≡ f)
unfolding vega_schema leaves named_shapes lists objects
signals_taken o f e = (if_taken (list_passes (has_length 0 MAX_LENGTH) o) _ f e, form_taken (list_passes (has_length 0 MAX_LENGTH) o) _ f e)

on_list_taken : (o : Opened) (f : Form) → taken_form vega_schema ON_LIST o ≡ Some f →
    (list_passes (has_length 0 MAX_LENGTH) o ≡ true) × (form.List 0 MAX_LENGTH ON ≡ f)
unfolding vega_schema leaves named_shapes lists objects
on_list_taken o f e = (if_taken (list_passes (has_length 0 MAX_LENGTH) o) _ f e, form_taken (list_passes (has_length 0 MAX_LENGTH) o) _ f e)

signal_layout : (ms : List Member) → layout_in vega_schema SIGNAL ms ≡ Some signal
unfolding vega_schema group_mark axis legend grid_layout top data_set data_format parse sort extent_signal
    filter formula extent bin time_unit stack fold aggregate join_aggregate window lookup no_transform signal on_event expression_signal
    linear_scale time_scale band_scale point_scale ordinal_scale no_scale domain_of_signal domain_of_field domain_of_fields reference
    sort_by_operation sort_by_cells rect_mark symbol_mark line_mark area_mark rule_mark text_mark mark_from group_from facet cross
    encode no_mark channel_members value words_value size_signal group_encode group_channels size_value
signal_layout ms = refl

signal_rules : (shape_in signal (codes "name") ≡ Some TEXT) × (shape_in signal (codes "on") ≡ Some ON_LIST)
unfolding signal
signal_rules = (refl, refl)

signal_named : (trail : Trail) (ms : List Member) → StandsObject trail signal ms → (v : Json) × (member_value ms (codes "name") ≡ Some v)
unfolding signal
signal_named trail ms s = required trail signal ms (codes "name") (must (codes "name") TEXT) s refl refl refl

-- ---- the selectors of one signal

single_signal : (k : Given) → number_of k ≡ 3 → is_single k ≡ true
single_signal given_as.Data e = refl
single_signal given_as.Source e = refl
single_signal given_as.Facet e = absurd (let f : 2 ≡ 3 = e in omega (arith, f))
single_signal given_as.Signal e = refl
single_signal given_as.Store e = absurd (let f : 4 ≡ 3 = e in omega (arith, f))
single_signal given_as.Scale e = refl
single_signal given_as.FacetName e = refl
single_signal given_as.Selector e = refl
single_signal given_as.Header e = refl

single_selector : (k : Given) → number_of k ≡ 7 → is_single k ≡ true
single_selector given_as.Data e = refl
single_selector given_as.Source e = refl
single_selector given_as.Facet e = absurd (let f : 2 ≡ 7 = e in omega (arith, f))
single_selector given_as.Signal e = refl
single_selector given_as.Store e = absurd (let f : 4 ≡ 7 = e in omega (arith, f))
single_selector given_as.Scale e = refl
single_selector given_as.FacetName e = refl
single_selector given_as.Selector e = refl
single_selector given_as.Header e = refl

-- the selector that an item says
abbrev events_of : Json → List ℕ
events_of item = unwrap_or (option_map (λ (m : ℕ × List ℕ). m.1) (part_text (codes "events") item)) []

no_less : (n : ℕ) → n ≤ n + 0
no_less n = omega arith

-- a name that is given counts
name_counts : (scoped : Bool) (b : Bool) → scoped ≡ true → one b ≤ one (scoped && b) + 0
name_counts true b e = no_less (one b)
name_counts false b e = absurd cc

same_scope : (p : List ℕ) → same_place p p ≡ true
same_scope p = (bytes_eq-Decides p p).1 refl

one_selector : (x : List ℕ) (trail : Trail) (number n : ℕ) (item : Json) → IsEntry item →
    one (bytes_eq x (events_of item)) ≤ weight (one_given given_as.Selector (place_of trail) x) (selector trail number (n, item))
one_selector x trail number n item e = by_text (part_text (codes "events") item) e.events_there
  where
    by_text : (o : Option (ℕ × List ℕ)) → option_map (λ (m : ℕ × List ℕ). m.1) o ≡ Some e.events →
        one (bytes_eq x (unwrap_or (option_map (λ (m : ℕ × List ℕ). m.1) o) []))
        ≤ weight (one_given given_as.Selector (place_of trail) x) (option_map_or (λ (m : ℕ × List ℕ). given given_as.Selector (place_of trail)
        (grandchild trail number n) (grandchild trail number n ++ m.0 ∷ []) m.1 ∷ []) o [])
    by_text None same = absurd cc
    by_text (Some m) same = name_counts (same_place (place_of trail) (place_of trail)) (bytes_eq x m.1) (same_scope (place_of trail))

more : (a b p q whole : ℕ) → whole ≡ p + q → a ≤ p → b ≤ q → a + b ≤ whole
more a b p q whole is x y = omega arith

items_selected : (x : List ℕ) (trail : Trail) (number n : ℕ) (items : List Json) → Each IsEntry items →
    times x (map events_of items) ≤ weight (one_given given_as.Selector (place_of trail) x) (flat_map (selector trail number) (enumerate_from n items))
items_selected x trail number n [] each = omega arith
items_selected x trail number n (item ∷ items) each =
    more (one (bytes_eq x (events_of item))) (times x (map events_of items))
    (weight (one_given given_as.Selector (place_of trail) x) (selector trail number (n, item)))
    (weight (one_given given_as.Selector (place_of trail) x) (flat_map (selector trail number) (enumerate_from (n + 1) items))) _
    (weight_append (one_given given_as.Selector (place_of trail) x) (selector trail number (n, item))
    (flat_map (selector trail number) (enumerate_from (n + 1) items)))
    (one_selector x trail number n item each.0) (items_selected x trail number (n + 1) items each.1)

-- ---- there are four at most

abbrev click : List ℕ
click = codes "click"

abbrev shift_click : List ℕ
shift_click = codes "click[event.shiftKey]"

abbrev double_click : List ℕ
double_click = codes "dblclick"

abbrev drag : List ℕ
drag = codes "[mousedown, mouseup] > mousemove"

abbrev IsOneOfFour : List ℕ → Type 0
IsOneOfFour t = 1 ≤ one (bytes_eq click t) + one (bytes_eq shift_click t) + one (bytes_eq double_click t) + one (bytes_eq drag t)

of_four : (text : List ℕ) → among event_names text ≡ true → IsOneOfFour text
unfolding event_names
of_four text e = among_each IsOneOfFour event_names text (at_first, (at_second, (at_third, (at_fourth, tt)))) e
  where
    at_first : 1 ≤ 1 + 0 + 0 + 0
    at_first = omega arith

    at_second : 1 ≤ 0 + 1 + 0 + 0
    at_second = omega arith

    at_third : 1 ≤ 0 + 0 + 1 + 0
    at_third = omega arith

    at_fourth : 1 ≤ 0 + 0 + 0 + 1
    at_fourth = omega arith

one_more : (a b c d p q r s n : ℕ) → 1 ≤ a + b + c + d → n ≤ p + q + r + s → suc n ≤ (a + p) + (b + q) + (c + r) + (d + s)
one_more a b c d p q r s n x y = omega arith

counted : (texts : List (List ℕ)) → Each (λ t. among event_names t ≡ true) texts →
    length texts ≤ times click texts + times shift_click texts + times double_click texts + times drag texts
counted [] each = omega arith
counted (t ∷ texts) each =
    one_more (one (bytes_eq click t)) (one (bytes_eq shift_click t)) (one (bytes_eq double_click t)) (one (bytes_eq drag t))
    (times click texts) (times shift_click texts) (times double_click texts) (times drag texts) (length texts) (of_four t each.0) (counted texts each.1)

at_most_five : (p q r s n : ℕ) → n ≤ p + q + r + s → p ≤ 1 → q ≤ 1 → r ≤ 1 → s ≤ 1 → n ≤ 5
at_most_five p q r s n e a b c d = omega arith

few : (texts : List (List ℕ)) → Each (λ t. among event_names t ≡ true) texts → ((x : List ℕ) → times x texts ≤ 1) → length texts ≤ 5
few texts each once =
    at_most_five (times click texts) (times shift_click texts) (times double_click texts) (times drag texts) (length texts) (counted texts each)
    (once click) (once shift_click) (once double_click) (once drag)

known_texts : (items : List Json) → Each IsEntry items → Each (λ t. among event_names t ≡ true) (map events_of items)
known_texts [] each = tt
known_texts (item ∷ items) each =
    (subst (λ t. among event_names t ≡ true) (sym (ap (λ o. unwrap_or o []) each.0.events_there)) each.0.known, known_texts items each.1)

-- ---- one signal

-- what is kept of the signal that a value says
abbrev pub SaysUpdates : Signal → Type 0
SaysUpdates s = IfSome s.on (λ (es : List EventUpdate). AreUpdates [] es)

module _ (whole : List Part) (none : twice whole ≡ []) (round : Trail) (i : ℕ) (t : Json) (h : Heavy whole round i SIGNAL t) where
  abbrev trail : Trail
  trail = noted i SIGNAL t ∷ round

  opened : (rest : List Part) × (parts_in round i SIGNAL t ≡ signal_parts trail t ++ rest)
  opened = let f = formed SIGNAL t h.stands.fine in (_, parts_open round i SIGNAL t f.0 f.1)

  -- what the signal gives itself weighs no more than the whole
  own_weighs : (w : Part → ℕ) (n : ℕ) → n ≤ weight w (signal_parts trail t) → n ≤ weight w (parts_in round i SIGNAL t)
  own_weighs w n less = subst (λ ps. n ≤ weight w ps) (sym opened.1) (in_front w n (signal_parts trail t) opened.0 less)

  updates_quiet : shown (update_parts trail t) ≡ []
  updates_quiet = (quiet_parts (signal_itself trail t ++ selectors trail t) (update_parts trail t) (quiet_here round i SIGNAL t h.stands)).1

  selectors_weigh : (w : Part → ℕ) (n : ℕ) → n ≤ weight w (selectors trail t) → n ≤ weight w whole
  selectors_weigh w n less =
      through n (weight w (parts_in round i SIGNAL t)) (weight w whole)
      (own_weighs w n (in_front w n (signal_itself trail t ++ selectors trail t) (update_parts trail t)
      (in_back w n (signal_itself trail t) (selectors trail t) less))) (h.weighs w)

  names_weigh : (w : Part → ℕ) (n : ℕ) → n ≤ weight w (signal_names trail t) → n ≤ weight w (parts_in round i SIGNAL t)
  names_weigh w n less =
      own_weighs w n (in_front w n (signal_itself trail t ++ selectors trail t) (update_parts trail t)
      (in_front w n (signal_itself trail t) (selectors trail t)
      (in_front w n (signal_names trail t ++ on_in_group trail t) (mark_names trail t)
      (in_front w n (signal_names trail t) (on_in_group trail t) less))))

  -- the entries of its list are updates that don't clash
  entries_clean : (number : ℕ) (items : List Json) → items_at (codes "on") t ≡ Some (number, items) → Each IsEntry items → AreUpdates [] (map built items)
  entries_clean number items at each =
      let selected : (x : List ℕ) → times x (map events_of items) ≤ 1 =
      λ x. through (times x (map events_of items)) (weight (one_given given_as.Selector (place_of trail) x) whole) 1
      (selectors_weigh (one_given given_as.Selector (place_of trail) x) (times x (map events_of items))
      (subst (λ ps. times x (map events_of items) ≤ weight (one_given given_as.Selector (place_of trail) x) ps)
      (sym (ap (λ o. option_map_or (λ (m : ℕ × List Json). selectors_in trail m.0 m.1) o []) at)) (items_selected x trail number 0 items each)))
      (given_once given_as.Selector (place_of trail) single_selector x whole none) in
      let all : take 5 items ≡ items =
      take_all 5 items (subst (λ n. n ≤ 5) (length-map items events_of) (few (map events_of items) (known_texts items each) selected)) in
      let quiet : shown (updates_in trail t number items) ≡ [] =
      ap (λ o. shown (option_map_or (λ (m : ℕ × List Json). updates_in trail t m.0 m.1) o [])) (sym at) ∙ updates_quiet in
      items_clean (concerned_by trail t) trail number 0 [] [] items each refl
      (ap (λ xs. shown (entries_parts (concerned_by trail t) [] (entries_in trail number xs))) (sym all) ∙ quiet)

  module _ (ms : List Member) (is : out-Json t ≡ level.Object ms) (o : StandsObject trail signal ms) where
    on_clean : (list : Json) → member_value ms (codes "on") ≡ Some list → SaysUpdates (signal_of ms)
    on_clean list e =
        let there : (k : ℕ) × Stands trail k ON_LIST list = found_as trail signal ms (codes "on") list ON_LIST o signal_rules.1 e in
        let l : Listed trail there.0 ON_LIST ON list = listed_as trail there.0 ON_LIST ON list there.1 on_list_taken in
        let each : Each IsEntry l.items = all_entries (noted there.0 ON_LIST list ∷ trail) 0 l.items l.each in
        let found : found_at items_in ms (codes "on") ≡ Some l.items = ap (λ o. option_and_then (λ v. items_in (out-Json v)) o) e ∙ ap items_in l.is_list in
        let told : option_map (λ (m : ℕ × List Json). m.1) (items_at (codes "on") t) ≡ Some l.items = items_are t ms is (codes "on") ∙ found in
        subst (λ (x : Option (List EventUpdate)). IfSome x (λ es. AreUpdates [] es))
        (sym (ap (option_map (map built)) found)) (by_items l.items each (items_at (codes "on") t) refl told)
      where
        by_items : (items : List Json) → Each IsEntry items → (m : Option (ℕ × List Json)) →
            items_at (codes "on") t ≡ m → option_map (λ (m : ℕ × List Json). m.1) m ≡ Some items →
            AreUpdates [] (map built items)
        by_items items each None at same = absurd cc
        by_items items each (Some m) at same =
            let whole_list : m.1 ≡ items = cc in
            subst (λ xs. AreUpdates [] (map built xs)) whole_list (entries_clean m.0 m.1 at (subst (Each IsEntry) (sym whole_list) each))

    signal_says : SaysUpdates (signal_of ms)
    signal_says = by_value (member_value ms (codes "on")) refl
      where
        by_value : (v : Option Json) → member_value ms (codes "on") ≡ v → SaysUpdates (signal_of ms)
        by_value None e =
            subst (λ (x : Option (List EventUpdate)). IfSome x (λ es. AreUpdates [] es))
            (sym (ap (λ v. option_map (map built) (option_and_then (λ tree. items_in (out-Json tree)) v)) e)) tt
        by_value (Some list) e = on_clean list e

    -- its name is given in the object that is its scope
    name_weighs : (x : List ℕ) → one (bytes_eq x (signal_of ms).name) ≤ weight (one_given given_as.Signal (scope_of trail) x) (parts_in round i SIGNAL t)
    name_weighs x =
        let v : (v : Json) × (member_value ms (codes "name") ≡ Some v) = signal_named trail ms o in
        let there : (j : ℕ) × Stands trail j TEXT v.0 = found_as trail signal ms (codes "name") v.0 TEXT o signal_rules.0 v.1 in
        let y : (y : List ℕ) × (text_in (out-Json v.0) ≡ Some y) = the_text (text_in (out-Json v.0)) (text_stands trail there.0 v.0 there.1) in
        let text : text_at ms (codes "name") ≡ Some y.0 = ap (λ o. option_and_then (λ v. text_in (out-Json v)) o) v.1 ∙ y.1 in
        let named : needed_text ms (codes "name") ≡ y.0 = ap (λ o. unwrap_or o []) text in
        subst (λ n. one (bytes_eq x n) ≤ weight (one_given given_as.Signal (scope_of trail) x) (parts_in round i SIGNAL t)) (sym named)
        (names_weigh (one_given given_as.Signal (scope_of trail) x) (one (bytes_eq x y.0))
        (by_text y.0 (part_text (codes "name") t) (texts_are t ms is (codes "name") ∙ text)))
      where
        by_text : (n : List ℕ) (m : Option (ℕ × List ℕ)) → option_map (λ (m : ℕ × List ℕ). m.1) m ≡ Some n →
            one (bytes_eq x n) ≤ weight (one_given given_as.Signal (scope_of trail) x)
            (option_map_or (λ (m : ℕ × List ℕ). signal_name trail m ++ store_name trail t m) m [])
        by_text n None same = absurd cc
        by_text n (Some m) same =
            let text : m.1 ≡ n = cc in
            subst (λ n. one (bytes_eq x n) ≤ weight (one_given given_as.Signal (scope_of trail) x) (signal_name trail m ++ store_name trail t m)) text
            (in_front (one_given given_as.Signal (scope_of trail) x) (one (bytes_eq x m.1)) (signal_name trail m) (store_name trail t m)
            (name_counts (same_place (scope_of trail) (scope_of trail)) (bytes_eq x m.1) (same_scope (scope_of trail))))

  -- the signal that the value says
  abbrev said : Signal
  said = signal_of (members_of t)

  record IsSaid : Type 0 where
    updates : SaysUpdates said
    name : (x : List ℕ) → one (bytes_eq x said.name) ≤ weight (one_given given_as.Signal (scope_of trail) x) (parts_in round i SIGNAL t)

  is_said : IsSaid
  is_said =
      let f = formed SIGNAL t h.stands.fine in
      let ms : (ms : List Member) × (out-Json t ≡ level.Object ms) = opened_as SIGNAL (out-Json t) (signal_taken (out-Json t) f.0 f.1).0 in
      let l : Laid round i SIGNAL SIGNAL t ms.0 = laid_out round i SIGNAL SIGNAL t ms.0 h.stands ms.1 (λ f e. signal_taken (level.Object ms.0) f e) in
      let laid : l.layout ≡ signal = let a = l.applies in let b = signal_layout ms.0 in cc in
      let o : StandsObject trail signal ms.0 = subst (λ x. StandsObject trail x ms.0) laid l.stands in
      let same : members_of t ≡ ms.0 = ap (λ o. unwrap_or (members_in o) []) ms.1 in
      record {
        updates = subst (λ m. SaysUpdates (signal_of m)) (sym same) (signal_says ms.0 ms.1 o);
        name = λ x. subst
            (λ m. one (bytes_eq x (signal_of m).name) ≤ weight (one_given given_as.Signal (scope_of trail) x) (parts_in round i SIGNAL t)) (sym same)
            (name_weighs ms.0 ms.1 o x);
      }

-- ---- the signals of the top

-- the signals that items say
abbrev signals_said : List Json → List Signal
signals_said items = map (λ t. signal_of (members_of t)) items

-- what is kept of the signals of the top
pub record KeepsSignals (signals : List Signal) : Type 0 where
  pub updates : Each SaysUpdates signals
  pub names : (x : List ℕ) → times x (map (λ (s : Signal). s.name) signals) ≤ 1

module _ (whole : List Part) (none : twice whole ≡ []) (tree : Json) where
  abbrev at_top : Trail
  at_top = noted 0 TOP tree ∷ []

  module _ (k : ℕ) (list : Json) where
    abbrev in_list : Trail
    in_list = noted k SIGNALS list ∷ at_top

    each_updates : (n : ℕ) (items : List Json) → EachFrom (λ i t. Heavy whole in_list i SIGNAL t) n items → Each SaysUpdates (signals_said items)
    each_updates n [] each = tt
    each_updates n (t ∷ items) each = ((is_said whole none in_list n t each.0).updates, each_updates (n + 1) items each.1)

    -- all of them are given in the top
    each_named : (x : List ℕ) (n : ℕ) (items : List Json) → EachFrom (λ i t. Heavy whole in_list i SIGNAL t) n items →
        EachFrom (λ i t. one (bytes_eq x (signal_of (members_of t)).name) ≤ weight (one_given given_as.Signal [] x) (parts_in in_list i SIGNAL t)) n items
    each_named x n [] each = tt
    each_named x n (t ∷ items) each = ((is_said whole none in_list n t each.0).name x, each_named x (n + 1) items each.1)

    names_total : (x : List ℕ) (items : List Json) →
        times x (map (λ (s : Signal). s.name) (signals_said items)) ≡ total (λ t. one (bytes_eq x (signal_of (members_of t)).name)) items
    names_total x [] = refl
    names_total x (t ∷ items) = ap (λ n. one (bytes_eq x (signal_of (members_of t)).name) + n) (names_total x items)

    list_kept : Heavy whole at_top k SIGNALS list → (signals : Option (List Signal)) →
        signals ≡ option_map (map (λ t. signal_of (members_of t))) (items_in (out-Json list)) → KeepsSignals (unwrap_or signals [])
    list_kept h signals are =
        let l : Listed at_top k SIGNALS SIGNAL list = listed_as at_top k SIGNALS SIGNAL list h.stands signals_taken in
        let behind : (w : Part → ℕ) → weight w (parts_of_items in_list SIGNAL 0 l.items) ≤ weight w whole =
        λ w. through (weight w (parts_of_items in_list SIGNAL 0 l.items)) (weight w (parts_in at_top k SIGNALS list)) (weight w whole)
        (subst (λ ps. weight w (parts_of_items in_list SIGNAL 0 l.items) ≤ weight w ps) (sym l.parts)
        (back_weighs w (parts_at in_list list) (parts_of_items in_list SIGNAL 0 l.items)))
        (h.weighs w) in
        let each : EachFrom (λ i t. Heavy whole in_list i SIGNAL t) 0 l.items = items_heavy whole in_list SIGNAL 0 l.items l.each behind in
        let here : unwrap_or signals [] ≡ signals_said l.items =
        ap (λ o. unwrap_or o []) (are ∙ ap (λ o. option_map (map (λ t. signal_of (members_of t))) (items_in o)) l.is_list) in
        subst KeepsSignals (sym here)
        (record {
          updates = each_updates 0 l.items each;
          names = λ x. subst (λ n. n ≤ 1) (sym (names_total x l.items))
              (through (total (λ t. one (bytes_eq x (signal_of (members_of t)).name)) l.items) (weight (one_given given_as.Signal [] x) whole) 1
              (through (total (λ t. one (bytes_eq x (signal_of (members_of t)).name)) l.items)
              (weight (one_given given_as.Signal [] x) (parts_of_items in_list SIGNAL 0 l.items))
              (weight (one_given given_as.Signal [] x) whole)
              (items_weigh (one_given given_as.Signal [] x) (λ t. one (bytes_eq x (signal_of (members_of t)).name))
              in_list SIGNAL 0 l.items (each_named x 0 l.items each))
              (behind (one_given given_as.Signal [] x)))
              (given_once given_as.Signal [] single_signal x whole none));
        })

  nothing : (n : ℕ) → 0 ≤ n
  nothing n = omega arith

  signals_ruled : shape_in top (codes "signals") ≡ Some SIGNALS
  unfolding top
  signals_ruled = refl

  pub top_signals : (ms : List Member) (before : List Part) → StandsObject at_top top ms → whole ≡ before ++ parts_of_members at_top top 0 ms →
      KeepsSignals (unwrap_or (objects_at signal_of ms (codes "signals")) [])
  top_signals ms before s is = by_value (member_value ms (codes "signals")) refl
    where
      by_value : (o : Option Json) → member_value ms (codes "signals") ≡ o →
          KeepsSignals (unwrap_or (option_map (map (λ t. signal_of (members_of t))) (option_and_then (λ v. items_in (out-Json v)) o)) [])
      by_value None e = record { updates = tt; names = λ x. nothing 1 }
      by_value (Some list) e =
          let h : (k : ℕ) × Heavy whole at_top k SIGNALS list =
          member_heavy whole at_top top 0 ms (codes "signals") SIGNALS list s.each e signals_ruled
          (λ w. subst (λ ps. weight w (parts_of_members at_top top 0 ms) ≤ weight w ps) (sym is) (back_weighs w before (parts_of_members at_top top 0 ms))) in
          list_kept h.0 list h.1 (option_map (map (λ t. signal_of (members_of t))) (items_in (out-Json list))) refl

-- ---- selections

more_or_less : (a b c : ℕ) → a ≤ b → a ≤ c + b
more_or_less a b c e = omega arith

one_less : (a b c : ℕ) → a ≤ b → c + a ≤ c + b
one_less a b c e = omega arith

-- the selections among some signals have names of these
names_of_selections : (x : List ℕ) (marks : MarkNames) (signals : List Signal) →
    times x (map selection_name (filter_map (selection_in marks) signals)) ≤ times x (map (λ (s : Signal). s.name) signals)
names_of_selections x marks [] = omega arith
names_of_selections x marks (s ∷ signals) = by_on s.on (names_of_selections x marks signals)
  where
    by_on : (o : Option (List EventUpdate)) →
        times x (map selection_name (filter_map (selection_in marks) signals)) ≤ times x (map (λ (s : Signal). s.name) signals) →
        times x (map selection_name (cons_option (option_map (selection_with marks s) o) (filter_map (selection_in marks) signals)))
        ≤ one (bytes_eq x s.name) + times x (map (λ (s : Signal). s.name) signals)
    by_on None less =
        more_or_less (times x (map selection_name (filter_map (selection_in marks) signals)))
        (times x (map (λ (s : Signal). s.name) signals)) (one (bytes_eq x s.name)) less
    by_on (Some es) less =
        one_less (times x (map selection_name (filter_map (selection_in marks) signals)))
        (times x (map (λ (s : Signal). s.name) signals)) (one (bytes_eq x s.name)) less

all_kept : (marks : MarkNames) (signals : List Signal) → Each SaysUpdates signals → All IsKept (filter_map (selection_in marks) signals)
all_kept marks [] each = All-nil IsKept
all_kept marks (s ∷ signals) each = by_on s.on each.0 (all_kept marks signals each.1)
  where
    by_on : (o : Option (List EventUpdate)) → IfSome o (λ (es : List EventUpdate). AreUpdates [] es) → All IsKept (filter_map (selection_in marks) signals) →
        All IsKept (cons_option (option_map (selection_with marks s) o) (filter_map (selection_in marks) signals))
    by_on None a rest = rest
    by_on (Some es) a rest = All-cons IsKept (selection_with marks s es) (filter_map (selection_in marks) signals) (selection_kept marks s es a) rest

-- selections among signals that keep this
pub record KeepsAmong (marks : MarkNames) (signals : List Signal) : Type 0 where
  pub own_names : AllPairs (λ a b. a ≢ b) (map selection_name (filter_map (selection_in marks) signals))
  pub each : All IsKept (filter_map (selection_in marks) signals)

pub selections_among : (marks : MarkNames) (signals : List Signal) → KeepsSignals signals → KeepsAmong marks signals
selections_among marks signals k = record {
  own_names = apart (map selection_name (filter_map (selection_in marks) signals))
      (λ x. through (times x (map selection_name (filter_map (selection_in marks) signals))) (times x (map (λ (s : Signal). s.name) signals)) 1
      (names_of_selections x marks signals) (k.names x));
  each = all_kept marks signals k.updates;
}
