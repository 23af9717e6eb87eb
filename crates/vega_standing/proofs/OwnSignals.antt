-- What the computed signals of an object need.
use Rattle.std.proofs.Common.{◌≡◌, ℕ, ◌+◌, List, [], ◌∷◌, ◌++◌, map, refl, sym, ap, subst, ◌∙◌, inl, inr}
use Rattle.std.specs.Prelude.{Option, Some, None, Bool, true, false, codes, unwrap_or, is_some, flat_map, if◌then◌else◌}
use Rattle.std.specs.Option.{option_map, option_map_or, option_and_then}
use Rattle.json_exact.specs.declared.json.Json.{Json, out-Json}
use Rattle.json_exact.specs.declared.json.Json.TheOpen as level
use Rattle.json_exact.specs.declared.json.Member.{Member}
use Rattle.json_exact.specs.Inside.{text_in, members_in}
use Rattle.json_exact.specs.Path.{member_value}
use Rattle.spec_schema.specs.declared.form.Form.{Form}
use Rattle.spec_schema.specs.declared.form.Form.TheVariants as form
use Rattle.spec_schema.specs.Values.{Opened, object_passes, list_passes, has_length}
use Rattle.spec_schema.specs.Layouts.{shape_in, layout_in}
use Rattle.spec_schema.specs.Forms.{taken_form}
use Rattle.spec_schema.specs.Tables.{must}
use Rattle.expr_syntax.specs.declared.expr.Expr.{Expr}
use Rattle.expr_reading.specs.Mentions.{parameters_in}
use Rattle.expr_reading.specs.Readings.{expression_of}
use Rattle.vega_schema.specs.declared.codes.TheConstants.{SIGNAL, SIGNALS, EXPRESSION, TEXT, TOP}
use Rattle.vega_schema.specs.Schema.{vega_schema}
use Rattle.vega_schema.specs.Shapes.{leaves, named as named_shapes, lists, objects, MAX_LENGTH}
use Rattle.vega_schema.specs.Guides.{group_mark, axis, legend, grid_layout, top}
use Rattle.vega_schema.specs.Sources.{data_set, data_format, parse, sort, extent_signal}
use Rattle.vega_schema.specs.Transforms.{filter, formula, extent, bin, time_unit, stack, fold}
use Rattle.vega_schema.specs.Groupings.{aggregate, join_aggregate, window, lookup, no_transform}
use Rattle.vega_schema.specs.Signals.{signal, on_event, expression_signal}
use Rattle.vega_schema.specs.Scales.{linear_scale, time_scale, band_scale, point_scale, ordinal_scale, no_scale}
use Rattle.vega_schema.specs.Domains.{domain_of_signal, domain_of_field, domain_of_fields, reference, sort_by_operation, sort_by_cells}
use Rattle.vega_schema.specs.PlainMarks.{rect_mark, symbol_mark, line_mark, area_mark, rule_mark, text_mark}
use Rattle.vega_schema.specs.Marks.{mark_from, group_from, facet, cross, encode, no_mark}
use Rattle.vega_schema.specs.Channels.{channel_members, value, words_value}
use Rattle.vega_schema.specs.Sizes.{size_signal, group_encode, group_channels, size_value}
use Rattle.vega_parts.specs.declared.part.Part.{Part}
use Rattle.vega_parts.specs.declared.part.Given.TheVariants as given_as
use Rattle.vega_parts.specs.declared.around.Around.{Around}
use Rattle.vega_parts.specs.Trails.{Trail, noted, place_of, scope_of, child, object_at}
use Rattle.vega_parts.specs.Members.{text_at as part_text}
use Rattle.vega_parts.specs.Names.{given}
use Rattle.vega_parts.specs.Signals.{signal_names, signal_name, store_name, on_in_group, mark_names, selectors}
use Rattle.vega_parts.specs.Selections.{update_parts}
use Rattle.vega_parts.specs.Parts.{parts_of, signal_itself}
use Rattle.vega_spec.specs.declared.signals.Signal.{Signal}
use Rattle.vega_building.specs.Parts.{text_at, needed_text, members_of, expression_at}
use Rattle.vega_building.specs.Signals.{signal_of}
use Rattle.vega_rules.specs.declared.nodes.Thing.TheVariants as thing
use Rattle.vega_rules.specs.Nodes.{node_at}
use Rattle.vega_rules.specs.Edges.{reader}
use Rattle.vega_signals.specs.Extents.{update_of, is_computed}
use Rattle.vega_signals.specs.Needs.{Need, computed_needs}
use Rattle.vega_standing.proofs.Trees.{Each}
use Rattle.vega_standing.proofs.Stands.{EachFrom, Stands, StandsObject, formed, parts_of_members}
use Rattle.vega_standing.proofs.Shapes.{if_taken, form_taken}
use Rattle.vega_standing.proofs.Members.{opened_as, found_as, required, all_of_each}
use Rattle.vega_standing.proofs.Sources.{texts_are, text_stands, the_text}
use Rattle.vega_standing.proofs.Quiet.{each_append}
use Rattle.vega_standing.proofs.Rows.{place_child}
use Rattle.vega_standing.proofs.Among.{In, in_front}
use Rattle.vega_standing.proofs.Seats.{value_at}
use Rattle.vega_standing.proofs.Seated.{Seat, SeatedObject, SeatedMember, seated_items, seated_object, seat_from, own_among}
use Rattle.vega_standing.proofs.Owned.{Ordered, Kept, Reached, gives_node, expression_reached, reader_of_child, reader_signal}

-- ---- the table

signal_taken : (o : Opened) (f : Form) → taken_form vega_schema SIGNAL o ≡ Some f →
    (object_passes (λ members. is_some (layout_in vega_schema SIGNAL members)) o ≡ true) × (form.Object SIGNAL ≡ f)
unfolding vega_schema leaves named_shapes lists objects
signal_taken o f e = (
  if_taken (object_passes (λ members. is_some (layout_in vega_schema SIGNAL members)) o) _ f e,
  form_taken (object_passes (λ members. is_some (layout_in vega_schema SIGNAL members)) o) _ f e,
)

signals_taken : (o : Opened) (f : Form) → taken_form vega_schema SIGNALS o ≡ Some f →
    (list_passes (has_length 0 MAX_LENGTH) o ≡ true) × (form.List 0 MAX_LENGTH SIGNAL ≡ f)
unfolding vega_schema leaves named_shapes lists objects
signals_taken o f e = (if_taken (list_passes (has_length 0 MAX_LENGTH) o) _ f e, form_taken (list_passes (has_length 0 MAX_LENGTH) o) _ f e)

signal_layout : (ms : List Member) → layout_in vega_schema SIGNAL ms ≡ Some signal
unfolding vega_schema group_mark axis legend grid_layout top data_set data_format parse sort extent_signal
    filter formula extent bin time_unit stack fold aggregate join_aggregate window lookup no_transform signal on_event expression_signal
    linear_scale time_scale band_scale point_scale ordinal_scale no_scale domain_of_signal domain_of_field domain_of_fields reference
    sort_by_operation sort_by_cells rect_mark symbol_mark line_mark area_mark rule_mark text_mark mark_from group_from facet cross
    encode no_mark channel_members value words_value size_signal group_encode group_channels size_value
signal_layout ms = refl

signal_rules : (shape_in signal (codes "name") ≡ Some TEXT) × (shape_in signal (codes "update") ≡ Some EXPRESSION)
unfolding signal
signal_rules = (refl, refl)

signal_named : (trail : Trail) (ms : List Member) → StandsObject trail signal ms → (v : Json) × (member_value ms (codes "name") ≡ Some v)
unfolding signal
signal_named trail ms s = required trail signal ms (codes "name") (must (codes "name") TEXT) s refl refl refl

-- ---- options

pub found_value : (o : Option Json) (e : Expr) → option_and_then expression_of (option_and_then (λ tree. text_in (out-Json tree)) o) ≡ Some e →
    (w : Json) × (text : List ℕ) × (o ≡ Some w) × (text_in (out-Json w) ≡ Some text) × (expression_of text ≡ Some e)
found_value None e is = absurd cc
found_value (Some w) e is = by_text (text_in (out-Json w)) refl is
  where
    by_text : (o : Option (List ℕ)) → text_in (out-Json w) ≡ o → option_and_then expression_of o ≡ Some e →
        (v : Json) × (text : List ℕ) × (Some w ≡ Some v) × (text_in (out-Json v) ≡ Some text) × (expression_of text ≡ Some e)
    by_text None same f = absurd cc
    by_text (Some text) same f = (w, text, refl, same, f)

not_on : (b : Bool) (o : Option Expr) (e : Expr) → (if b then None else o) ≡ Some e → o ≡ Some e
not_on true o e f = absurd cc
not_on false o e f = f

-- the object of a trail is the scope of what stands in a list of it
pub scope_is : (here : Around) (round : Trail) → here.object ≡ true → object_at (here ∷ round) ≡ here ∷ round
scope_is here round object = ap (λ b. if b then here ∷ round else object_at round) object

module _ (tree : Json) (ordered : Ordered tree) (here : Around) (round : Trail) (object : here.object ≡ true) (names : List (List ℕ)) where
  abbrev S : List ℕ
  S = place_of (here ∷ round)

  abbrev OneKept : Need → Type 0
  OneKept = Kept tree ordered S names

  -- ---- one signal

  module _ (k : ℕ) (list : Json) (i : ℕ) (t : Json) (s : Seat tree (noted k SIGNALS list ∷ here ∷ round) i SIGNAL t)
      (ms : List Member) (is : out-Json t ≡ level.Object ms)
      (o : SeatedObject tree (noted k SIGNALS list ∷ here ∷ round) i SIGNAL t s SIGNAL ms) (laid : o.laid.layout ≡ signal) where
    abbrev trail : Trail
    trail = noted i SIGNAL t ∷ noted k SIGNALS list ∷ here ∷ round

    in_scope : scope_of trail ≡ S
    in_scope = ap place_of (scope_is here round object)

    stands : StandsObject trail signal ms
    stands = subst (λ l. StandsObject trail l ms) laid o.laid.stands

    seated : EachFrom (SeatedMember tree (noted k SIGNALS list ∷ here ∷ round) i SIGNAL t s signal) 0 ms
    seated = subst (λ l. EachFrom (SeatedMember tree (noted k SIGNALS list ∷ here ∷ round) i SIGNAL t s l) 0 ms) laid o.each

    -- its name is given
    named_by : (m : Option (ℕ × List ℕ)) (name : List ℕ) → part_text (codes "name") t ≡ m → option_map (λ (m : ℕ × List ℕ). m.1) m ≡ Some name →
        (n : ℕ) × In (given given_as.Signal (scope_of trail) (place_of trail) (child trail n) name) (signal_names trail t)
    named_by None name e same = absurd cc
    named_by (Some m) name e same =
        let text : m.1 ≡ name = cc in (
          m.0,
          subst (λ ps. In (given given_as.Signal (scope_of trail) (place_of trail) (child trail m.0) name) ps)
              (sym (ap (λ o. option_map_or (λ (m : ℕ × List ℕ). signal_name trail m ++ store_name trail t m) o []) e))
              (inl (ap (given given_as.Signal (scope_of trail) (place_of trail) (child trail m.0)) (sym text))),
        )

    the_name : (n : ℕ) × In (given given_as.Signal S (place_of trail) (child trail n) (needed_text ms (codes "name"))) (parts_of tree)
    the_name =
        let v : (v : Json) × (member_value ms (codes "name") ≡ Some v) = signal_named trail ms stands in
        let there : (j : ℕ) × Stands trail j TEXT v.0 = found_as trail signal ms (codes "name") v.0 TEXT stands signal_rules.0 v.1 in
        let x : (x : List ℕ) × (text_in (out-Json v.0) ≡ Some x) = the_text (text_in (out-Json v.0)) (text_stands trail there.0 v.0 there.1) in
        let text : text_at ms (codes "name") ≡ Some x.0 = ap (λ o. option_and_then (λ v. text_in (out-Json v)) o) v.1 ∙ x.1 in
        let name : needed_text ms (codes "name") ≡ x.0 = ap (λ o. unwrap_or o []) text in
        let n = named_by (part_text (codes "name") t) (needed_text ms (codes "name")) refl (texts_are t ms is (codes "name") ∙ text ∙ ap Some (sym name)) in
        let p : List ℕ → Part = λ sc. given given_as.Signal sc (place_of trail) (child trail n.0) (needed_text ms (codes "name")) in (
          n.0,
          subst (λ sc. In (p sc) (parts_of tree)) in_scope
              (own_among tree (noted k SIGNALS list ∷ here ∷ round) i SIGNAL t (parts_of_members trail o.laid.layout 0 ms) s o.laid.parts (p (scope_of trail))
              (in_front (p (scope_of trail)) (signal_itself trail t ++ selectors trail t) (update_parts trail t)
              (in_front (p (scope_of trail)) (signal_itself trail t) (selectors trail t)
              (in_front (p (scope_of trail)) (signal_names trail t ++ on_in_group trail t) (mark_names trail t)
              (in_front (p (scope_of trail)) (signal_names trail t) (on_in_group trail t) n.1))))),
        )

    one_computed : (e : Expr) → update_of (signal_of ms) ≡ Some e →
        In (needed_text ms (codes "name")) names → OneKept (needed_text ms (codes "name"), parameters_in e)
    one_computed e updated own =
        let v = gives_node tree ordered S names (place_of trail) (child trail the_name.0) (needed_text ms (codes "name")) the_name.1 own in
        let (w, text, valued, is_text, reads) =
        found_value (member_value ms (codes "update")) e (not_on (is_some (signal_of ms).on) (expression_at ms (codes "update")) e updated) in
        let seat = seat_from tree (noted k SIGNALS list ∷ here ∷ round) i SIGNAL t s signal 0 ms (codes "update") EXPRESSION w seated signal_rules.1 valued in
        let at : place_of (noted seat.0 EXPRESSION w ∷ trail) ≡ place_of trail ++ seat.0 ∷ [] =
        place_child (noted seat.0 EXPRESSION w) (noted i SIGNAL t) (noted k SIGNALS list ∷ here ∷ round) in
        let read : reader (node_at (parts_of tree)) (place_of (noted seat.0 EXPRESSION w ∷ trail)) ≡ Some v.0 =
        ap (reader (node_at (parts_of tree))) at
        ∙ reader_of_child tree (place_of trail) seat.0 EXPRESSION w (ap (value_at TOP tree) (sym at) ∙ seat.1.at) refl refl
        ∙ reader_signal tree (place_of trail) v.0 t s.at v.2 in (
          v.0,
          v.1,
          all_of_each (Reached tree ordered S names v.0) (parameters_in e)
              (expression_reached tree ordered S names trail seat.0 w text e thing.Signal (place_of trail) v.0 seat.1 is_text reads in_scope read v.2),
        )

    one_signal : (is_computed (signal_of ms) ≡ true → In (needed_text ms (codes "name")) names) → Each OneKept (computed_needs (signal_of ms))
    one_signal own = by_update (update_of (signal_of ms)) refl
      where
        by_update : (u : Option Expr) → update_of (signal_of ms) ≡ u →
            Each OneKept (if is_some u then (needed_text ms (codes "name"), option_map_or parameters_in u []) ∷ [] else [])
        by_update None e = tt
        by_update (Some x) e = (one_computed x e (own (ap is_some e)), tt)

  signal_kept : (k : ℕ) (list : Json) (i : ℕ) (t : Json) → Seat tree (noted k SIGNALS list ∷ here ∷ round) i SIGNAL t →
      (is_computed (signal_of (members_of t)) ≡ true → In (signal_of (members_of t)).name names) → Each OneKept (computed_needs (signal_of (members_of t)))
  signal_kept k list i t s own =
      let f = formed SIGNAL t s.stands.fine in
      let ms : (ms : List Member) × (out-Json t ≡ level.Object ms) = opened_as SIGNAL (out-Json t) (signal_taken (out-Json t) f.0 f.1).0 in
      let o = seated_object tree (noted k SIGNALS list ∷ here ∷ round) i SIGNAL t s SIGNAL ms.0 ms.1 (λ f e. signal_taken (level.Object ms.0) f e) in
      let laid : o.laid.layout ≡ signal = let a = o.laid.applies in let b = signal_layout ms.0 in cc in
      let same : members_of t ≡ ms.0 = ap (λ o. unwrap_or (members_in o) []) ms.1 in
      subst (λ m. Each OneKept (computed_needs (signal_of m))) (sym same)
      (one_signal k list i t s ms.0 ms.1 o laid (subst (λ m. is_computed (signal_of m) ≡ true → In (signal_of m).name names) same own))

  items_kept : (k : ℕ) (list : Json) (n : ℕ) (items : List Json) → EachFrom (λ i t. Seat tree (noted k SIGNALS list ∷ here ∷ round) i SIGNAL t) n items →
      ((s : Signal) → In s (map (λ t. signal_of (members_of t)) items) → is_computed s ≡ true → In s.name names) →
      Each OneKept (flat_map computed_needs (map (λ t. signal_of (members_of t)) items))
  items_kept k list n [] each own = tt
  items_kept k list n (t ∷ items) each own =
      each_append OneKept (computed_needs (signal_of (members_of t))) (flat_map computed_needs (map (λ t. signal_of (members_of t)) items))
      (signal_kept k list n t each.0 (own (signal_of (members_of t)) (inl refl))) (items_kept k list (n + 1) items each.1 (λ s i. own s (inr i)))

  -- the needs of the signals of a list are those of the graph
  pub signals_kept : (k : ℕ) (list : Json) → Seat tree (here ∷ round) k SIGNALS list →
      ((items : List Json) → out-Json list ≡ level.List items → (s : Signal) →
      In s (map (λ t. signal_of (members_of t)) items) → is_computed s ≡ true → In s.name names) →
      (items : List Json) × (out-Json list ≡ level.List items) × Each OneKept (flat_map computed_needs (map (λ t. signal_of (members_of t)) items))
  signals_kept k list s own =
      let l = seated_items tree (here ∷ round) k SIGNALS list s SIGNAL signals_taken in
      (l.items, l.is_list, items_kept k list 0 l.items l.each (own l.items l.is_list))
