-- What the transforms of a data set read.
use Rattle.std.proofs.Common.{◌≡◌, ℕ, List, [], ◌∷◌, ◌++◌, cond, refl, sym, ap, subst, ◌∙◌, ◌⊎◌, inl, inr}
use Rattle.std.specs.Prelude.{Option, Some, None, Bool, true, false, ◌&&◌, ◌||◌, ℤ, codes, unwrap_or, is_some, find, bytes_eq, if◌then◌else◌}
use Rattle.std.specs.List.{list_any}
use Rattle.std.specs.Option.{option_map, option_map_or, option_and_then}
use Rattle.json_exact.specs.declared.json.Json.{Json, out-Json}
use Rattle.json_exact.specs.declared.json.Json.TheOpen as level
use Rattle.json_exact.specs.declared.json.Member.{Member}
use Rattle.json_exact.specs.Inside.{text_in, number_in, members_in}
use Rattle.json_exact.specs.Path.{member_value}
use Rattle.spec_schema.specs.declared.form.Form.{Form}
use Rattle.spec_schema.specs.declared.form.Form.TheVariants as form
use Rattle.spec_schema.specs.Values.{Opened, object_passes, list_passes, is_pair, is_number}
use Rattle.spec_schema.specs.Layouts.{shape_in, layout_in, says, has_name}
use Rattle.spec_schema.specs.Forms.{taken_form}
use Rattle.spec_schema.specs.Tables.{must}
use Rattle.spec_schema.specs.declared.form.Shape.{Shape}
use Rattle.expr_syntax.specs.declared.expr.Expr.{Expr, fold-roll-Expr}
use Rattle.expr_syntax.specs.declared.expr.Expr.TheOpen as form_of
use Rattle.expr_syntax.specs.declared.expr.Expr.TheVariants as expr
use Rattle.vega_spec.specs.declared.transforms.BinExtent.TheVariants as bounds
use Rattle.spec_schema.specs.declared.layout.Layout.{Layout}
use Rattle.expr_reading.specs.Mentions.{parameters_in}
use Rattle.vega_schema.specs.declared.codes.TheConstants.{TRANSFORM, EXTENT, EXTENT_SIGNAL, NUMBER, NOTHING, EXPRESSION, TEXT, TOP}
use Rattle.vega_schema.specs.Schema.{vega_schema}
use Rattle.vega_schema.specs.Shapes.{leaves, named as named_shapes, lists, objects}
use Rattle.vega_schema.specs.Guides.{group_mark, axis, legend, grid_layout, top}
use Rattle.vega_schema.specs.Sources.{data_set, data_format, parse, sort, extent_signal}
use Rattle.vega_schema.specs.Transforms.{filter, formula, extent, bin, time_unit, stack, fold}
use Rattle.vega_schema.specs.Groupings.{aggregate, join_aggregate, window, lookup, no_transform}
use Rattle.vega_schema.specs.Signals.{signal, on_event, expression_signal}
use Rattle.vega_schema.specs.Scales.{linear_scale, time_scale, band_scale, point_scale, ordinal_scale, no_scale}
use Rattle.vega_schema.specs.Domains.{domain_of_signal, domain_of_field, domain_of_fields, reference, sort_by_operation, sort_by_cells}
use Rattle.vega_schema.specs.PlainMarks.{rect_mark, symbol_mark, line_mark, area_mark, rule_mark, text_mark}
use Rattle.vega_schema.specs.Marks.{mark_from, group_from, facet, cross, encode, no_mark}
use Rattle.vega_schema.specs.Channels.{channel_members, value, words_value}
use Rattle.vega_schema.specs.Sizes.{size_signal, group_encode, group_channels, size_value}
use Rattle.vega_parts.specs.declared.part.Part.{Part}
use Rattle.vega_parts.specs.declared.part.Given.TheVariants as given_as
use Rattle.vega_parts.specs.Trails.{Trail, noted, place_of, scope_of, child}
use Rattle.vega_parts.specs.Members.{text_at as part_text, says_text}
use Rattle.vega_parts.specs.Names.{given, used, used_member}
use Rattle.vega_parts.specs.Transforms.{by_type, step, extent_name, lookup_parts, fold_fields, window_lists, aggregate_lists, count_of_window, count_of_ops}
use Rattle.vega_parts.specs.Lengths.{other_length}
use Rattle.vega_parts.specs.Parts.{parts_at, parts_of}
use Rattle.vega_parts.specs.declared.part.Used.TheVariants as for_
use Rattle.vega_building.specs.Parts.{text_at, members_of, expression_at}
use Rattle.vega_rules.specs.declared.nodes.Thing.TheVariants as thing
use Rattle.vega_rules.specs.Nodes.{node_at}
use Rattle.vega_rules.specs.Edges.{reader}
use Rattle.vega_signals.specs.Extents.{extent_asked}
use Rattle.vega_signals.specs.Needs.{Reads, extent_reads, transform_reads}
use Rattle.vega_spec.specs.declared.transforms.Transform.{Transform}
use Rattle.vega_spec.specs.declared.transforms.Extent.{Extent}
use Rattle.vega_building.specs.Transforms.{transform_of, transform_by, bin_extent_in, numbers_in}
use Rattle.vega_standing.proofs.Trees.{Each}
use Rattle.vega_standing.proofs.Stands.{EachFrom, Stands, StandsObject, formed, parts_of_members}
use Rattle.vega_standing.proofs.Members.{opened_as, found_as, required, says_is}
use Rattle.vega_standing.proofs.Sources.{texts_are, text_stands, the_text}
use Rattle.vega_standing.proofs.Rows.{place_child}
use Rattle.vega_standing.proofs.Among.{In, in_front, in_back}
use Rattle.vega_standing.proofs.Seats.{value_at}
use Rattle.vega_standing.proofs.Keys.{suits}
use Rattle.vega_standing.proofs.Seated.{Seat, SeatedObject, SeatedMember, seated_object, seat_from, text_seat, own_among}
use Rattle.vega_standing.proofs.OwnSignals.{found_value}
use Rattle.vega_standing.proofs.Owned.{Ordered, Reached, use_reached, expression_reached, reader_of_child, reader_step}
use Rattle.vega_standing.proofs.Scales.{nothing_stands}
use Rattle.vega_standing.proofs.Transforms.{one_layout, last_layout, says_type, lookup_is, transform_taken}

-- ---- the table

two_taken : (a b : Bool) (s t : Shape) (f : Form) → option_map (λ (s : Shape). s.form) (cond a (Some s) (cond b (Some t) None)) ≡ Some f →
    ((a ≡ true) × (s.form ≡ f)) ⊎ ((b ≡ true) × (t.form ≡ f))
two_taken true b s t f e = inl (refl, cc)
two_taken false true s t f e = inr (refl, cc)
two_taken false false s t f e = absurd cc

extent_taken : (o : Opened) (f : Form) → taken_form vega_schema EXTENT o ≡ Some f →
    ((list_passes is_pair o ≡ true) × (form.Pair NUMBER ≡ f))
    ⊎ ((object_passes (λ members. is_some (layout_in vega_schema EXTENT_SIGNAL members)) o ≡ true) × (form.Object EXTENT_SIGNAL ≡ f))
unfolding vega_schema leaves named_shapes lists objects
extent_taken o f e = two_taken (list_passes is_pair o) (object_passes (λ members. is_some (layout_in vega_schema EXTENT_SIGNAL members)) o) _ _ f e

one_of_extents : (ms : List Member) (l : Layout) → layout_in vega_schema EXTENT_SIGNAL ms ≡ Some l → (has_name ms (codes "signal") ≡ true) × (l ≡ extent_signal)
unfolding vega_schema group_mark axis legend grid_layout top data_set data_format parse sort extent_signal
    filter formula extent bin time_unit stack fold aggregate join_aggregate window lookup no_transform signal on_event expression_signal
    linear_scale time_scale band_scale point_scale ordinal_scale no_scale domain_of_signal domain_of_field domain_of_fields reference
    sort_by_operation sort_by_cells rect_mark symbol_mark line_mark area_mark rule_mark text_mark mark_from group_from facet cross
    encode no_mark channel_members value words_value size_signal group_encode group_channels size_value
one_of_extents ms l e = one_layout (λ l. (has_name ms (codes "signal") ≡ true) × (l ≡ extent_signal))
    (has_name ms (codes "signal")) extent_signal l None e (λ t. (t, refl)) (λ never. absurd cc)

extent_rules : shape_in extent_signal (codes "signal") ≡ Some TEXT
unfolding extent_signal
extent_rules = refl

-- ---- options

named_there : (ms : List Member) (name : List ℕ) → has_name ms name ≡ true → (v : Json) × (member_value ms name ≡ Some v)
named_there [] name e = absurd cc
named_there (m ∷ ms) name e = by_name (bytes_eq m.name name) e (named_there ms name)
  where
    by_name : (b : Bool) → (b || has_name ms name) ≡ true → (has_name ms name ≡ true → (v : Json) × (member_value ms name ≡ Some v)) →
        (v : Json) × (option_map (λ (m : Member). m.value) (cond b (Some m) (find (λ (m : Member). bytes_eq m.name name) ms)) ≡ Some v)
    by_name true f rest = (m.value, refl)
    by_name false f rest = rest f

a_number : (o : Opened) → is_number o ≡ true → (n : ℤ) × (number_in o ≡ Some n)
a_number level.Null e = absurd cc
a_number (level.Flag b) e = absurd cc
a_number (level.Number n) e = (n, refl)
a_number level.Huge e = absurd cc
a_number (level.Text t) e = absurd cc
a_number (level.List items) e = absurd cc
a_number (level.Object ms) e = absurd cc

both : (a b : Bool) → (a && b) ≡ true → (a ≡ true) × (b ≡ true)
both true b e = (refl, e)
both false b e = absurd cc

-- two numbers read no signal
pair_reads : (items : List Json) → is_pair items ≡ true → extent_reads (unwrap_or (numbers_in items) (bounds.Signal [])) ≡ []
pair_reads [] e = absurd cc
pair_reads (a ∷ []) e = absurd cc
pair_reads (a ∷ b ∷ []) e =
    let tests = both (is_number (out-Json a)) (is_number (out-Json b)) e in
    let x = a_number (out-Json a) tests.0 in
    let y = a_number (out-Json b) tests.1 in
    ap (λ o. extent_reads (unwrap_or (option_and_then (λ x. option_map (λ y. bounds.Pair x y) (number_in (out-Json b))) o) (bounds.Signal []))) x.1
    ∙ ap (λ o. extent_reads (unwrap_or (option_map (λ y. bounds.Pair x.0 y) o) (bounds.Signal []))) y.1
pair_reads (a ∷ b ∷ c ∷ items) e = absurd cc

of_pair : (o : Opened) → list_passes is_pair o ≡ true → extent_reads (unwrap_or (bin_extent_in o) (bounds.Signal [])) ≡ []
of_pair level.Null e = absurd cc
of_pair (level.Flag b) e = absurd cc
of_pair (level.Number n) e = absurd cc
of_pair level.Huge e = absurd cc
of_pair (level.Text t) e = absurd cc
of_pair (level.List items) e = pair_reads items e
of_pair (level.Object ms) e = absurd cc

-- a text under a name with its number
pub texts_known : (o : Option (ℕ × List ℕ)) (x : List ℕ) → option_map (λ (m : ℕ × List ℕ). m.1) o ≡ Some x → (n : ℕ) × (o ≡ Some (n, x))
texts_known None x e = absurd cc
texts_known (Some m) x e = (m.0, ap (λ o. option_map (λ t. (m.0, t)) o) e)

module _ (tree : Json) (ordered : Ordered tree) (S : List ℕ) (names : List (List ℕ))
    (round : Trail) (j : ℕ) (t : Json) (s : Seat tree round j TRANSFORM t) where
  abbrev trail : Trail
  trail = noted j TRANSFORM t ∷ round

  abbrev all : List Part
  all = parts_of tree

  abbrev at : List ℕ
  at = place_of trail

  module _ (in_scope : scope_of trail ≡ S) (deep : (i shape : ℕ) (v : Json) → scope_of (noted i shape v ∷ trail) ≡ S)
      (p : ℕ) (is_step : node_at all thing.Step at ≡ Some p) (reads : Reads)
      (from_read : (name : List ℕ) (c : ℕ) → In (used for_.From S (at ++ c ∷ []) name) all →
      reader (node_at all) (at ++ c ∷ []) ≡ Some p → Each (Reached tree ordered S names p) (reads name)) where
    abbrev P : List ℕ → Type 0
    P = Reached tree ordered S names p

    -- what a transform reads is needed, and the signal of an extent is given
    pub record Fine (x : Transform) : Type 0 where
      pub reached : Each P (transform_reads reads x)
      pub asked : (e : Extent) → extent_asked x ≡ Some e → (n : ℕ) × In (given given_as.Signal S at (child trail n) e.signal) all

    module _ (ms : List Member) (is : out-Json t ≡ level.Object ms) (o : SeatedObject tree round j TRANSFORM t s TRANSFORM ms) where
      abbrev Told : Layout → Type 0
      Told l = o.laid.layout ≡ l → Fine (transform_of ms)

      stands : (l : Layout) → o.laid.layout ≡ l → StandsObject trail l ms
      stands l laid = subst (λ l. StandsObject trail l ms) laid o.laid.stands

      seated : (l : Layout) → o.laid.layout ≡ l → EachFrom (SeatedMember tree round j TRANSFORM t s l) 0 ms
      seated l laid = subst (λ l. EachFrom (SeatedMember tree round j TRANSFORM t s l) 0 ms) laid o.each

      typed : (l : Layout) (word : List ℕ) → list_any (says (codes "type") word) ms ≡ true → o.laid.layout ≡ l → text_at ms (codes "type") ≡ Some word
      typed l word e laid = says_is ms (codes "type") word (stands l laid).own e

      as_typed : (word : List ℕ) → text_at ms (codes "type") ≡ Some word → Fine (transform_by word ms) → Fine (transform_of ms)
      as_typed word e f = subst (λ x. Fine (transform_by (unwrap_or x []) ms)) (sym e) f

      -- one that reads nothing
      silent : (l : Layout) (word : List ℕ) → Fine (transform_by word ms) → list_any (says (codes "type") word) ms ≡ true → Told l
      silent l word f e laid = as_typed word (typed l word e laid) f

      -- those of an expression
      read_at : (i shape : ℕ) (w : Json) → Seat tree trail i shape w → suits thing.Step shape ≡ false →
          suits thing.Signal shape ≡ false → reader (node_at all) (at ++ i ∷ []) ≡ Some p
      read_at i shape w seat no_step no_signal =
          reader_of_child tree at i shape w (ap (value_at TOP tree) (sym (place_child (noted i shape w) (noted j TRANSFORM t) round)) ∙ seat.at)
          no_step no_signal ∙ reader_step tree at p is_step

      expression : (l : Layout) → o.laid.layout ≡ l → shape_in l (codes "expr") ≡ Some EXPRESSION → (x : Option Expr) →
          expression_at ms (codes "expr") ≡ x → Each P (parameters_in (unwrap_or x expr.Null))
      expression l laid ruled None e = subst (Each P) (sym (ap parameters_in (sym expr.rolls-Null) ∙ fold-roll-Expr _ _ form_of.Null)) tt
      expression l laid ruled (Some x) e =
          let (w, text, valued, is_text, reads_as) = found_value (member_value ms (codes "expr")) x e in
          let seat = seat_from tree round j TRANSFORM t s l 0 ms (codes "expr") EXPRESSION w (seated l laid) ruled valued in
          let place : place_of (noted seat.0 EXPRESSION w ∷ trail) ≡ at ++ seat.0 ∷ [] = place_child (noted seat.0 EXPRESSION w) (noted j TRANSFORM t) round in
          expression_reached tree ordered S names trail seat.0 w text x thing.Step at p seat.1 is_text reads_as (deep seat.0 EXPRESSION w)
          (ap (reader (node_at all)) place ∙ read_at seat.0 EXPRESSION w seat.1 refl refl) is_step

      filters : list_any (says (codes "type") (codes "filter")) ms ≡ true → Told filter
      unfolding filter
      filters e laid = as_typed (codes "filter") (typed filter (codes "filter") e laid)
          (record { reached = expression filter laid refl (expression_at ms (codes "expr")) refl; asked = λ x f. absurd cc })

      formulas : list_any (says (codes "type") (codes "formula")) ms ≡ true → Told formula
      unfolding formula
      formulas e laid = as_typed (codes "formula") (typed formula (codes "formula") e laid)
          (record { reached = expression formula laid refl (expression_at ms (codes "expr")) refl; asked = λ x f. absurd cc })

      -- ---- texts

      text_there : (l : Layout) → (laid : o.laid.layout ≡ l) → (name : List ℕ) → shape_in l name ≡ Some TEXT → (v : Json) × (member_value ms name ≡ Some v) →
          (x : List ℕ) × (n : ℕ) × (text_at ms name ≡ Some x) × (part_text name t ≡ Some (n, x))
      text_there l laid name ruled v =
          let there : (i : ℕ) × Stands trail i TEXT v.0 = found_as trail l ms name v.0 TEXT (stands l laid) ruled v.1 in
          let x : (x : List ℕ) × (text_in (out-Json v.0) ≡ Some x) = the_text (text_in (out-Json v.0)) (text_stands trail there.0 v.0 there.1) in
          let text : text_at ms name ≡ Some x.0 = ap (λ o. option_and_then (λ v. text_in (out-Json v)) o) v.1 ∙ x.1 in
          let m = texts_known (part_text name t) x.0 (texts_are t ms is name ∙ text) in
          (x.0, m.0, text, m.1)

      own : (q : Part) → In q (step trail ++ by_type trail t) → In q all
      own q i = own_among tree round j TRANSFORM t (parts_of_members trail o.laid.layout 0 ms) s o.laid.parts q i

      lookups : list_any (says (codes "type") (codes "lookup")) ms ≡ true → Told lookup
      unfolding lookup
      lookups e laid =
          let text = typed lookup (codes "lookup") e laid in
          let (x, n, from, is_text) = text_there lookup laid (codes "from") refl
          (required trail lookup ms (codes "from") (must (codes "from") TEXT) (stands lookup laid) refl refl refl) in
          let (w, seat) = text_seat tree round j TRANSFORM t s lookup ms (codes "from") TEXT (n, x) (seated lookup laid) refl is is_text in
          let parts : by_type trail t ≡ lookup_parts trail t = lookup_is round j t s.stands ms is text in
          let q : Part = used for_.From (scope_of trail) (child trail n) x in
          let here : In q (used_member for_.From (codes "from") trail t) =
          subst (λ o. In q (option_map_or (λ (m : ℕ × List ℕ). used for_.From (scope_of trail) (child trail m.0) m.1 ∷ []) o [])) (sym is_text) (inl refl) in
          let there : In q all =
          own q (in_back q (step trail) (by_type trail t) (subst (In q) (sym parts)
          (in_front q (used_member for_.From (codes "from") trail t) (other_length (codes "as") (codes "values") trail t) here))) in
          as_typed (codes "lookup") text
          (record {
            reached = subst (λ name. Each P (reads name)) (ap (λ o. unwrap_or o []) (sym from))
                (from_read x n (subst (λ sc. In (used for_.From sc (child trail n) x) all) in_scope there) (read_at n TEXT w seat refl refl));
            asked = λ x f. absurd cc;
          })

      extent_is : text_at ms (codes "type") ≡ Some (codes "extent") → by_type trail t ≡ extent_name trail t
      extent_is e = ap (λ b. if b then extent_name trail t
          else (if says_text (codes "type") (codes "lookup") t then lookup_parts trail t
          else (if says_text (codes "type") (codes "fold") t then fold_fields trail t
          else (if says_text (codes "type") (codes "window") t then window_lists (count_of_window t) trail t
          else (if says_text (codes "type") (codes "aggregate") t || says_text (codes "type") (codes "joinaggregate") t
          then aggregate_lists (count_of_ops t) trail t else []))))) (says_type round j t s.stands ms is (codes "extent") (codes "extent") e)

      extents : list_any (says (codes "type") (codes "extent")) ms ≡ true → Told extent
      unfolding extent
      extents e laid =
          let text = typed extent (codes "extent") e laid in
          let (x, n, signal_is, is_text) = text_there extent laid (codes "signal") refl
          (required trail extent ms (codes "signal") (must (codes "signal") TEXT) (stands extent laid) refl refl refl) in
          let parts : by_type trail t ≡ extent_name trail t = extent_is text in
          let q : Part = given given_as.Signal (scope_of trail) at (child trail n) x in
          let here : In q (extent_name trail t) =
          subst (λ o. In q (option_map_or (λ (m : ℕ × List ℕ). given given_as.Signal (scope_of trail) (place_of trail) (child trail m.0) m.1 ∷ [])
          o [])) (sym is_text) (inl refl) in
          let there : In q all = own q (in_back q (step trail) (by_type trail t) (subst (In q) (sym parts) here)) in
          as_typed (codes "extent") text
          (record {
            reached = tt;
            asked = λ a f. (
              n,
              subst (λ name. In (given given_as.Signal S at (child trail n) name) all)
                  (sym (ap (λ o. unwrap_or o []) signal_is) ∙ ap (λ o. option_map_or (λ (e : Extent). e.signal) o []) f)
                  (subst (λ sc. In (given given_as.Signal sc at (child trail n) x) all) in_scope there),
            );
          })

      -- ---- bins

      by_extent : (i : ℕ) (v : Json) → Seat tree trail i EXTENT v → Each P (extent_reads (unwrap_or (bin_extent_in (out-Json v)) (bounds.Signal [])))
      by_extent i v seat = by_form (extent_taken (out-Json v) f.0 f.1)
        where
          f : (f : Form) × (taken_form vega_schema EXTENT (out-Json v) ≡ Some f)
          f = formed EXTENT v seat.stands.fine

          taken_object : (qs : List Member) (g : Form) → taken_form vega_schema EXTENT (level.Object qs) ≡ Some g →
              (is_some (layout_in vega_schema EXTENT_SIGNAL qs) ≡ true) × (form.Object EXTENT_SIGNAL ≡ g)
          taken_object qs g e = pick (extent_taken (level.Object qs) g e)
            where
              pick : ((false ≡ true) × (form.Pair NUMBER ≡ g)) ⊎ ((is_some (layout_in vega_schema EXTENT_SIGNAL qs) ≡ true) × (form.Object EXTENT_SIGNAL ≡ g)) →
                  (is_some (layout_in vega_schema EXTENT_SIGNAL qs) ≡ true) × (form.Object EXTENT_SIGNAL ≡ g)
              pick (inl a) = absurd (let b = a.0 in cc)
              pick (inr a) = a

          by_signal : (qs : List Member) → out-Json v ≡ level.Object qs → Each P (extent_reads (unwrap_or (bin_extent_in (out-Json v)) (bounds.Signal [])))
          by_signal qs opened =
              let so = seated_object tree trail i EXTENT v seat EXTENT_SIGNAL qs opened (taken_object qs) in
              let one = one_of_extents qs so.laid.layout so.laid.applies in
              let x_trail : Trail = noted i EXTENT v ∷ trail in
              let members = subst (λ l. EachFrom (SeatedMember tree trail i EXTENT v seat l) 0 qs) one.1 so.each in
              let o2 : StandsObject x_trail extent_signal qs = subst (λ l. StandsObject x_trail l qs) one.1 so.laid.stands in
              let u = named_there qs (codes "signal") one.0 in
              let there : (k : ℕ) × Stands x_trail k TEXT u.0 = found_as x_trail extent_signal qs (codes "signal") u.0 TEXT o2 extent_rules u.1 in
              let x : (x : List ℕ) × (text_in (out-Json u.0) ≡ Some x) = the_text (text_in (out-Json u.0)) (text_stands x_trail there.0 u.0 there.1) in
              let text : text_at qs (codes "signal") ≡ Some x.0 = ap (λ o. option_and_then (λ v. text_in (out-Json v)) o) u.1 ∙ x.1 in
              let (n, is_text) = texts_known (part_text (codes "signal") v) x.0 (texts_are v qs opened (codes "signal") ∙ text) in
              let (w, inner) = text_seat tree trail i EXTENT v seat extent_signal qs (codes "signal") TEXT (n, x.0) members extent_rules opened is_text in
              let q : Part = used for_.Signal (scope_of x_trail) (child x_trail n) x.0 in
              let here : In q (parts_at x_trail v) =
              subst (λ o. In q (option_map_or (λ (m : ℕ × List ℕ). used for_.Signal (scope_of x_trail) (child x_trail m.0) m.1 ∷ []) o []))
              (sym is_text) (inl refl) in
              let among : In q all = own_among tree trail i EXTENT v (parts_of_members x_trail so.laid.layout 0 qs) seat so.laid.parts q here in
              let scoped : In (used for_.Signal S (child x_trail n) x.0) all =
              subst (λ sc. In (used for_.Signal sc (child x_trail n) x.0) all) (deep i EXTENT v) among in
              let step_one : reader (node_at all) (child x_trail n) ≡ reader (node_at all) (place_of x_trail) =
              reader_of_child tree (place_of x_trail) n TEXT w
              (ap (value_at TOP tree) (sym (place_child (noted n TEXT w) (noted i EXTENT v) trail)) ∙ inner.at) refl refl in
              let read : reader (node_at all) (child x_trail n) ≡ Some p =
              step_one ∙ ap (reader (node_at all)) (place_child (noted i EXTENT v) (noted j TRANSFORM t) round) ∙ read_at i EXTENT v seat refl refl in
              let reached : P x.0 = use_reached tree ordered S names (child x_trail n) x.0 thing.Step at p scoped read is_step in
              subst (λ b. Each P (extent_reads (unwrap_or (bin_extent_in b) (bounds.Signal [])))) (sym opened)
              (subst (λ o. Each P (extent_reads (unwrap_or (option_map bounds.Signal o) (bounds.Signal [])))) (sym text) (reached, tt))

          by_form : ((list_passes is_pair (out-Json v) ≡ true) × (form.Pair NUMBER ≡ f.0))
              ⊎ ((object_passes (λ members. is_some (layout_in vega_schema EXTENT_SIGNAL members)) (out-Json v) ≡ true)
              × (form.Object EXTENT_SIGNAL ≡ f.0)) →
              Each P (extent_reads (unwrap_or (bin_extent_in (out-Json v)) (bounds.Signal [])))
          by_form (inl a) = subst (Each P) (sym (of_pair (out-Json v) a.0)) tt
          by_form (inr a) = let qs = opened_as EXTENT_SIGNAL (out-Json v) a.0 in by_signal qs.0 qs.1

      bins : list_any (says (codes "type") (codes "bin")) ms ≡ true → Told bin
      unfolding bin
      bins e laid =
          let text = typed bin (codes "bin") e laid in
          let v : (v : Json) × (member_value ms (codes "extent") ≡ Some v) =
          required trail bin ms (codes "extent") (must (codes "extent") EXTENT) (stands bin laid) refl refl refl in
          let seat = seat_from tree round j TRANSFORM t s bin 0 ms (codes "extent") EXTENT v.0 (seated bin laid) refl v.1 in
          as_typed (codes "bin") text
          (record {
            reached = subst (λ o. Each P (extent_reads (unwrap_or (option_and_then (λ tree. bin_extent_in (out-Json tree)) o) (bounds.Signal []))))
                (sym v.1) (by_extent seat.0 v.0 seat.1);
            asked = λ x f. absurd cc;
          })

      unknown : Told no_transform
      unfolding no_transform
      unknown laid =
          let v : (v : Json) × (member_value ms (codes "type") ≡ Some v) =
          required trail no_transform ms (codes "type") (must (codes "type") NOTHING) (stands no_transform laid) refl refl refl in
          let there : (i : ℕ) × Stands trail i NOTHING v.0 = found_as trail no_transform ms (codes "type") v.0 NOTHING (stands no_transform laid) refl v.1 in
          absurd (nothing_stands trail there.0 v.0 there.1)

      by_transform : (l : Layout) → layout_in vega_schema TRANSFORM ms ≡ Some l → Told l
      unfolding vega_schema group_mark axis legend grid_layout top data_set data_format parse sort extent_signal
          filter formula extent bin time_unit stack fold aggregate join_aggregate window lookup no_transform signal on_event expression_signal
          linear_scale time_scale band_scale point_scale ordinal_scale no_scale domain_of_signal domain_of_field domain_of_fields reference
          sort_by_operation sort_by_cells rect_mark symbol_mark line_mark area_mark rule_mark text_mark mark_from group_from facet cross
          encode no_mark channel_members value words_value size_signal group_encode group_channels size_value
      by_transform l e =
          let a : List ℕ → Bool = λ word. list_any (says (codes "type") word) ms in
          one_layout Told (a (codes "filter")) filter l _ e filters (λ e.
          one_layout Told (a (codes "formula")) formula l _ e formulas (λ e.
          one_layout Told (a (codes "extent")) extent l _ e extents (λ e.
          one_layout Told (a (codes "bin")) bin l _ e bins (λ e.
          one_layout Told (a (codes "timeunit")) time_unit l _ e (silent time_unit (codes "timeunit") (record { reached = tt; asked = λ x f. absurd cc })) (λ e.
          one_layout Told (a (codes "stack")) stack l _ e (silent stack (codes "stack") (record { reached = tt; asked = λ x f. absurd cc })) (λ e.
          one_layout Told (a (codes "fold")) fold l _ e (silent fold (codes "fold") (record { reached = tt; asked = λ x f. absurd cc })) (λ e.
          one_layout Told (a (codes "aggregate")) aggregate l _ e
          (silent aggregate (codes "aggregate") (record { reached = tt; asked = λ x f. absurd cc })) (λ e.
          one_layout Told (a (codes "joinaggregate")) join_aggregate l _ e
          (silent join_aggregate (codes "joinaggregate") (record { reached = tt; asked = λ x f. absurd cc })) (λ e.
          one_layout Told (a (codes "window")) window l _ e (silent window (codes "window") (record { reached = tt; asked = λ x f. absurd cc })) (λ e.
          one_layout Told (a (codes "lookup")) lookup l _ e lookups (λ e.
          last_layout Told no_transform l e unknown)))))))))))

    -- each transform is fine
    pub step_fine : Fine (transform_of (members_of t))
    step_fine =
        let f = formed TRANSFORM t s.stands.fine in
        let ms : (ms : List Member) × (out-Json t ≡ level.Object ms) = opened_as TRANSFORM (out-Json t) (transform_taken (out-Json t) f.0 f.1).0 in
        let o = seated_object tree round j TRANSFORM t s TRANSFORM ms.0 ms.1 (λ f e. transform_taken (level.Object ms.0) f e) in
        let same : members_of t ≡ ms.0 = ap (λ o. unwrap_or (members_in o) []) ms.1 in
        subst (λ m. Fine (transform_of m)) (sym same) (by_transform ms.0 ms.1 o o.laid.layout o.laid.applies refl)
