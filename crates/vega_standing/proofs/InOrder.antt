-- The signals of all objects of a specification stand in orders.
use Rattle.std.proofs.Common.{◌≡◌, ℕ, suc, ◌+◌, List, [], ◌∷◌, map, refl, sym, ap, subst, ◌∙◌}
use Rattle.std.specs.Prelude.{Option, Some, None, Bool, true, false, codes, unwrap_or, bytes_eq}
use Rattle.std.specs.Option.{option_map_or, option_and_then}
use Rattle.std.specs.List.{list_any}
use Rattle.json_exact.specs.declared.json.Json.{Json, out-Json}
use Rattle.json_exact.specs.declared.json.Json.TheOpen as level
use Rattle.json_exact.specs.declared.json.Member.{Member}
use Rattle.json_exact.specs.Inside.{text_in, members_in}
use Rattle.json_exact.specs.Path.{member_value}
use Rattle.spec_schema.specs.declared.layout.Layout.{Layout}
use Rattle.spec_schema.specs.Values.{Opened, text_passes}
use Rattle.spec_schema.specs.Layouts.{shape_in, layout_in, says}
use Rattle.spec_schema.specs.Tables.{must}
use Rattle.vega_schema.specs.declared.codes.TheConstants.{MARK, MARKS, NOTHING, TOP}
use Rattle.vega_schema.specs.Schema.{vega_schema}
use Rattle.vega_schema.specs.Guides.{group_mark, axis, legend, grid_layout, top}
use Rattle.vega_schema.specs.Sources.{data_set, data_format, parse, sort, extent_signal}
use Rattle.vega_schema.specs.Transforms.{filter, formula, extent, bin, time_unit, stack, fold}
use Rattle.vega_schema.specs.Groupings.{aggregate, join_aggregate, window, lookup, no_transform}
use Rattle.vega_schema.specs.Signals.{signal, on_event, expression_signal}
use Rattle.vega_schema.specs.Scales.{linear_scale, time_scale, band_scale, point_scale, ordinal_scale, no_scale}
use Rattle.vega_schema.specs.Domains.{domain_of_signal, domain_of_field, domain_of_fields, reference, sort_by_operation, sort_by_cells}
use Rattle.vega_schema.specs.PlainMarks.{rect_mark, symbol_mark, line_mark, area_mark, rule_mark, text_mark}
use Rattle.vega_schema.specs.Marks.{mark_from, group_from, facet, cross, encode, no_mark}
use Rattle.vega_schema.specs.Channels.{channel_members, value, words_value}
use Rattle.vega_schema.specs.Sizes.{size_signal, group_encode, group_channels, size_value}
use Rattle.vega_parts.specs.Trails.{Trail, noted}
use Rattle.vega_parts.specs.Members.{says_text}
use Rattle.vega_spec.specs.declared.marks.MarkType.{MarkType}
use Rattle.vega_spec.specs.declared.marks.MarkType.TheVariants as mark
use Rattle.vega_spec.specs.declared.spec.Group.{Group, Group-F, out-Group}
use Rattle.vega_spec.specs.declared.spec.VgMark.{VgMark, VgMark-F, out-VgMark}
use Rattle.vega_spec.specs.declared.spec.VgSpec.{VgSpec}
use Rattle.vega_building.specs.Parts.{members_of, objects_at}
use Rattle.vega_building.specs.Names.{mark_type_named}
use Rattle.vega_building.specs.Signals.{signal_of}
use Rattle.vega_building.specs.Sources.{data_set_of}
use Rattle.vega_building.specs.Spec.{mark_with, mark_of, marks_in, marks_at, spec_of, spec_with}
use Rattle.vega_building.proofs.Nested.{marks_in-List, mark_of-Object}
use Rattle.vega_signals.specs.Needs.{AreInOrder}
use Rattle.vega_copies.specs.Outlines.{Object, Marks, NoMarks, AMark, AGroup, numbered, count_marks, count_groups, opened}
use Rattle.vega_copies.specs.inner.Outlined.{is_group_type, before_of, marks_of, group_object}
use Rattle.vega_copies.specs.inner.Outlined as outlined
use Rattle.vega_copies.proofs.OutlineLemmas.{plain_first, group_first, opened_object, opened_marks}
use Rattle.vega_standing.specs.Orders.{HasOrder, EachObject, OfAll}
use Rattle.vega_standing.proofs.Trees.{Each, Inner, of_each, list_of, object_of}
use Rattle.vega_standing.proofs.Stands.{EachFrom, Stands, StandsObject, formed}
use Rattle.vega_standing.proofs.Members.{opened_as, found_as, required, says_is}
use Rattle.vega_standing.proofs.Scales.{nothing_stands}
use Rattle.vega_standing.proofs.Transforms.{one_layout, last_layout, says_member}
use Rattle.vega_standing.proofs.Marks.{group_parts, group_opened, mark_opened, marks_taken, mark_taken, value_of}
use Rattle.vega_standing.proofs.Top.{top_taken, top_layout}
use Rattle.vega_standing.proofs.Seated.{Seat, SeatedMember, SeatedObject, seated_items, seated_object, seat_from, top_seat}
use Rattle.vega_standing.proofs.Owned.{Ordered}
use Rattle.vega_standing.proofs.OwnObjects.{object_ordered}

-- a value that says a text, says it
says_of : (word : List ℕ) (o : Option Json) → option_and_then (λ v. text_in (out-Json v)) o ≡ Some word →
    option_map_or (λ v. text_passes (bytes_eq word) (out-Json v)) o false ≡ bytes_eq word word
says_of word None e = absurd cc
says_of word (Some v) e = by_text (out-Json v) e
  where
    by_text : (o : Opened) → text_in o ≡ Some word → text_passes (bytes_eq word) o ≡ bytes_eq word word
    by_text level.Null e = absurd cc
    by_text (level.Flag b) e = absurd cc
    by_text (level.Number n) e = absurd cc
    by_text level.Huge e = absurd cc
    by_text (level.Text t) e = let same : t ≡ word = cc in ap (bytes_eq word) same
    by_text (level.List items) e = absurd cc
    by_text (level.Object ms) e = absurd cc

module _ (tree : Json) (ordered : Ordered tree) where
  -- a mark, where it stands in the tree, puts objects with orders before others
  abbrev OneOrdered : Json → Type 0
  OneOrdered v = (round : Trail) (number : ℕ) → Seat tree round number MARK v → (others : Marks) →
      EachObject HasOrder others → EachObject HasOrder (before_of (mark_of v) others)

  record Deep (v : Json) : Type 0 where
    here : OneOrdered v
    items : (xs : List Json) → out-Json v ≡ level.List xs → Each OneOrdered xs

  row_ordered : (trail : Trail) (n : ℕ) (items : List Json) → Each OneOrdered items →
      EachFrom (λ i v. Seat tree trail i MARK v) n items → EachObject HasOrder (marks_of (map mark_of items))
  row_ordered trail n [] keep seats = tt
  row_ordered trail n (item ∷ items) keep seats = keep.0 trail n seats.0 (marks_of (map mark_of items)) (row_ordered trail (n + 1) items keep.1 seats.1)

  list_ordered : (round : Trail) (number : ℕ) (v : Json) → Seat tree round number MARKS v → Deep v → EachObject HasOrder (marks_of (unwrap_or (marks_in v) []))
  list_ordered round number v s deep =
      let l = seated_items tree round number MARKS v s MARK marks_taken in
      let built : marks_in v ≡ Some (map mark_of l.items) = ap marks_in (list_of v l.items l.is_list) ∙ marks_in-List l.items in
      subst (λ o. EachObject HasOrder (marks_of (unwrap_or o []))) (sym built)
      (row_ordered (noted number MARKS v ∷ round) 0 l.items (deep.items l.items l.is_list) l.each)

  module _ (round : Trail) (number shape : ℕ) (v : Json) (s : Seat tree round number shape v)
      (ms : List Member) (deep : Each (λ (m : Member). Deep m.value) ms) where
    -- the marks of an object
    marks_ordered : (l : Layout) → EachFrom (SeatedMember tree round number shape v s l) 0 ms → shape_in l (codes "marks") ≡ Some MARKS →
        EachObject HasOrder (marks_of (unwrap_or (marks_at ms (codes "marks")) []))
    marks_ordered l each ruled = by_value (member_value ms (codes "marks")) refl
      where
        by_value : (o : Option Json) → member_value ms (codes "marks") ≡ o → EachObject HasOrder (marks_of (unwrap_or (option_and_then marks_in o) []))
        by_value None e = tt
        by_value (Some w) e =
            let seat = seat_from tree round number shape v s l 0 ms (codes "marks") MARKS w each ruled e in
            list_ordered (noted number shape v ∷ round) seat.0 w seat.1 (value_of Deep ms (codes "marks") w deep e)

  module _ (round : Trail) (number : ℕ) (v : Json) (s : Seat tree round number MARK v) (ms : List Member)
      (is : out-Json v ≡ level.Object ms) (others : Marks) (rest : EachObject HasOrder others)
      (deep : Each (λ (m : Member). Deep m.value) ms) (so : SeatedObject tree round number MARK v s MARK ms) where
    abbrev trail : Trail
    trail = noted number MARK v ∷ round

    abbrev own : VgMark
    own = mark_with ms (marks_at ms (codes "marks"))

    abbrev Put : Layout → Type 0
    Put l = so.laid.layout ≡ l → EachObject HasOrder (before_of own others)

    stands : (l : Layout) → so.laid.layout ≡ l → StandsObject trail l ms
    stands l laid = subst (λ l. StandsObject trail l ms) laid so.laid.stands

    typed : (word : List ℕ) (type : MarkType) (l : Layout) → so.laid.layout ≡ l →
        list_any (says (codes "type") word) ms ≡ true → mark_type_named word ≡ Some type → (out-VgMark own).type_ ≡ type
    typed word type l laid e is =
        ap (λ (m : VgMark-F Group VgMark). m.type_) (mark_opened ms (marks_at ms (codes "marks")))
        ∙ ap (λ o. unwrap_or (option_and_then mark_type_named o) mark.Rect) (says_is ms (codes "type") word (stands l laid).own e)
        ∙ ap (λ o. unwrap_or o mark.Rect) is

    plain : (word : List ℕ) (type : MarkType) (l : Layout) → mark_type_named word ≡ Some type →
        is_group_type type ≡ false → list_any (says (codes "type") word) ms ≡ true → Put l
    plain word type l named other e laid =
        subst (EachObject HasOrder) (sym (plain_first own others (ap is_group_type (typed word type l laid e named) ∙ other))) rest

    group : list_any (says (codes "type") (codes "group")) ms ≡ true → Put group_mark
    unfolding group_mark
    group e laid =
        let each = subst (λ l. EachFrom (SeatedMember tree round number MARK v s l) 0 ms) laid so.each in
        let built : out-Group (out-VgMark own).group ≡ group_parts ms (marks_at ms (codes "marks")) =
        ap (λ (m : VgMark-F Group VgMark). out-Group m.group) (mark_opened ms (marks_at ms (codes "marks"))) ∙ group_opened ms (marks_at ms (codes "marks")) in
        let object : says_text (codes "type") (codes "group") v ≡ true =
        says_member v ms is (codes "type") (codes "group")
        ∙ says_of (codes "group") (member_value ms (codes "type")) (says_is ms (codes "type") (codes "group") (stands group_mark laid).own e) in
        let order = object_ordered tree ordered round number MARK v s object group_mark ms each refl refl in
        let here : HasOrder (group_object 0 (out-VgMark own)) =
        (order.0, subst (λ (g : Group-F Group VgMark). AreInOrder (unwrap_or g.signals []) (unwrap_or g.data_ []) order.0) (sym built) order.1) in
        let within : EachObject HasOrder (marks_of (outlined.marks_in (out-Group (out-VgMark own).group))) =
        subst (λ (g : Group-F Group VgMark). EachObject HasOrder (marks_of (unwrap_or g.marks [])))
        (sym built) (marks_ordered round number MARK v s ms deep group_mark each refl) in
        subst (EachObject HasOrder)
        (sym (group_first own others (ap is_group_type (typed (codes "group") mark.Group group_mark laid e refl)))) (here, within, rest)

    unknown : Put no_mark
    unfolding no_mark
    unknown laid =
        let w : (w : Json) × (member_value ms (codes "type") ≡ Some w) =
        required trail no_mark ms (codes "type") (must (codes "type") NOTHING) (stands no_mark laid) refl refl refl in
        let there : (i : ℕ) × Stands trail i NOTHING w.0 = found_as trail no_mark ms (codes "type") w.0 NOTHING (stands no_mark laid) refl w.1 in
        absurd (nothing_stands trail there.0 w.0 there.1)

    by_mark : (l : Layout) → layout_in vega_schema MARK ms ≡ Some l → Put l
    unfolding vega_schema group_mark axis legend grid_layout top data_set data_format parse sort extent_signal
        filter formula extent bin time_unit stack fold aggregate join_aggregate window lookup no_transform signal on_event expression_signal
        linear_scale time_scale band_scale point_scale ordinal_scale no_scale domain_of_signal domain_of_field domain_of_fields reference
        sort_by_operation sort_by_cells rect_mark symbol_mark line_mark area_mark rule_mark text_mark mark_from group_from facet cross
        encode no_mark channel_members value words_value size_signal group_encode group_channels size_value
    by_mark l e =
        let a : List ℕ → Bool = λ word. list_any (says (codes "type") word) ms in
        one_layout Put (a (codes "group")) group_mark l _ e group (λ e.
        one_layout Put (a (codes "rect")) rect_mark l _ e (plain (codes "rect") mark.Rect rect_mark refl refl) (λ e.
        one_layout Put (a (codes "symbol")) symbol_mark l _ e (plain (codes "symbol") mark.Symbol symbol_mark refl refl) (λ e.
        one_layout Put (a (codes "line")) line_mark l _ e (plain (codes "line") mark.Line line_mark refl refl) (λ e.
        one_layout Put (a (codes "area")) area_mark l _ e (plain (codes "area") mark.Area area_mark refl refl) (λ e.
        one_layout Put (a (codes "rule")) rule_mark l _ e (plain (codes "rule") mark.Rule rule_mark refl refl) (λ e.
        one_layout Put (a (codes "text")) text_mark l _ e (plain (codes "text") mark.Text text_mark refl refl) (λ e.
        last_layout Put no_mark l e unknown)))))))

  mark_ordered : (v : Json) → Inner Deep v → OneOrdered v
  mark_ordered v inner round number s others rest =
      let f = formed MARK v s.stands.fine in
      let ms : (ms : List Member) × (out-Json v ≡ level.Object ms) = opened_as MARK (out-Json v) (mark_taken (out-Json v) f.0 f.1).0 in
      let o = seated_object tree round number MARK v s MARK ms.0 ms.1 (λ f e. mark_taken (level.Object ms.0) f e) in
      let is : mark_of v ≡ mark_with ms.0 (marks_at ms.0 (codes "marks")) = ap mark_of (object_of v ms.0 ms.1) ∙ mark_of-Object ms.0 in
      subst (λ m. EachObject HasOrder (before_of m others)) (sym is)
      (by_mark round number v s ms.0 ms.1 others rest (inner.values ms.0 ms.1) o o.laid.layout o.laid.applies refl)

  each_here : (xs : List Json) → Each Deep xs → Each OneOrdered xs
  each_here [] each = tt
  each_here (x ∷ xs) each = (each.0.here, each_here xs each.1)

  deep_all : (v : Json) → Deep v
  deep_all = of_each Deep (λ v inner. record { here = mark_ordered v inner; items = λ xs e. each_here xs (inner.items xs e) })

  deep_values : (ms : List Member) → Each (λ (m : Member). Deep m.value) ms
  deep_values [] = tt
  deep_values (m ∷ ms) = (deep_all m.value, deep_values ms)

  -- ---- the top

  top_ordered : (s : Seat tree [] 0 TOP tree) (ms : List Member) → EachFrom (SeatedMember tree [] 0 TOP tree s top) 0 ms →
      ((place : List ℕ → ℕ) × AreInOrder (unwrap_or (objects_at signal_of ms (codes "signals")) [])
      (unwrap_or (objects_at data_set_of ms (codes "data")) []) place)
      × EachObject HasOrder (marks_of (unwrap_or (marks_at ms (codes "marks")) []))
  unfolding top
  top_ordered s ms each =
      (object_ordered tree ordered [] 0 TOP tree s refl top ms each refl refl, marks_ordered [] 0 TOP tree s ms (deep_values ms) top each refl)

-- numbers change nothing
numbered_orders : (unit number : ℕ) (marks : Marks) → EachObject HasOrder marks → EachObject HasOrder (numbered unit number marks)
numbered_orders unit number NoMarks h = tt
numbered_orders unit number (AMark old m others) h = numbered_orders (suc unit) number others h
numbered_orders unit number (AGroup o inside others) h = (
  h.0,
  numbered_orders unit (suc number) inside h.1,
  numbered_orders (unit + count_marks inside) (suc number + count_groups inside) others h.2,
)

-- where a tree that stands has no name twice and no signal that needs itself, the signals of the specification that it says stand in orders
pub all_in_order : (tree : Json) → Stands [] 0 TOP tree → Ordered tree → OfAll HasOrder (spec_of tree)
all_in_order tree stands ordered =
    let s : Seat tree [] 0 TOP tree = top_seat tree stands in
    let f = formed TOP tree stands.fine in
    let ms : (ms : List Member) × (out-Json tree ≡ level.Object ms) = opened_as TOP (out-Json tree) (top_taken (out-Json tree) f.0 f.1).0 in
    let o = seated_object tree [] 0 TOP tree s TOP ms.0 ms.1 (λ f e. top_taken (level.Object ms.0) f e) in
    let laid : o.laid.layout ≡ top = let a = o.laid.applies in let b = top_layout ms.0 in cc in
    let both = top_ordered tree ordered s ms.0 (subst (λ l. EachFrom (SeatedMember tree [] 0 TOP tree s l) 0 ms.0) laid o.each) in
    let g : VgSpec = spec_with ms.0 in
    let built = group_opened ms.0 (marks_at ms.0 (codes "marks")) in
    let kept : OfAll HasOrder g = record {
      top = (
        both.0.0,
        subst (λ (o : Object). AreInOrder o.signals o.sets both.0.0) (sym (opened_object g.group))
            (subst (λ (x : Group-F Group VgMark). AreInOrder (unwrap_or x.signals []) (unwrap_or x.data_ []) both.0.0) (sym built) both.0.1),
      );
      inside = numbered_orders 0 1 (opened g.group).marks (subst (EachObject HasOrder)
          (sym (opened_marks g.group ∙ ap (λ (x : Group-F Group VgMark). marks_of (unwrap_or x.marks [])) built)) both.1);
    } in
    let same : members_of tree ≡ ms.0 = ap (λ o. unwrap_or (members_in o) []) ms.1 in
    subst (λ m. OfAll HasOrder (spec_with m)) (sym same) kept
