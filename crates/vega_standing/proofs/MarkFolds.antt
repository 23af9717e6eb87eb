-- The folds of marks and of what stands in them.
use Rattle.std.proofs.Common.{◌≡◌, ℕ, ◌+◌, ◌≤◌, List, [], ◌∷◌, ◌++◌, map, refl, sym, ap, subst, ◌∙◌, ◌⊎◌, inl, inr, arith}
use Rattle.std.specs.Prelude.{Option, Some, None, Bool, true, false, ◌==◌, ◌||◌, codes, unwrap_or, bytes_eq, IfSome, drop}
use Rattle.std.specs.Option.{option_map_or, option_and_then}
use Rattle.std.specs.List.{list_any, list_all}
use Rattle.std.proofs.lemmas.List.{append_assoc, append-nil}
use Rattle.std.proofs.lemmas.Slice.Eq.{bytes_eq-Decides}
use Rattle.json_exact.specs.declared.json.Json.{Json, out-Json}
use Rattle.json_exact.specs.declared.json.Json.TheOpen as level
use Rattle.json_exact.specs.declared.json.Member.{Member}
use Rattle.json_exact.specs.Path.{member_value}
use Rattle.spec_schema.specs.declared.layout.Layout.{Layout}
use Rattle.spec_schema.specs.declared.layout.Rule.{Rule}
use Rattle.spec_schema.specs.Layouts.{layout_in, says, has_name}
use Rattle.spec_schema.specs.Tables.{must}
use Rattle.vega_schema.specs.declared.codes.TheConstants.{DATA_LIST, MARK, MARKS, GROUP_FROM, NOTHING}
use Rattle.vega_schema.specs.Schema.{vega_schema}
use Rattle.vega_schema.specs.Guides.{group_mark, axis, legend, grid_layout, top}
use Rattle.vega_schema.specs.Sources.{data_set, data_format, parse, sort, extent_signal}
use Rattle.vega_schema.specs.Transforms.{filter, formula, extent, bin, time_unit, stack, fold}
use Rattle.vega_schema.specs.Groupings.{aggregate, join_aggregate, window, lookup, no_transform}
use Rattle.vega_schema.specs.Signals.{signal, on_event, expression_signal}
use Rattle.vega_schema.specs.Scales.{linear_scale, time_scale, band_scale, point_scale, ordinal_scale, no_scale}
use Rattle.vega_schema.specs.Domains.{domain_of_signal, domain_of_field, domain_of_fields, reference, sort_by_operation, sort_by_cells}
use Rattle.vega_schema.specs.PlainMarks.{rect_mark, symbol_mark, line_mark, area_mark, rule_mark, text_mark}
use Rattle.vega_schema.specs.Marks.{mark_from, group_from, facet, cross, encode, no_mark}
use Rattle.vega_schema.specs.Channels.{channel_members, value, words_value}
use Rattle.vega_schema.specs.Sizes.{size_signal, group_encode, group_channels, size_value}
use Rattle.vega_parts.specs.declared.part.Part.{Part}
use Rattle.vega_parts.specs.declared.around.Around.{Around}
use Rattle.vega_parts.specs.Trails.{Trail, noted, place_of, is_faceted}
use Rattle.vega_parts.specs.Parts.{parts_at}
use Rattle.vega_rules.specs.Places.{same_place, fronts}
use Rattle.vega_rules.specs.Twice.{twice}
use Rattle.vega_rules.specs.Unknown.{unknown}
use Rattle.vega_rules.specs.Resolved.{given_in, first_found, fronts_round}
use Rattle.vega_parts.specs.declared.part.Used.TheVariants as for_
use Rattle.vega_parts.specs.declared.part.GivenName.{GivenName}
use Rattle.vega_rules.specs.Folds.{folds_after}
use Rattle.vega_spec.specs.declared.marks.MarkType.{MarkType}
use Rattle.vega_spec.specs.declared.marks.MarkType.TheVariants as mark
use Rattle.vega_spec.specs.declared.spec.Group.{Group}
use Rattle.vega_spec.specs.declared.spec.VgMark.{VgMark, VgMark-F, out-VgMark}
use Rattle.vega_building.specs.Parts.{text_at}
use Rattle.vega_building.specs.Names.{mark_type_named}
use Rattle.vega_building.specs.Spec.{mark_with, mark_of, marks_in, marks_at}
use Rattle.vega_building.proofs.Nested.{marks_in-List}
use Rattle.vega_lists.specs.Products.{Products}
use Rattle.vega_copies.specs.Outlines.{Marks}
use Rattle.vega_copies.specs.inner.Kept.{FoldsFitIn}
use Rattle.vega_copies.specs.inner.Outlined.{is_group, is_group_type, before_of, marks_of}
use Rattle.vega_standing.proofs.Trees.{Each, list_of}
use Rattle.vega_standing.proofs.Stands.{EachFrom, Stands, StandsMember, StandsObject, parts_in, parts_of_items, parts_of_members}
use Rattle.vega_standing.proofs.Members.{found_as, required, says_is}
use Rattle.vega_standing.proofs.Scales.{nothing_stands}
use Rattle.vega_standing.proofs.Transforms.{one_layout, last_layout}
use Rattle.vega_standing.proofs.Marks.{mark_opened, marks_taken}
use Rattle.vega_standing.proofs.Quiet.{IsQuiet, AreQuiet, each_append, each_of, quiet_shape}
use Rattle.vega_standing.proofs.Dull.{is_dull, dull_parts, found_passes, same_code}
use Rattle.vega_standing.proofs.Known.{quiet_known, Under, under_itself, under_further, under_others, under_itself_not, concern}
use Rattle.vega_standing.proofs.Known.{quiet_holds, Apart, known_after, known_append}
use Rattle.vega_standing.proofs.Rows.{place_child, none_named}
use Rattle.vega_standing.proofs.Sets.{Listed, listed_as, ruled_as, or_dull}
use Rattle.vega_standing.proofs.Lists.{Meets, Outer, outer_kept}
use Rattle.vega_standing.proofs.ObjectFolds.{quiet_apart, DullButTwo}
use Rattle.vega_standing.proofs.FoldWalk.{Clear, Inside, concerns_map, fronts_child, MarksGo, sets_concern}
use Rattle.vega_standing.proofs.FacetParts.{from_concerns}
use Rattle.spec_walk.specs.Walk.{seen_in, member_parts}

-- ---- kinds of marks

-- all members of a layout are dull
pub record IsPlain (l : Layout) : Type 0 where
  pub rules : list_all (λ (r : Rule). is_dull r.shape) l.rules ≡ true
  pub others : l.others ≡ None

module _ (trail : Trail) (ms : List Member) where
  abbrev own : VgMark
  own = mark_with ms (marks_at ms (codes "marks"))

  abbrev pub KindOf : Layout → Type 0
  KindOf l = (IsPlain l × (is_group (out-VgMark own) ≡ false))
      ⊎ ((l ≡ group_mark) × (is_group (out-VgMark own) ≡ true) × (text_at ms (codes "type") ≡ Some (codes "group")))

  abbrev Kind : Layout → Type 0
  Kind l = StandsObject trail l ms → KindOf l

  typed : (word : List ℕ) (type : MarkType) (l : Layout) → StandsObject trail l ms → list_any (says (codes "type") word) ms ≡ true →
      mark_type_named word ≡ Some type → (out-VgMark own).type_ ≡ type
  typed word type l s e is =
      ap (λ (m : VgMark-F Group VgMark). m.type_) (mark_opened ms (marks_at ms (codes "marks")))
      ∙ ap (λ o. unwrap_or (option_and_then mark_type_named o) mark.Rect) (says_is ms (codes "type") word s.own e)
      ∙ ap (λ o. unwrap_or o mark.Rect) is

  plain : (word : List ℕ) (type : MarkType) (l : Layout) → IsPlain l → mark_type_named word ≡ Some type → is_group_type type ≡ false →
      list_any (says (codes "type") word) ms ≡ true → Kind l
  plain word type l dull is other e s = inl (dull, ap is_group_type (typed word type l s e is) ∙ other)

  group : list_any (says (codes "type") (codes "group")) ms ≡ true → Kind group_mark
  group e s = inr (refl, ap is_group_type (typed (codes "group") mark.Group group_mark s e refl), says_is ms (codes "type") (codes "group") s.own e)

  no_kind : Kind no_mark
  unfolding no_mark
  no_kind s =
      let v : (v : Json) × (member_value ms (codes "type") ≡ Some v) =
      required trail no_mark ms (codes "type") (must (codes "type") NOTHING) s refl refl refl in
      let stands : (i : ℕ) × Stands trail i NOTHING v.0 = found_as trail no_mark ms (codes "type") v.0 NOTHING s refl v.1 in
      absurd (nothing_stands trail stands.0 v.0 stands.1)

  pub by_mark : (l : Layout) → layout_in vega_schema MARK ms ≡ Some l → Kind l
  unfolding vega_schema group_mark axis legend grid_layout top data_set data_format parse sort extent_signal
      filter formula extent bin time_unit stack fold aggregate join_aggregate window lookup no_transform signal on_event expression_signal
      linear_scale time_scale band_scale point_scale ordinal_scale no_scale domain_of_signal domain_of_field domain_of_fields reference
      sort_by_operation sort_by_cells rect_mark symbol_mark line_mark area_mark rule_mark text_mark mark_from group_from facet cross
      encode no_mark channel_members value words_value size_signal group_encode group_channels size_value
  by_mark l e =
      let a : List ℕ → Bool = λ word. list_any (says (codes "type") word) ms in
      one_layout Kind (a (codes "group")) group_mark l _ e group (λ e.
      one_layout Kind (a (codes "rect")) rect_mark l _ e (plain (codes "rect") mark.Rect rect_mark (record { rules = refl; others = refl }) refl refl) (λ e.
      one_layout Kind (a (codes "symbol")) symbol_mark l _ e
      (plain (codes "symbol") mark.Symbol symbol_mark (record { rules = refl; others = refl }) refl refl) (λ e.
      one_layout Kind (a (codes "line")) line_mark l _ e (plain (codes "line") mark.Line line_mark (record { rules = refl; others = refl }) refl refl) (λ e.
      one_layout Kind (a (codes "area")) area_mark l _ e (plain (codes "area") mark.Area area_mark (record { rules = refl; others = refl }) refl refl) (λ e.
      one_layout Kind (a (codes "rule")) rule_mark l _ e (plain (codes "rule") mark.Rule rule_mark (record { rules = refl; others = refl }) refl refl) (λ e.
      one_layout Kind (a (codes "text")) text_mark l _ e (plain (codes "text") mark.Text text_mark (record { rules = refl; others = refl }) refl refl) (λ e.
      last_layout Kind no_mark l e no_kind)))))))

-- ---- the members of groups

abbrev group_rule : Rule → Bool
group_rule r = ((is_dull r.shape || bytes_eq r.name (codes "from")) || bytes_eq r.name (codes "marks")) || bytes_eq r.name (codes "data")

group_dull : list_all group_rule group_mark.rules ≡ true
unfolding group_mark
group_dull = refl

abbrev group_shape : Rule → Bool
group_shape r = ((is_dull r.shape || r.shape == GROUP_FROM) || r.shape == MARKS) || r.shape == DATA_LIST

group_shapes : list_all group_shape group_mark.rules ≡ true
unfolding group_mark
group_shapes = refl

group_alone : group_mark.others ≡ None
unfolding group_mark
group_alone = refl

-- ---- lists of marks

-- a mark's folds fit where it stands
pub record GoodMark (whole : List Part) (tree : Json) : Type 0 where
  pub concerns : (next : Around) (round : Trail) (number : ℕ) → Stands (next ∷ round) number MARK tree →
      Each (λ p. IfSome (concern p) (Under (place_of (noted number MARK tree ∷ next ∷ round)))) (parts_in (next ∷ round) number MARK tree)
  pub folds : (next : Around) (round : Trail) (number : ℕ) → Stands (next ∷ round) number MARK tree → is_faceted (next ∷ round) ≡ false →
      (products : Products) (others : Marks) (before after : List Part) → whole ≡ before ++ (parts_in (next ∷ round) number MARK tree ++ after) →
      Clear (place_of (noted number MARK tree ∷ next ∷ round)) before → Clear (place_of (noted number MARK tree ∷ next ∷ round)) after →
      Outer whole (known_after whole [] before) (place_of (noted number MARK tree ∷ next ∷ round))
      (fronts_round (place_of (noted number MARK tree ∷ next ∷ round))) products →
      FoldsFitIn products others → FoldsFitIn products (before_of (mark_of tree) others)
  pub faceted : (next : Around) (round : Trail) (number : ℕ) → Stands (next ∷ round) number MARK tree → is_faceted (next ∷ round) ≡ true →
      (products : Products) (others : Marks) → FoldsFitIn products others → FoldsFitIn products (before_of (mark_of tree) others)

pub record Deep (whole : List Part) (tree : Json) : Type 0 where
  pub here : GoodMark whole tree
  pub items : (xs : List Json) → out-Json tree ≡ level.List xs → Each (GoodMark whole) xs

module _ (whole : List Part) (no_twice : twice whole ≡ []) (no_unknown : unknown whole ≡ []) (no_folds : folds_after whole [] whole ≡ []) where
  abbrev known_so : List Part → List (List ℕ × ℕ)
  known_so before = known_after whole [] before

  row_concerns : (list next : Around) (round : Trail) (n : ℕ) (items : List Json) →
      Each (GoodMark whole) items → EachFrom (λ i v. Stands (list ∷ next ∷ round) i MARK v) n items →
      (P : List ℕ → Type 0) → ((i : ℕ) → n ≤ i → (t : List ℕ) → Under (place_of (list ∷ next ∷ round) ++ i ∷ []) t → P t) →
      Each (λ p. IfSome (concern p) P) (parts_of_items (list ∷ next ∷ round) MARK n items)
  row_concerns list next round n [] good each P f = tt
  row_concerns list next round n (v ∷ items) good each P f =
      each_append (λ p. IfSome (concern p) P) (parts_in (list ∷ next ∷ round) n MARK v) (parts_of_items (list ∷ next ∷ round) MARK (n + 1) items)
      (concerns_map (Under (place_of (noted n MARK v ∷ list ∷ next ∷ round))) P (parts_in (list ∷ next ∷ round) n MARK v)
      (λ t u. f n (same n) t (subst (λ x. Under x t) (place_child (noted n MARK v) list (next ∷ round)) u)) (good.0.concerns list (next ∷ round) n each.0))
      (row_concerns list next round (n + 1) items good.1 each.1 P (λ i e. f i (grow i n e)))
    where
      same : (n : ℕ) → n ≤ n
      same n = omega arith

      grow : (i n : ℕ) → n + 1 ≤ i → n ≤ i
      grow i n e = omega arith

  row_faceted : (list next : Around) (round : Trail) (n : ℕ) (items : List Json) →
      Each (GoodMark whole) items → EachFrom (λ i v. Stands (list ∷ next ∷ round) i MARK v) n items →
      is_faceted (list ∷ next ∷ round) ≡ true → (products : Products) → FoldsFitIn products (marks_of (map mark_of items))
  row_faceted list next round n [] good each e products = tt
  row_faceted list next round n (v ∷ items) good each e products =
      good.0.faceted list (next ∷ round) n each.0 e products (marks_of (map mark_of items)) (row_faceted list next round (n + 1) items good.1 each.1 e products)

  -- what holds in the marks of an object holds in one of them
  inner_outer : (known : List (List ℕ × ℕ)) (place : List ℕ) (n : ℕ) (products : Products) → Outer whole known place (fronts place) products →
      Outer whole known (place ++ n ∷ []) (fronts_round (place ++ n ∷ [])) products
  inner_outer known place n products o = record {
    meets = λ name. subst (λ fs. Meets known (place ++ n ∷ []) (products name) (first_found (given_in whole for_.Source name) (drop 1 fs)))
        (sym (fronts_child place n))
        (nearer (first_found (given_in whole for_.Source name) (fronts place)) (products name) (o.meets name));
    few = o.few;
  }
    where
      nearer : (g : Option GivenName) (product : ℕ) → Meets known place product g → Meets known (place ++ n ∷ []) product g
      nearer None product m = tt
      nearer (Some g) product m = ((λ q u e. m.0 q (under_further place (n ∷ []) q u) e), (λ u. m.1 (under_further place (n ∷ []) g.of u)))

  row_folds : (list next : Around) (round : Trail) (place : List ℕ) (n : ℕ) (items : List Json) →
      place_of (list ∷ next ∷ round) ≡ place → Each (GoodMark whole) items →
      EachFrom (λ i v. Stands (list ∷ next ∷ round) i MARK v) n items →
      is_faceted (list ∷ next ∷ round) ≡ false → (products : Products) (before after : List Part) →
      whole ≡ before ++ (parts_of_items (list ∷ next ∷ round) MARK n items ++ after) → ((i : ℕ) → n ≤ i → Clear (place ++ i ∷ []) before) → Clear place after →
      Outer whole (known_so before) place (fronts place) products → FoldsFitIn products (marks_of (map mark_of items))
  row_folds list next round place n [] at good each e products before after is clear_before clear_after outer = tt
  row_folds list next round place n (v ∷ items) at good each e products before after is clear_before clear_after outer =
      let here : List Part = parts_in (list ∷ next ∷ round) n MARK v in
      let rest : List Part = parts_of_items (list ∷ next ∷ round) MARK (n + 1) items in
      let at_child : place_of (noted n MARK v ∷ list ∷ next ∷ round) ≡ place ++ n ∷ [] =
      place_child (noted n MARK v) list (next ∷ round) ∙ ap (λ p. p ++ n ∷ []) at in
      let whole_is : whole ≡ before ++ (here ++ (rest ++ after)) = is ∙ ap (λ ps. before ++ ps) (append_assoc here rest after) in
      let own : Each (λ p. IfSome (concern p) (Under (place ++ n ∷ []))) here =
      subst (λ x. Each (λ p. IfSome (concern p) (Under x)) here) at_child (good.0.concerns list (next ∷ round) n each.0) in
      let clear_rest : Clear (place ++ n ∷ []) (rest ++ after) =
      λ x u. each_append (Apart x) rest after
      (row_concerns list next round (n + 1) items good.1 each.1 (λ t. same_place x t ≡ false)
      (λ i more t w. under_others place n i x t (over i more) u (subst (λ p. Under (p ++ i ∷ []) t) at w)))
      (clear_after x (under_further place (n ∷ []) x u)) in
      let others : FoldsFitIn products (marks_of (map mark_of items)) =
      row_folds list next round place (n + 1) items at good.1 each.1 e products
      (before ++ here) after (whole_is ∙ sym (append_assoc before here (rest ++ after)))
      (λ i more x u. each_append (Apart x) before here (clear_before i (grow i more) x u)
      (concerns_map (Under (place ++ n ∷ [])) (λ t. same_place x t ≡ false) here
      (λ t w. under_others place i n x t (λ same. over i more (sym same)) u w) own)) clear_after
      (subst (λ kn. Outer whole kn place (fronts place) products) (sym (known_append whole [] before here))
      (outer_kept whole (known_so before) place (fronts place) products here
      (concerns_map (Under (place ++ n ∷ [])) (Under place) here (λ t w. under_further place (n ∷ []) t w) own) outer)) in
      good.0.folds list (next ∷ round) n each.0 e products (marks_of (map mark_of items)) before (rest ++ after) whole_is
      (subst (λ x. Clear x before) (sym at_child) (clear_before n same)) (subst (λ x. Clear x (rest ++ after)) (sym at_child) clear_rest)
      (subst (λ x. Outer whole (known_so before) x (fronts_round x) products) (sym at_child) (inner_outer (known_so before) place n products outer)) others
    where
      over : (i : ℕ) → n + 1 ≤ i → n ≡ i → ⊥
      over i more e = omega (arith, more, e)

      grow : (i : ℕ) → n + 1 ≤ i → n ≤ i
      grow i e = omega arith

      same : n ≤ n
      same = omega arith

  -- ---- the marks of an object

  marks_listed : (here : Around) (round : Trail) (k : ℕ) (v : Json) → Stands (here ∷ round) k MARKS v → Listed (here ∷ round) k MARKS MARK v
  marks_listed here round k v s = listed_as (here ∷ round) k MARKS MARK v s marks_taken

  marks_are : (here : Around) (round : Trail) (k : ℕ) (v : Json) (l : Listed (here ∷ round) k MARKS MARK v) → marks_in v ≡ Some (map mark_of l.items)
  marks_are here round k v l = ap marks_in (list_of v l.items l.is_list) ∙ marks_in-List l.items

  marks_concern : (here : Around) (round : Trail) (k : ℕ) (v : Json) → Stands (here ∷ round) k MARKS v → Deep whole v →
      Each (λ p. IfSome (concern p) (Inside (place_of (here ∷ round) ++ k ∷ []))) (parts_in (here ∷ round) k MARKS v)
  marks_concern here round k v s deep =
      let l : Listed (here ∷ round) k MARKS MARK v = marks_listed here round k v s in
      let P : List ℕ → Type 0 = Inside (place_of (here ∷ round) ++ k ∷ []) in
      subst (Each (λ p. IfSome (concern p) P)) (sym l.parts)
      (each_append (λ p. IfSome (concern p) P) (parts_at (noted k MARKS v ∷ here ∷ round) v) (parts_of_items (noted k MARKS v ∷ here ∷ round) MARK 0 l.items)
      (quiet_holds P (parts_at (noted k MARKS v ∷ here ∷ round) v) (quiet_shape MARKS refl refl refl (noted k MARKS v ∷ here ∷ round) v))
      (row_concerns (noted k MARKS v) here round 0 l.items (deep.items l.items l.is_list) l.each P
      (λ i e t u. inside i t (subst (λ p. Under (p ++ i ∷ []) t) (place_child (noted k MARKS v) here round) u))))
    where
      inside : (i : ℕ) (t : List ℕ) → Under ((place_of (here ∷ round) ++ k ∷ []) ++ i ∷ []) t → Inside (place_of (here ∷ round) ++ k ∷ []) t
      inside i t u = (under_further (place_of (here ∷ round) ++ k ∷ []) (i ∷ []) t u, under_itself_not (place_of (here ∷ round) ++ k ∷ []) i t u)

  pub marks_go : (here : Around) (round : Trail) (k : ℕ) (v : Json) → Stands (here ∷ round) k MARKS v → Deep whole v → is_faceted (here ∷ round) ≡ false →
      MarksGo whole no_twice no_unknown no_folds (here ∷ round) (place_of (here ∷ round) ++ k ∷ []) k v
  marks_go here round k v s deep e = record {
    concerns = marks_concern here round k v s deep;
    folds = λ products before after is clear_before clear_after outer.
        let l : Listed (here ∷ round) k MARKS MARK v = marks_listed here round k v s in
        let own_list : List Part = parts_at (noted k MARKS v ∷ here ∷ round) v in
        let quiet : AreQuiet own_list = quiet_shape MARKS refl refl refl (noted k MARKS v ∷ here ∷ round) v in
        let rest : List Part = parts_of_items (noted k MARKS v ∷ here ∷ round) MARK 0 l.items in
        let place : List ℕ = place_of (here ∷ round) ++ k ∷ [] in
        let fits : FoldsFitIn products (marks_of (map mark_of l.items)) =
        row_folds (noted k MARKS v) here round place 0 l.items (place_child (noted k MARKS v) here round)
        (deep.items l.items l.is_list) l.each e products (before ++ own_list) after
        (is ∙ ap (λ ps. before ++ (ps ++ after)) l.parts ∙ ap (λ ps. before ++ ps) (append_assoc own_list rest after)
        ∙ sym (append_assoc before own_list (rest ++ after)))
        (λ i more x u. each_append (Apart x) before own_list (clear_before x (under_further place (i ∷ []) x u))
        (each_of IsQuiet (Apart x) (quiet_apart x) own_list quiet))
        clear_after
        (subst (λ kn. Outer whole kn place (fronts place) products)
        (sym (known_append whole [] before own_list ∙ quiet_known whole (known_so before) own_list quiet)) outer) in
        subst (λ o. FoldsFitIn products (marks_of (unwrap_or o []))) (sym (marks_are here round k v l)) fits;
  }

  pub marks_faceted : (here : Around) (round : Trail) (k : ℕ) (v : Json) → Stands (here ∷ round) k MARKS v →
      Deep whole v → is_faceted (here ∷ round) ≡ true → (products : Products) →
      FoldsFitIn products (marks_of (unwrap_or (marks_in v) []))
  marks_faceted here round k v s deep e products =
      let l : Listed (here ∷ round) k MARKS MARK v = marks_listed here round k v s in
      subst (λ o. FoldsFitIn products (marks_of (unwrap_or o []))) (sym (marks_are here round k v l))
      (row_faceted (noted k MARKS v) here round 0 l.items (deep.items l.items l.is_list) l.each e products)

  -- ---- groups

  group_but : (m : Member) → bytes_eq m.name (codes "from") ≡ false → DullButTwo group_mark m
  group_but m no_from no_set no_marks inner e =
      ruled_as group_mark.rules group_mark.others m.name inner (λ i. is_dull i ≡ true) group_alone
      (λ r found.
      let passed : (bytes_eq r.name m.name ≡ true) × (group_rule r ≡ true) =
      found_passes (λ (r : Rule). bytes_eq r.name m.name) group_rule group_mark.rules r found group_dull in
      let named : r.name ≡ m.name = (bytes_eq-Decides r.name m.name).0 passed.0 in
      or_dull (is_dull r.shape) (bytes_eq r.name (codes "from"))
      (or_dull (is_dull r.shape || bytes_eq r.name (codes "from")) (bytes_eq r.name (codes "marks"))
      (or_dull ((is_dull r.shape || bytes_eq r.name (codes "from")) || bytes_eq r.name (codes "marks"))
      (bytes_eq r.name (codes "data")) passed.1 (ap (λ n. bytes_eq n (codes "data")) named ∙ no_set))
      (ap (λ n. bytes_eq n (codes "marks")) named ∙ no_marks)) (ap (λ n. bytes_eq n (codes "from")) named ∙ no_from)) e

  pub each_group : (ms : List Member) → has_name ms (codes "from") ≡ false → Each (DullButTwo group_mark) ms
  each_group [] e = tt
  each_group (m ∷ ms) e = let none = none_named m ms (codes "from") e in (group_but m none.0, each_group ms none.1)

  -- what holds of the group and of all under it, holds of all that its parts concern
  pub group_concerns : (here : Around) (round : Trail) (ms : List Member) →
      StandsObject (here ∷ round) group_mark ms → here.object ≡ true → Each (λ (m : Member). Deep whole m.value) ms →
      Each (λ p. IfSome (concern p) (Under (place_of (here ∷ round)))) (parts_of_members (here ∷ round) group_mark 0 ms)
  group_concerns here round ms s object deep = by_members 0 ms s.each deep
    where
      S : List ℕ
      S = place_of (here ∷ round)

      P : List ℕ → Type 0
      P = Under S

      itself : P S
      itself = ([], sym (append-nil S))

      by_shape : (i : ℕ) (m : Member) (shape : ℕ) → Stands (here ∷ round) i shape m.value → Deep whole m.value →
          (a b c d : Bool) → is_dull shape ≡ a → (shape == DATA_LIST) ≡ b → (shape == MARKS) ≡ c →
          (shape == GROUP_FROM) ≡ d → (((a || d) || c) || b) ≡ true → Each (λ p. IfSome (concern p) P) (parts_in (here ∷ round) i shape m.value)
      by_shape i m shape st dp true b c d x y z w e = quiet_holds P (parts_in (here ∷ round) i shape m.value) (dull_parts (here ∷ round) i shape m.value x)
      by_shape i m shape st dp false true c d x y z w e =
          let same : shape ≡ DATA_LIST = same_code shape DATA_LIST y in
          subst (λ k. Each (λ p. IfSome (concern p) P) (parts_in (here ∷ round) i k m.value)) (sym same)
          (sets_concern whole no_twice no_unknown no_folds here round object P
          (Some (i, m.value)) (subst (λ k. Stands (here ∷ round) i k m.value) same st) itself
          (λ j. under_further S (i ∷ []) ((S ++ i ∷ []) ++ j ∷ []) (under_itself (S ++ i ∷ []) (j ∷ []))))
      by_shape i m shape st dp false false true d x y z w e =
          let same : shape ≡ MARKS = same_code shape MARKS z in
          subst (λ k. Each (λ p. IfSome (concern p) P) (parts_in (here ∷ round) i k m.value)) (sym same)
          (concerns_map (Inside (S ++ i ∷ [])) P (parts_in (here ∷ round) i MARKS m.value) (λ t u. under_further S (i ∷ []) t u.0)
          (marks_concern here round i m.value (subst (λ k. Stands (here ∷ round) i k m.value) same st) dp))
      by_shape i m shape st dp false false false true x y z w e =
          let same : shape ≡ GROUP_FROM = same_code shape GROUP_FROM w in
          subst (λ k. Each (λ p. IfSome (concern p) P) (parts_in (here ∷ round) i k m.value)) (sym same)
          (from_concerns P (here ∷ round) i m.value (subst (λ k. Stands (here ∷ round) i k m.value) same st) itself)
      by_shape i m shape st dp false false false false x y z w e = absurd cc

      by_members : (n : ℕ) (ms : List Member) → EachFrom (StandsMember (here ∷ round) group_mark) n ms → Each (λ (m : Member). Deep whole m.value) ms →
          Each (λ p. IfSome (concern p) P) (parts_of_members (here ∷ round) group_mark n ms)
      by_members n [] each dp = tt
      by_members n (m ∷ ms) each dp =
          let shape : ℕ = each.0.0 in
          each_append (λ p. IfSome (concern p) P) (member_parts group_mark (here ∷ round) (n, (m.name, seen_in vega_schema noted parts_at m.value)))
          (parts_of_members (here ∷ round) group_mark (n + 1) ms)
          (subst (λ o. Each (λ p. IfSome (concern p) P) (option_map_or (λ shape. parts_in (here ∷ round) n shape m.value) o [])) (sym each.0.1)
          (by_shape n m each.0.0 each.0.2 dp.0 (is_dull each.0.0) (each.0.0 == DATA_LIST) (each.0.0 == MARKS) (each.0.0 == GROUP_FROM) refl refl refl refl
          (ruled_as group_mark.rules group_mark.others m.name each.0.0
          (λ i. (((is_dull i || i == GROUP_FROM) || i == MARKS) || i == DATA_LIST) ≡ true) group_alone
          (λ r found. (found_passes (λ (r : Rule). bytes_eq r.name m.name) group_shape group_mark.rules r found group_shapes).1) each.0.1)))
          (by_members (n + 1) ms each.1 dp.1)
