-- What is counted of the parts of a specification without faults.
use Rattle.std.proofs.Common.{◌≡◌, ℕ, ◌+◌, ◌≤◌, List, [], ◌∷◌, ◌++◌, map, cond, refl, sym, ap, subst, ◌∙◌, ◌⊎◌, inl, inr, arith}
use Rattle.std.specs.Prelude.{Option, Some, None, Bool, true, false, codes, unwrap_or, bytes_eq, find}
use Rattle.std.specs.Option.{option_map, option_map_or, option_and_then}
use Rattle.std.specs.List.{list_any}
use Rattle.std.proofs.lemmas.Slice.Eq.{bytes_eq-Decides}
use Rattle.json_exact.specs.declared.json.Json.{Json, out-Json}
use Rattle.json_exact.specs.declared.json.Json.TheOpen as level
use Rattle.json_exact.specs.declared.json.Member.{Member}
use Rattle.json_exact.specs.Path.{member_value}
use Rattle.spec_schema.specs.declared.layout.Layout.{Layout}
use Rattle.spec_schema.specs.Layouts.{shape_in, layout_in, says}
use Rattle.spec_schema.specs.Forms.{taken_form, items_shape}
use Rattle.spec_schema.specs.Tables.{must}
use Rattle.spec_walk.specs.Walk.{seen_in, member_parts}
use Rattle.vega_schema.specs.declared.codes.TheConstants.{MARK, MARKS, DATA_LIST, NOTHING}
use Rattle.vega_schema.specs.Schema.{vega_schema}
use Rattle.vega_schema.specs.Guides.{group_mark, axis, legend, grid_layout, top}
use Rattle.vega_schema.specs.Sources.{data_set, data_format, parse, sort, extent_signal}
use Rattle.vega_schema.specs.Transforms.{filter, formula, extent, bin, time_unit, stack, fold}
use Rattle.vega_schema.specs.Groupings.{aggregate, join_aggregate, window, lookup, no_transform}
use Rattle.vega_schema.specs.Signals.{signal, on_event, expression_signal}
use Rattle.vega_schema.specs.Scales.{linear_scale, time_scale, band_scale, point_scale, ordinal_scale, no_scale}
use Rattle.vega_schema.specs.Domains.{domain_of_signal, domain_of_field, domain_of_fields, reference, sort_by_operation, sort_by_cells}
use Rattle.vega_schema.specs.PlainMarks.{rect_mark, symbol_mark, line_mark, area_mark, rule_mark, text_mark}
use Rattle.vega_schema.specs.Marks.{mark_from, group_from, facet, cross, encode, no_mark}
use Rattle.vega_schema.specs.Channels.{channel_members, value, words_value}
use Rattle.vega_schema.specs.Sizes.{size_signal, group_encode, group_channels, size_value}
use Rattle.vega_parts.specs.declared.part.Part.{Part}
use Rattle.vega_parts.specs.Trails.{Trail, noted}
use Rattle.vega_parts.specs.Parts.{parts_at}
use Rattle.vega_spec.specs.declared.spec.VgMark.{VgMark}
use Rattle.vega_building.specs.Spec.{mark_with, mark_of, marks_in, marks_at}
use Rattle.vega_building.proofs.Nested.{marks_in-List, mark_of-Object}
use Rattle.vega_standing.proofs.Trees.{Each, Inner, of_each, list_of, object_of}
use Rattle.vega_standing.proofs.Stands.{EachFrom, Stands, StandsMember, StandsObject, formed, list_stands, parts_in, parts_of_items}
use Rattle.vega_standing.proofs.Stands.{parts_of_members, list_parts_are}
use Rattle.vega_standing.proofs.Members.{Laid, laid_out, opened_as, found_as, required, unruled}
use Rattle.vega_standing.proofs.Scales.{nothing_stands}
use Rattle.vega_standing.proofs.Transforms.{one_layout, last_layout}
use Rattle.vega_standing.proofs.Marks.{marks_taken, mark_taken, listed, value_of}

-- the weight of some parts
abbrev pub weight : (Part → ℕ) → List Part → ℕ
weight w [] = 0
weight w (p ∷ ps) = w p + weight w ps

abbrev pub total : {X : Type 0} → (X → ℕ) → List X → ℕ
total f [] = 0
total f (x ∷ xs) = f x + total f xs

pub zero_more : (n : ℕ) → n ≡ 0 + n
zero_more n = omega arith

grouped : (a b c : ℕ) → a + (b + c) ≡ (a + b) + c
grouped a b c = omega arith

pub weight_append : (w : Part → ℕ) (xs ys : List Part) → weight w (xs ++ ys) ≡ weight w xs + weight w ys
weight_append w [] ys = zero_more (weight w ys)
weight_append w (x ∷ xs) ys = ap (λ n. w x + n) (weight_append w xs ys) ∙ grouped (w x) (weight w xs) (weight w ys)

-- ---- members

module _ (w : Part → ℕ) (trail : Trail) (l : Layout) where
  -- the parts of a member
  abbrev pub parts_of : ℕ → Member → List Part
  parts_of n m = member_parts l trail (n, (m.name, seen_in vega_schema noted parts_at m.value))

  -- the weight of the parts of the first member of a name
  abbrev pub named_weight : ℕ → List Member → List ℕ → ℕ
  named_weight n [] name = 0
  named_weight n (m ∷ ms) name = cond (bytes_eq m.name name) (weight w (parts_of n m)) (named_weight (n + 1) ms name)

  first_or : (b : Bool) (here rest all whole : ℕ) → whole ≡ here + all → rest ≤ all → cond b here rest ≤ whole
  first_or true here rest all whole is less = omega arith
  first_or false here rest all whole is less = omega arith

  pub one_named : (n : ℕ) (ms : List Member) (name : List ℕ) → named_weight n ms name ≤ weight w (parts_of_members trail l n ms)
  one_named n [] name = omega arith
  one_named n (m ∷ ms) name =
      first_or (bytes_eq m.name name) (weight w (parts_of n m)) (named_weight (n + 1) ms name) (weight w (parts_of_members trail l (n + 1) ms)) _
      (weight_append w (parts_of n m) (parts_of_members trail l (n + 1) ms)) (one_named (n + 1) ms name)

  both_or : (p q : Bool) (here one other all whole : ℕ) → whole ≡ here + all → one + other ≤ all → one ≤ all → other ≤ all → (p ≡ true → q ≡ true → ⊥) →
      cond p here one + cond q here other ≤ whole
  both_or true true here one other all whole is two a b never = absurd (never refl refl)
  both_or true false here one other all whole is two a b never = omega arith
  both_or false true here one other all whole is two a b never = omega arith
  both_or false false here one other all whole is two a b never = omega arith

  apart_names : (m a b : List ℕ) → bytes_eq a b ≡ false → bytes_eq m a ≡ true → bytes_eq m b ≡ true → ⊥
  apart_names m a b unlike p q =
      let same : a ≡ b = sym ((bytes_eq-Decides m a).0 p) ∙ (bytes_eq-Decides m b).0 q in
      let e : bytes_eq a b ≡ true = (bytes_eq-Decides a b).1 same in
      cc

  -- those of two names together
  pub two_named : (n : ℕ) (ms : List Member) (a b : List ℕ) → bytes_eq a b ≡ false →
      named_weight n ms a + named_weight n ms b ≤ weight w (parts_of_members trail l n ms)
  two_named n [] a b unlike = omega arith
  two_named n (m ∷ ms) a b unlike =
      both_or (bytes_eq m.name a) (bytes_eq m.name b) (weight w (parts_of n m)) (named_weight (n + 1) ms a) (named_weight (n + 1) ms b)
      (weight w (parts_of_members trail l (n + 1) ms)) _ (weight_append w (parts_of n m) (parts_of_members trail l (n + 1) ms))
      (two_named (n + 1) ms a b unlike) (one_named (n + 1) ms a) (one_named (n + 1) ms b) (apart_names m.name a b unlike)

  -- a member that a name leads to, with the weight of its parts
  pub record Weighed (n : ℕ) (ms : List Member) (name : List ℕ) (v : Json) : Type 0 where
    pub number : ℕ
    pub shape : ℕ
    pub ruled : shape_in l name ≡ Some shape
    pub stands : Stands trail number shape v
    pub weighs : named_weight n ms name ≡ weight w (parts_in trail number shape v)

  pub weighed : (n : ℕ) (ms : List Member) (name : List ℕ) (v : Json) →
      EachFrom (StandsMember trail l) n ms → member_value ms name ≡ Some v → Weighed n ms name v
  weighed n [] name v each e = absurd cc
  weighed n (m ∷ ms) name v each e = by_name (bytes_eq m.name name) refl e (weighed (n + 1) ms name v each.1)
    where
      by_name : (b : Bool) → bytes_eq m.name name ≡ b →
          option_map (λ (m : Member). m.value) (cond b (Some m) (find (λ (m : Member). bytes_eq m.name name) ms)) ≡ Some v →
          (member_value ms name ≡ Some v → Weighed (n + 1) ms name v) → Weighed n (m ∷ ms) name v
      by_name true same f rest =
          let named : m.name ≡ name = (bytes_eq-Decides m.name name).0 same in
          let valued : m.value ≡ v = cc in
          record {
            number = n;
            shape = each.0.0;
            ruled = ap (shape_in l) (sym named) ∙ each.0.1;
            stands = subst (Stands trail n each.0.0) valued each.0.2;
            weighs = ap (λ b. cond b (weight w (parts_of n m)) (named_weight (n + 1) ms name)) same
                ∙ ap (λ o. weight w (option_map_or (λ shape. parts_in trail n shape m.value) o [])) each.0.1
                ∙ ap (λ x. weight w (parts_in trail n each.0.0 x)) valued;
          }
      by_name false same f rest =
          let found : Weighed (n + 1) ms name v = rest f in
          record {
            number = found.number;
            shape = found.shape;
            ruled = found.ruled;
            stands = found.stands;
            weighs = ap (λ b. cond b (weight w (parts_of n m)) (named_weight (n + 1) ms name)) same ∙ found.weighs;
          }

-- ---- items

more : (here rest here_parts rest_parts whole : ℕ) → whole ≡ here_parts + rest_parts → here ≤ here_parts → rest ≤ rest_parts → here + rest ≤ whole
more here rest here_parts rest_parts whole is a b = omega arith

pub items_weigh : (w : Part → ℕ) (f : Json → ℕ) (trail : Trail) (inner n : ℕ) (items : List Json) →
    EachFrom (λ i v. f v ≤ weight w (parts_in trail i inner v)) n items → total f items ≤ weight w (parts_of_items trail inner n items)
items_weigh w f trail inner n [] each = omega arith
items_weigh w f trail inner n (v ∷ items) each =
    more (f v) (total f items) (weight w (parts_in trail n inner v)) (weight w (parts_of_items trail inner (n + 1) items)) _
    (weight_append w (parts_in trail n inner v) (parts_of_items trail inner (n + 1) items)) each.0 (items_weigh w f trail inner (n + 1) items each.1)

-- ---- marks

-- what rules the marks and the data sets of a mark have
pub record MarkRules (l : Layout) : Type 0 where
  pub marks : (shape_in l (codes "marks") ≡ None) ⊎ (shape_in l (codes "marks") ≡ Some MARKS)
  pub sets : (shape_in l (codes "data") ≡ None) ⊎ (shape_in l (codes "data") ≡ Some DATA_LIST)

module _ (trail : Trail) (ms : List Member) where
  abbrev Ruled : Layout → Type 0
  Ruled l = StandsObject trail l ms → MarkRules l

  of_group : Ruled group_mark
  unfolding group_mark
  of_group s = record { marks = inr refl; sets = inr refl }

  unknown : Ruled no_mark
  unfolding no_mark
  unknown s =
      let v : (v : Json) × (member_value ms (codes "type") ≡ Some v) =
      required trail no_mark ms (codes "type") (must (codes "type") NOTHING) s refl refl refl in
      let stands : (i : ℕ) × Stands trail i NOTHING v.0 = found_as trail no_mark ms (codes "type") v.0 NOTHING s refl v.1 in
      absurd (nothing_stands trail stands.0 v.0 stands.1)

  pub mark_ruled : (l : Layout) → layout_in vega_schema MARK ms ≡ Some l → Ruled l
  unfolding vega_schema group_mark axis legend grid_layout top data_set data_format parse sort extent_signal
      filter formula extent bin time_unit stack fold aggregate join_aggregate window lookup no_transform signal on_event expression_signal
      linear_scale time_scale band_scale point_scale ordinal_scale no_scale domain_of_signal domain_of_field domain_of_fields reference
      sort_by_operation sort_by_cells rect_mark symbol_mark line_mark area_mark rule_mark text_mark mark_from group_from facet cross
      encode no_mark channel_members value words_value size_signal group_encode group_channels size_value
  mark_ruled l e =
      let a : List ℕ → Bool = λ word. list_any (says (codes "type") word) ms in
      one_layout Ruled (a (codes "group")) group_mark l _ e (λ t s. of_group s) (λ e.
      one_layout Ruled (a (codes "rect")) rect_mark l _ e (λ t s. record { marks = inl refl; sets = inl refl }) (λ e.
      one_layout Ruled (a (codes "symbol")) symbol_mark l _ e (λ t s. record { marks = inl refl; sets = inl refl }) (λ e.
      one_layout Ruled (a (codes "line")) line_mark l _ e (λ t s. record { marks = inl refl; sets = inl refl }) (λ e.
      one_layout Ruled (a (codes "area")) area_mark l _ e (λ t s. record { marks = inl refl; sets = inl refl }) (λ e.
      one_layout Ruled (a (codes "rule")) rule_mark l _ e (λ t s. record { marks = inl refl; sets = inl refl }) (λ e.
      one_layout Ruled (a (codes "text")) text_mark l _ e (λ t s. record { marks = inl refl; sets = inl refl }) (λ e.
      last_layout Ruled no_mark l e unknown)))))))

mapped_total : (f : VgMark → ℕ) (items : List Json) → total f (map mark_of items) ≡ total (λ v. f (mark_of v)) items
mapped_total f [] = refl
mapped_total f (v ∷ items) = ap (λ n. f (mark_of v) + n) (mapped_total f items)

below_sum : (t n here rest whole : ℕ) → t ≡ n → whole ≡ here + rest → n ≤ rest → t ≤ whole
below_sum t n here rest whole a b c = omega arith

-- A count of marks is at most the weight of their parts where that of each mark is at most the weight of its own part, of its data sets, and the
-- counts of the marks in it.
module _ (w : Part → ℕ) (f : VgMark → ℕ) (own : List Member → ℕ)
    (heavy : (round : Trail) (number : ℕ) (tree : Json) (ms : List Member) → Stands round number MARK tree → out-Json tree ≡ level.Object ms →
    (l : Layout) → layout_in vega_schema MARK ms ≡ Some l → StandsObject (noted number MARK tree ∷ round) l ms →
    f (mark_with ms (marks_at ms (codes "marks")))
    ≤ weight w (parts_at (noted number MARK tree ∷ round) tree) + own ms + total f (unwrap_or (marks_at ms (codes "marks")) []))
    (owned : (trail : Trail) (l : Layout) (ms : List Member) → StandsObject trail l ms →
    (shape_in l (codes "data") ≡ None) ⊎ (shape_in l (codes "data") ≡ Some DATA_LIST) → own ms ≤ named_weight w trail l 0 ms (codes "data")) where
  abbrev Light : Json → Type 0
  Light tree = (round : Trail) (number : ℕ) → Stands round number MARK tree → f (mark_of tree) ≤ weight w (parts_in round number MARK tree)

  record Deep (tree : Json) : Type 0 where
    here : Light tree
    items : (xs : List Json) → out-Json tree ≡ level.List xs → Each Light xs

  lights : (trail : Trail) (n : ℕ) (items : List Json) → Each Light items → EachFrom (λ i v. Stands trail i MARK v) n items →
      EachFrom (λ i v. f (mark_of v) ≤ weight w (parts_in trail i MARK v)) n items
  lights trail n [] light stand = tt
  lights trail n (v ∷ items) light stand = (light.0 trail n stand.0, lights trail (n + 1) items light.1 stand.1)

  list_weighs : (round : Trail) (number : ℕ) (v : Json) → Stands round number MARKS v → Deep v →
      total f (unwrap_or (marks_in v) []) ≤ weight w (parts_in round number MARKS v)
  list_weighs round number v s deep =
      let form = formed MARKS v s.fine in
      let taken = marks_taken (out-Json v) form.0 form.1 in
      let items : (items : List Json) × (out-Json v ≡ level.List items) = listed (out-Json v) taken.0 in
      let known : taken_form vega_schema MARKS (level.List items.0) ≡ Some form.0 = ap (taken_form vega_schema MARKS) (sym items.1) ∙ form.1 in
      let asks : items_shape form.0 ≡ Some MARK = ap items_shape (sym taken.1) in
      let trail : Trail = noted number MARKS v ∷ round in
      let each : EachFrom (λ i w. Stands trail i MARK w) 0 items.0 = list_stands round number MARKS v items.0 form.0 MARK s items.1 known asks in
      let built : marks_in v ≡ Some (map mark_of items.0) = ap marks_in (list_of v items.0 items.1) ∙ marks_in-List items.0 in
      below_sum (total f (unwrap_or (marks_in v) [])) (total (λ v. f (mark_of v)) items.0)
      (weight w (parts_at trail v)) (weight w (parts_of_items trail MARK 0 items.0)) _
      (ap (λ o. total f (unwrap_or o [])) built ∙ mapped_total f items.0)
      (ap (weight w) (list_parts_are round number MARKS v items.0 form.0 MARK items.1 known asks)
      ∙ weight_append w (parts_at trail v) (parts_of_items trail MARK 0 items.0))
      (items_weigh w (λ v. f (mark_of v)) trail MARK 0 items.0 (lights trail 0 items.0 (deep.items items.0 items.1) each))

  at_most_equal : (t n m : ℕ) → m ≡ n → t ≤ n → t ≤ m
  at_most_equal t n m a b = omega arith

  nothing : (n : ℕ) → 0 ≤ n
  nothing n = omega arith

  marks_weigh : (trail : Trail) (l : Layout) (ms : List Member) → StandsObject trail l ms →
      (shape_in l (codes "marks") ≡ None) ⊎ (shape_in l (codes "marks") ≡ Some MARKS) → Each (λ (m : Member). Deep m.value) ms →
      total f (unwrap_or (marks_at ms (codes "marks")) []) ≤ named_weight w trail l 0 ms (codes "marks")
  marks_weigh trail l ms s ruled deep = by_value (member_value ms (codes "marks")) refl ruled
    where
      by_value : (o : Option Json) → member_value ms (codes "marks") ≡ o → (shape_in l (codes "marks") ≡ None) ⊎ (shape_in l (codes "marks") ≡ Some MARKS) →
          total f (unwrap_or (option_and_then marks_in o) []) ≤ named_weight w trail l 0 ms (codes "marks")
      by_value None e r = nothing _
      by_value (Some v) e (inl none) =
          let x : member_value ms (codes "marks") ≡ None = unruled trail l ms (codes "marks") s none (member_value ms (codes "marks")) refl in
          absurd cc
      by_value (Some v) e (inr marks) =
          let here : Weighed w trail l 0 ms (codes "marks") v = weighed w trail l 0 ms (codes "marks") v s.each e in
          let shape : here.shape ≡ MARKS = let a = here.ruled in cc in
          at_most_equal (total f (unwrap_or (marks_in v) [])) (weight w (parts_in trail here.number MARKS v)) (named_weight w trail l 0 ms (codes "marks"))
          (here.weighs ∙ ap (λ c. weight w (parts_in trail here.number c v)) shape)
          (list_weighs trail here.number v (subst (λ c. Stands trail here.number c v) shape here.stands) (value_of Deep ms (codes "marks") v deep e))

  summed : (t here own sets marks inside members whole : ℕ) → t ≤ here + own + inside →
      own ≤ sets → inside ≤ marks → sets + marks ≤ members → whole ≡ here + members →
      t ≤ whole
  summed t here own sets marks inside members whole a b c d e = omega arith

  mark_weighs : (tree : Json) → Inner Deep tree → Light tree
  mark_weighs tree inner round number s =
      let form = formed MARK tree s.fine in
      let ms : (ms : List Member) × (out-Json tree ≡ level.Object ms) = opened_as MARK (out-Json tree) (mark_taken (out-Json tree) form.0 form.1).0 in
      let l : Laid round number MARK MARK tree ms.0 = laid_out round number MARK MARK tree ms.0 s ms.1 (λ f e. mark_taken (level.Object ms.0) f e) in
      let trail : Trail = noted number MARK tree ∷ round in
      let rules : MarkRules l.layout = mark_ruled trail ms.0 l.layout l.applies l.stands in
      let is : mark_of tree ≡ mark_with ms.0 (marks_at ms.0 (codes "marks")) = ap mark_of (object_of tree ms.0 ms.1) ∙ mark_of-Object ms.0 in
      subst (λ m. f m ≤ weight w (parts_in round number MARK tree)) (sym is)
      (summed (f (mark_with ms.0 (marks_at ms.0 (codes "marks")))) (weight w (parts_at trail tree)) (own ms.0)
      (named_weight w trail l.layout 0 ms.0 (codes "data")) (named_weight w trail l.layout 0 ms.0 (codes "marks"))
      (total f (unwrap_or (marks_at ms.0 (codes "marks")) [])) (weight w (parts_of_members trail l.layout 0 ms.0)) _
      (heavy round number tree ms.0 s ms.1 l.layout l.applies l.stands)
      (owned trail l.layout ms.0 l.stands rules.sets)
      (marks_weigh trail l.layout ms.0 l.stands rules.marks (inner.values ms.0 ms.1))
      (two_named w trail l.layout 0 ms.0 (codes "data") (codes "marks") refl)
      (ap (weight w) l.parts ∙ weight_append w (parts_at trail tree) (parts_of_members trail l.layout 0 ms.0)))

  each_light : (xs : List Json) → Each Deep xs → Each Light xs
  each_light [] each = tt
  each_light (x ∷ xs) each = (each.0.here, each_light xs each.1)

  deep_step : (tree : Json) → Inner Deep tree → Deep tree
  deep_step tree inner = record { here = mark_weighs tree inner; items = λ xs e. each_light xs (inner.items xs e) }

  deep_values : (ms : List Member) → Each (λ (m : Member). Deep m.value) ms
  deep_values [] = tt
  deep_values (m ∷ ms) = (of_each Deep deep_step m.value, deep_values ms)

  all_summed : (own inside sets marks here members whole : ℕ) → own ≤ sets → inside ≤ marks →
      sets + marks ≤ members → whole ≡ here + members → own + inside ≤ whole
  all_summed own inside sets marks here members whole a b c d = omega arith

  -- the counts of an object's data sets and of its marks
  pub object_weighs : (trail : Trail) (l : Layout) (ms : List Member) (here whole : List Part) →
      StandsObject trail l ms → shape_in l (codes "data") ≡ Some DATA_LIST →
      shape_in l (codes "marks") ≡ Some MARKS → whole ≡ here ++ parts_of_members trail l 0 ms →
      own ms + total f (unwrap_or (marks_at ms (codes "marks")) []) ≤ weight w whole
  object_weighs trail l ms here whole s sets marks is =
      all_summed (own ms) (total f (unwrap_or (marks_at ms (codes "marks")) []))
      (named_weight w trail l 0 ms (codes "data")) (named_weight w trail l 0 ms (codes "marks"))
      (weight w here) (weight w (parts_of_members trail l 0 ms)) _ (owned trail l ms s (inr sets)) (marks_weigh trail l ms s (inr marks) (deep_values ms))
      (two_named w trail l 0 ms (codes "data") (codes "marks") refl) (ap (weight w) is ∙ weight_append w here (parts_of_members trail l 0 ms))
