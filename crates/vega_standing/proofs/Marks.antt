-- Marks that stand in a specification without faults.
use Rattle.std.proofs.Common.{◌≡◌, ℕ, ◌+◌, suc, List, [], ◌∷◌, map, find, cond, refl, sym, ap, subst, ◌∙◌}
use Rattle.std.specs.Prelude.{Option, Some, None, Bool, true, false, codes, unwrap_or, bytes_eq, IfSome, IsTrue}
use Rattle.std.specs.Option.{option_map, option_and_then, is_some}
use Rattle.std.specs.List.{list_any, All}
use Rattle.json_exact.specs.declared.json.Json.{Json, out-Json}
use Rattle.json_exact.specs.declared.json.Json.TheOpen as level
use Rattle.json_exact.specs.declared.json.Member.{Member}
use Rattle.json_exact.specs.Path.{member_value}
use Rattle.spec_schema.specs.declared.form.Form.{Form}
use Rattle.spec_schema.specs.declared.form.Form.TheVariants as form
use Rattle.spec_schema.specs.declared.layout.Layout.{Layout}
use Rattle.spec_schema.specs.Values.{Opened, object_passes, list_passes, has_length}
use Rattle.spec_schema.specs.Layouts.{shape_in, layout_in, says}
use Rattle.spec_schema.specs.Forms.{taken_form, items_shape}
use Rattle.spec_schema.specs.Tables.{must}
use Rattle.vega_schema.specs.declared.codes.TheConstants.{MARK, MARKS, NOTHING}
use Rattle.vega_schema.specs.Schema.{vega_schema}
use Rattle.vega_schema.specs.Shapes.{leaves, named, lists, objects, MAX_LENGTH}
use Rattle.vega_schema.specs.Guides.{group_mark, axis, legend, grid_layout, top}
use Rattle.vega_schema.specs.Sources.{data_set, data_format, parse, sort, extent_signal}
use Rattle.vega_schema.specs.Transforms.{filter, formula, extent, bin, time_unit, stack, fold}
use Rattle.vega_schema.specs.Groupings.{aggregate, join_aggregate, window, lookup, no_transform}
use Rattle.vega_schema.specs.Signals.{signal, on_event, expression_signal}
use Rattle.vega_schema.specs.Scales.{linear_scale, time_scale, band_scale, point_scale, ordinal_scale, no_scale}
use Rattle.vega_schema.specs.Domains.{domain_of_signal, domain_of_field, domain_of_fields, reference, sort_by_operation, sort_by_cells}
use Rattle.vega_schema.specs.PlainMarks.{rect_mark, symbol_mark, line_mark, area_mark, rule_mark, text_mark}
use Rattle.vega_schema.specs.Marks.{mark_from, group_from, facet, cross, encode, no_mark}
use Rattle.vega_schema.specs.Channels.{channel_members, value, words_value}
use Rattle.vega_schema.specs.Sizes.{size_signal, group_encode, group_channels, size_value}
use Rattle.vega_parts.specs.Trails.{Trail, noted}
use Rattle.vega_spec.specs.declared.marks.MarkType.{MarkType}
use Rattle.vega_spec.specs.declared.marks.MarkType.TheVariants as mark
use Rattle.vega_spec.specs.declared.spec.Group.{Group, Group-F, out-Group, out-roll-Group}
use Rattle.vega_spec.specs.declared.spec.VgMark.{VgMark, VgMark-F, out-VgMark, out-roll-VgMark}
use Rattle.vega_building.specs.Parts.{text_at, object_at, objects_at}
use Rattle.vega_building.specs.Names.{mark_type_named, needed_mark_type}
use Rattle.vega_building.specs.Orders.{sort_of}
use Rattle.vega_building.specs.Sources.{data_set_of}
use Rattle.vega_building.specs.Signals.{signal_of}
use Rattle.vega_building.specs.Scales.{scale_of}
use Rattle.vega_building.specs.Channels.{encode_of}
use Rattle.vega_building.specs.Marks.{mark_from_at}
use Rattle.vega_building.specs.Guides.{axis_of, legend_of, layout_of}
use Rattle.vega_building.specs.Spec.{group_with, mark_with, mark_of, marks_in, marks_at}
use Rattle.vega_building.proofs.Nested.{marks_in-List, mark_of-Object}
use Rattle.fixed_num.specs.Ranges.{◌>>=◌}
use Rattle.vega_spec.specs.declared.guides.Layout.{Layout as Grid}
use Rattle.vega_spec.specs.declared.scales.Scale.{Scale as VegaScale}
use Rattle.vega_lists.specs.Transforms.{is_kept, OfTransforms}
use Rattle.vega_scales.specs.Scales.{is_domain_built, KeepsBounds}
use Rattle.vega_scales.specs.Scales as scaling
use Rattle.vega_guides.specs.Shown.{IsCount, IsAxis}
use Rattle.vega_copies.specs.Outlines.{Object, Marks, NoMarks, AMark, AGroup, numbered, count_marks, count_groups, object_here}
use Rattle.vega_copies.specs.inner.Kept.{KeepsObject, KeepsMarks}
use Rattle.vega_copies.specs.inner.Outlined.{is_group_type, before_of, marks_of, group_object}
use Rattle.vega_copies.specs.inner.Outlined as outlined
use Rattle.vega_copies.proofs.OutlineLemmas.{plain_first, group_first}
use Rattle.vega_standing.proofs.Trees.{Each, Inner, of_each, list_of, object_of}
use Rattle.vega_standing.proofs.Stands.{EachFrom, Stands, StandsObject, formed, list_stands}
use Rattle.vega_standing.proofs.Shapes.{if_taken, form_taken}
use Rattle.vega_standing.proofs.Members.{Laid, laid_out, opened_as, found_as, required, says_is}
use Rattle.vega_standing.proofs.Scales.{nothing_stands}
use Rattle.vega_standing.proofs.Transforms.{one_layout, last_layout}
use Rattle.vega_standing.proofs.Objects.{BuiltOf, object_keeps}

-- ---- what a mark and a group are built of

-- the members of a group
abbrev pub group_parts : List Member → Option (List VgMark) → Group-F Group VgMark
group_parts ms marks = record {
  data_ = objects_at data_set_of ms (codes "data");
  signals = objects_at signal_of ms (codes "signals");
  scales = objects_at scale_of ms (codes "scales");
  layout = object_at layout_of ms (codes "layout");
  marks = marks;
  axes = objects_at axis_of ms (codes "axes");
  legends = objects_at legend_of ms (codes "legends");
  title = text_at ms (codes "title");
}

pub group_opened : (ms : List Member) (marks : Option (List VgMark)) → out-Group (group_with ms marks) ≡ group_parts ms marks
group_opened ms marks = out-roll-Group (group_parts ms marks)

abbrev mark_parts : List Member → Option (List VgMark) → VgMark-F Group VgMark
mark_parts ms marks = record {
  type_ = needed_mark_type ms (codes "type");
  name = text_at ms (codes "name");
  from = mark_from_at ms (codes "from");
  encode = object_at encode_of ms (codes "encode");
  sort = object_at sort_of ms (codes "sort");
  group = group_with ms marks;
}

pub mark_opened : (ms : List Member) (marks : Option (List VgMark)) → out-VgMark (mark_with ms marks) ≡ mark_parts ms marks
mark_opened ms marks = out-roll-VgMark (mark_parts ms marks)

pub built_of : (ms : List Member) (marks : Option (List VgMark)) (g : Group-F Group VgMark) → g ≡ group_parts ms marks → BuiltOf g ms
built_of ms marks g is = record {
  sets = λ i. (is i).data_;
  scales = λ i. (is i).scales;
  axes = λ i. (is i).axes;
  grid = λ i. (is i).layout;
}

-- ---- lists of marks

abbrev KeepsMark : Json → Type 0
KeepsMark tree = (round : Trail) (number : ℕ) → Stands round number MARK tree →
    (others : Marks) → KeepsMarks others → KeepsMarks (before_of (mark_of tree) others)

row_keeps : (trail : Trail) (n : ℕ) (items : List Json) → Each KeepsMark items → EachFrom (λ i v. Stands trail i MARK v) n items →
    KeepsMarks (marks_of (map mark_of items))
row_keeps trail n [] keep stand = tt
row_keeps trail n (item ∷ items) keep stand =
    keep.0 trail n stand.0 (marks_of (map mark_of items)) (row_keeps trail (n + 1) items keep.1 stand.1)

-- what is shown of each tree: it keeps what charts ask where it is a mark, and so do its items
record Deep (tree : Json) : Type 0 where
  here : KeepsMark tree
  items : (xs : List Json) → out-Json tree ≡ level.List xs → Each KeepsMark xs

pub marks_taken : (o : Opened) (f : Form) → taken_form vega_schema MARKS o ≡ Some f →
    (list_passes (has_length 0 MAX_LENGTH) o ≡ true) × (form.List 0 MAX_LENGTH MARK ≡ f)
unfolding vega_schema leaves named lists objects
marks_taken o f e = (if_taken (list_passes (has_length 0 MAX_LENGTH) o) _ f e, form_taken (list_passes (has_length 0 MAX_LENGTH) o) _ f e)

pub listed : (o : Opened) → list_passes (has_length 0 MAX_LENGTH) o ≡ true → (items : List Json) × (o ≡ level.List items)
listed level.Null e = absurd cc
listed (level.Flag b) e = absurd cc
listed (level.Number n) e = absurd cc
listed level.Huge e = absurd cc
listed (level.Text t) e = absurd cc
listed (level.List items) e = (items, refl)
listed (level.Object ms) e = absurd cc

-- the marks of a list
list_keeps : (round : Trail) (number : ℕ) (v : Json) → Stands round number MARKS v → Deep v → KeepsMarks (marks_of (unwrap_or (marks_in v) []))
list_keeps round number v s deep =
    let form = formed MARKS v s.fine in
    let taken = marks_taken (out-Json v) form.0 form.1 in
    let items : (items : List Json) × (out-Json v ≡ level.List items) = listed (out-Json v) taken.0 in
    let each : EachFrom (λ i w. Stands (noted number MARKS v ∷ round) i MARK w) 0 items.0 =
    list_stands round number MARKS v items.0 form.0 MARK s items.1 (ap (taken_form vega_schema MARKS) (sym items.1) ∙ form.1) (ap items_shape (sym taken.1)) in
    let built : marks_in v ≡ Some (map mark_of items.0) = ap marks_in (list_of v items.0 items.1) ∙ marks_in-List items.0 in
    subst (λ o. KeepsMarks (marks_of (unwrap_or o []))) (sym built) (row_keeps (noted number MARKS v ∷ round) 0 items.0 (deep.items items.0 items.1) each)

pub value_of : (P : Json → Type 0) (ms : List Member) (name : List ℕ) (v : Json) → Each (λ (m : Member). P m.value) ms → member_value ms name ≡ Some v → P v
value_of P [] name v each e = absurd cc
value_of P (m ∷ ms) name v each e = by_name (bytes_eq m.name name) e (value_of P ms name v each.1)
  where
    by_name : (b : Bool) → option_map (λ (m : Member). m.value) (cond b (Some m) (find (λ (m : Member). bytes_eq m.name name) ms)) ≡ Some v →
        (member_value ms name ≡ Some v → P v) → P v
    by_name true e rest = let same : m.value ≡ v = cc in subst P same each.0
    by_name false e rest = rest e

-- the marks of an object
marks_keep : (trail : Trail) (l : Layout) (ms : List Member) → StandsObject trail l ms → shape_in l (codes "marks") ≡ Some MARKS →
    Each (λ (m : Member). Deep m.value) ms → KeepsMarks (marks_of (unwrap_or (marks_at ms (codes "marks")) []))
marks_keep trail l ms s ruled deep = by_value (member_value ms (codes "marks")) refl
  where
    by_value : (o : Option Json) → member_value ms (codes "marks") ≡ o → KeepsMarks (marks_of (unwrap_or (option_and_then marks_in o) []))
    by_value None e = tt
    by_value (Some v) e =
        let here : (i : ℕ) × Stands trail i MARKS v = found_as trail l ms (codes "marks") v MARKS s ruled e in
        list_keeps trail here.0 v here.1 (value_of Deep ms (codes "marks") v deep e)

-- ---- one mark

placed : (g : Group-F Group VgMark) (number : ℕ) (o : Object) → KeepsObject (object_here g) →
    o.sets ≡ (object_here g).sets → o.scales ≡ (object_here g).scales →
    o.axes ≡ (object_here g).axes → o.layout ≡ (object_here g).layout → KeepsObject o
placed g number o k sets scales axes grid = record {
  sets = subst (λ x. All (OfTransforms is_kept) x) (sym sets) k.sets;
  scales = subst (λ x. All (λ s. IsTrue (scaling.is_built s)) x) (sym scales) k.scales;
  domains = subst (λ x. All (λ (s : VegaScale). IsTrue (is_domain_built s.domain)) x) (sym scales) k.domains;
  bounds = subst (λ x. All KeepsBounds x) (sym scales) k.bounds;
  axes = subst (λ x. All IsAxis x) (sym axes) k.axes;
  columns = subst (λ (g : Option Grid). IfSome (g >>= λ (l : Grid). l.columns) IsCount) (sym grid) k.columns;
}

module _ (trail : Trail) (ms : List Member) (others : Marks) (kept : KeepsMarks others) (deep : Each (λ (m : Member). Deep m.value) ms) where
  abbrev own : VgMark
  own = mark_with ms (marks_at ms (codes "marks"))

  abbrev Keeps : Layout → Type 0
  Keeps l = StandsObject trail l ms → KeepsMarks (before_of own others)

  typed : (word : List ℕ) (type : MarkType) (l : Layout) → StandsObject trail l ms → list_any (says (codes "type") word) ms ≡ true →
      mark_type_named word ≡ Some type → (out-VgMark own).type_ ≡ type
  typed word type l s e is =
      ap (λ (m : VgMark-F Group VgMark). m.type_) (mark_opened ms (marks_at ms (codes "marks")))
      ∙ ap (λ o. unwrap_or (option_and_then mark_type_named o) mark.Rect) (says_is ms (codes "type") word s.own e)
      ∙ ap (λ o. unwrap_or o mark.Rect) is

  plain : (word : List ℕ) (type : MarkType) (l : Layout) → mark_type_named word ≡ Some type → is_group_type type ≡ false →
      list_any (says (codes "type") word) ms ≡ true → Keeps l
  plain word type l is other e s =
      subst KeepsMarks (sym (plain_first own others (ap is_group_type (typed word type l s e is) ∙ other))) kept

  group : list_any (says (codes "type") (codes "group")) ms ≡ true → Keeps group_mark
  unfolding group_mark
  group e s =
      let is : out-Group (out-VgMark own).group ≡ group_parts ms (marks_at ms (codes "marks")) =
      ap (λ (m : VgMark-F Group VgMark). out-Group m.group) (mark_opened ms (marks_at ms (codes "marks"))) ∙ group_opened ms (marks_at ms (codes "marks")) in
      let here : KeepsObject (object_here (out-Group (out-VgMark own).group)) =
      object_keeps trail group_mark ms (out-Group (out-VgMark own).group) s
      (record { sets = refl; scales = refl; axes = refl; grid = refl }) (built_of ms (marks_at ms (codes "marks")) _ is) in
      let object : KeepsObject (group_object 0 (out-VgMark own)) =
      placed (out-Group (out-VgMark own).group) 0 (group_object 0 (out-VgMark own)) here refl refl refl refl in
      let within : KeepsMarks (marks_of (outlined.marks_in (out-Group (out-VgMark own).group))) =
      subst (λ (g : Group-F Group VgMark). KeepsMarks (marks_of (unwrap_or g.marks []))) (sym is) (marks_keep trail group_mark ms s refl deep) in
      subst KeepsMarks (sym (group_first own others (ap is_group_type (typed (codes "group") mark.Group group_mark s e refl)))) (object, within, kept)

  unknown : Keeps no_mark
  unfolding no_mark
  unknown s =
      let v : (v : Json) × (member_value ms (codes "type") ≡ Some v) =
      required trail no_mark ms (codes "type") (must (codes "type") NOTHING) s refl refl refl in
      let stands : (i : ℕ) × Stands trail i NOTHING v.0 = found_as trail no_mark ms (codes "type") v.0 NOTHING s refl v.1 in
      absurd (nothing_stands trail stands.0 v.0 stands.1)

  by_mark : (l : Layout) → layout_in vega_schema MARK ms ≡ Some l → Keeps l
  unfolding vega_schema group_mark axis legend grid_layout top data_set data_format parse sort extent_signal
      filter formula extent bin time_unit stack fold aggregate join_aggregate window lookup no_transform signal on_event expression_signal
      linear_scale time_scale band_scale point_scale ordinal_scale no_scale domain_of_signal domain_of_field domain_of_fields reference
      sort_by_operation sort_by_cells rect_mark symbol_mark line_mark area_mark rule_mark text_mark mark_from group_from facet cross
      encode no_mark channel_members value words_value size_signal group_encode group_channels size_value
  by_mark l e =
      let a : List ℕ → Bool = λ word. list_any (says (codes "type") word) ms in
      one_layout Keeps (a (codes "group")) group_mark l _ e group (λ e.
      one_layout Keeps (a (codes "rect")) rect_mark l _ e (plain (codes "rect") mark.Rect rect_mark refl refl) (λ e.
      one_layout Keeps (a (codes "symbol")) symbol_mark l _ e (plain (codes "symbol") mark.Symbol symbol_mark refl refl) (λ e.
      one_layout Keeps (a (codes "line")) line_mark l _ e (plain (codes "line") mark.Line line_mark refl refl) (λ e.
      one_layout Keeps (a (codes "area")) area_mark l _ e (plain (codes "area") mark.Area area_mark refl refl) (λ e.
      one_layout Keeps (a (codes "rule")) rule_mark l _ e (plain (codes "rule") mark.Rule rule_mark refl refl) (λ e.
      one_layout Keeps (a (codes "text")) text_mark l _ e (plain (codes "text") mark.Text text_mark refl refl) (λ e.
      last_layout Keeps no_mark l e unknown)))))))

pub mark_taken : (o : Opened) (f : Form) → taken_form vega_schema MARK o ≡ Some f →
    (object_passes (λ members. is_some (layout_in vega_schema MARK members)) o ≡ true) × (form.Object MARK ≡ f)
unfolding vega_schema leaves named lists objects
mark_taken o f e = (
  if_taken (object_passes (λ members. is_some (layout_in vega_schema MARK members)) o) _ f e,
  form_taken (object_passes (λ members. is_some (layout_in vega_schema MARK members)) o) _ f e,
)

mark_keeps : (tree : Json) → Inner Deep tree → KeepsMark tree
mark_keeps tree inner round number s others kept =
    let form = formed MARK tree s.fine in
    let ms : (ms : List Member) × (out-Json tree ≡ level.Object ms) = opened_as MARK (out-Json tree) (mark_taken (out-Json tree) form.0 form.1).0 in
    let l : Laid round number MARK MARK tree ms.0 = laid_out round number MARK MARK tree ms.0 s ms.1 (λ f e. mark_taken (level.Object ms.0) f e) in
    let is : mark_of tree ≡ mark_with ms.0 (marks_at ms.0 (codes "marks")) = ap mark_of (object_of tree ms.0 ms.1) ∙ mark_of-Object ms.0 in
    subst (λ m. KeepsMarks (before_of m others)) (sym is)
    (by_mark (noted number MARK tree ∷ round) ms.0 others kept (inner.values ms.0 ms.1) l.layout l.applies l.stands)

each_here : (xs : List Json) → Each Deep xs → Each KeepsMark xs
each_here [] each = tt
each_here (x ∷ xs) each = (each.0.here, each_here xs each.1)

deep_step : (tree : Json) → Inner Deep tree → Deep tree
deep_step tree inner = record { here = mark_keeps tree inner; items = λ xs e. each_here xs (inner.items xs e) }

deep : (tree : Json) → Deep tree
deep = of_each Deep deep_step

deep_values : (ms : List Member) → Each (λ (m : Member). Deep m.value) ms
deep_values [] = tt
deep_values (m ∷ ms) = (deep m.value, deep_values ms)

-- the marks of an object that stands in a specification without faults keep what charts ask
pub marks_kept : (trail : Trail) (l : Layout) (ms : List Member) → StandsObject trail l ms → shape_in l (codes "marks") ≡ Some MARKS →
    KeepsMarks (marks_of (unwrap_or (marks_at ms (codes "marks")) []))
marks_kept trail l ms s ruled = marks_keep trail l ms s ruled (deep_values ms)

-- numbers change nothing
pub numbered_keeps : (unit number : ℕ) (marks : Marks) → KeepsMarks marks → KeepsMarks (numbered unit number marks)
numbered_keeps unit number NoMarks k = tt
numbered_keeps unit number (AMark old m others) k = numbered_keeps (suc unit) number others k
numbered_keeps unit number (AGroup o inside others) k = (
  record { sets = k.0.sets; scales = k.0.scales; domains = k.0.domains; bounds = k.0.bounds; axes = k.0.axes; columns = k.0.columns },
  numbered_keeps unit (suc number) inside k.1,
  numbered_keeps (unit + count_marks inside) (suc number + count_groups inside) others k.2,
)
