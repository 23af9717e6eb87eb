-- Marks, groups and whole specifications are read back.
use Rattle.std.proofs.Common.{◌≡◌, ℕ, List, [], ◌∷◌, ◌++◌, map, refl, ap, sym, ◌∙◌, cond, subst}
use Rattle.std.specs.Option.{option_map, option_and_then, unwrap_or}
use Rattle.std.specs.Prelude.{Bool, true, false, Option, Some, None, IfSome, codes, if◌then◌else◌, bytes_eq}
use Rattle.json_exact.specs.Path.{member_value}
use Rattle.json_exact.specs.declared.json.Json.{Json, out-Json, Row_of-Json, end_of-Json, more_of-Json, items-the_row-Json}
use Rattle.json_exact.specs.declared.json.Json.{items_hidden-the_row-Json-0, Row_of-Member, end_of-Member, more_of-Member}
use Rattle.json_exact.specs.declared.json.Json.{items-the_row-Member, items_hidden-the_row-Member-1}
use Rattle.json_exact.specs.declared.json.Json.TheBlock.{hidden-the_row-Json-0, hidden-the_row-Member-1}
use Rattle.json_exact.specs.declared.json.Member.{Member}
use Rattle.vega_spec.specs.declared.data.DataSet.{DataSet}
use Rattle.vega_spec.specs.declared.encode.Encode.{Encode}
use Rattle.vega_spec.specs.declared.marks.MarkFrom.{MarkFrom}
use Rattle.vega_spec.specs.declared.marks.MarkType.{MarkType}
use Rattle.vega_spec.specs.declared.orders.Sort.{Sort}
use Rattle.vega_spec.specs.declared.scales.Scale.{Scale}
use Rattle.vega_spec.specs.declared.spec.Group.{Group, Group', Group-F, out-Group, roll-Group, rolls-Group', outs-Group', map-Group}
use Rattle.vega_spec.specs.declared.spec.Group.{fold_out-Group, Held-Group-marks, None', Some', Row_of-VgMark, end_of-VgMark}
use Rattle.vega_spec.specs.declared.spec.Group.{more_of-VgMark, items-the_row-VgMark, items_shown-the_row-VgMark-0, view-Group-marks}
use Rattle.vega_spec.specs.declared.spec.Group.{backs-Group-marks}
use Rattle.vega_spec.specs.declared.spec.Group.TheBlock.{shown-the_row-VgMark-0}
use Rattle.vega_spec.specs.declared.spec.Group.TheShapes.{former-Group-marks}
use Rattle.vega_spec.specs.declared.spec.Size.{Size}
use Rattle.vega_spec.specs.declared.spec.VgMark.{VgMark, VgMark', out-VgMark, roll-VgMark, rolls-VgMark', outs-VgMark', map-VgMark}
use Rattle.vega_spec.specs.declared.spec.VgMark.{fold_out-VgMark}
use Rattle.vega_spec.specs.declared.spec.VgSpec.{VgSpec}
use Rattle.vega_building.specs.Channels.{encode_of}
use Rattle.vega_building.specs.Guides.{axis_of, legend_of, layout_of}
use Rattle.vega_building.specs.Names.{mark_type_named, autosize_named}
use Rattle.vega_building.specs.Orders.{sort_of}
use Rattle.vega_building.specs.Parts.{objects_at}
use Rattle.vega_building.specs.Scales.{scale_of}
use Rattle.vega_building.specs.Signals.{signal_of}
use Rattle.vega_building.specs.Sources.{data_set_of}
use Rattle.vega_building.specs.Spec.{group_with, mark_with, mark_of, marks_in, mark_items, marks_among, marks_at, size_in, spec_with}
use Rattle.vega_building.specs.Spec.{spec_of}
use Rattle.vega_writing.specs.Data.{data_set_tree, data_set_slots}
use Rattle.vega_writing.specs.Encode.{encode_slots}
use Rattle.vega_writing.specs.Guides.{axis_tree, legend_tree, layout_tree, axis_slots, legend_slots, layout_slots}
use Rattle.vega_writing.specs.Marks.{mark_type_tree}
use Rattle.vega_writing.specs.Orders.{sort_slots}
use Rattle.vega_writing.specs.Scales.{scale_tree, scale_slots}
use Rattle.vega_writing.specs.Signals.{signal_tree, signal_slots}
use Rattle.vega_writing.specs.Slots.{object, present}
use Rattle.vega_writing.specs.Spec.{size_tree, autosize_tree, group_slots, mark_tree, group_slots_here, mark_slots, mark_tree_here}
use Rattle.vega_writing.specs.Spec.{own_slots, tree_of}
use Rattle.vega_writing.specs.Trees.{text_tree, list_tree, computed_slots}
use Rattle.vega_writing.specs.declared.slots.Slot.{Slot}
use Rattle.vega_model.proofs.Back.{opened_number, opened_object, members_back, map_back, may_found, may_text, may_number, may_object}
use Rattle.vega_model.proofs.Back.{may_object_always, must_objects, may_objects, may_objects_always, must_named, may_named, each_of}
use Rattle.vega_model.proofs.Back.{some_of}
use Rattle.vega_model.proofs.EncodeBack.{encode_back}
use Rattle.vega_model.proofs.Found.{at_name, found}
use Rattle.vega_model.proofs.GuidesBack.{axis_back, legend_back, layout_back}
use Rattle.vega_model.proofs.Leaves.{computed_back}
use Rattle.vega_model.proofs.MarksBack.{may_mark_from}
use Rattle.vega_model.proofs.OrdersBack.{sort_back}
use Rattle.vega_model.proofs.ScalesBack.{scale_back}
use Rattle.vega_model.proofs.SignalsBack.{signal_back}
use Rattle.vega_model.proofs.SourcesBack.{data_set_back}
use Rattle.vega_model.proofs.Words.{mark_type_reads, autosize_reads}
use Rattle.vega_model.specs.RoundTrip.{asked_codes, asked_readings, HasCodes, HasReadings}
use Rattle.vega_model.specs.Codes.{Each, OfScale, OfEncode, OfDataSet, OfSize, OfGroup, OfMarks, OfEachMark, OfMark}
use Rattle.json_exact.specs.declared.json.Json.TheVariants as json
use Rattle.vega_spec.specs.declared.marks.MarkType.TheVariants as mark
use Rattle.vega_spec.specs.declared.spec.Size.TheVariants as size

-- ---- how marks are built of objects and lists

first_or : (b : Bool) (name : List ℕ) (value : Json) (among : Option (List VgMark)) (rest : Option Member) →
    among ≡ option_and_then marks_in (option_map (λ (m : Member). m.value) rest) →
    (if b then marks_in value else among)
    ≡ option_and_then marks_in (option_map (λ (m : Member). m.value) (cond b (Some (record { name = name; value = value })) rest))
first_or true name value among rest e = refl
first_or false name value among rest e = e

row_of_members : (n : _) (row : Row_of-Member n) → marks_among row ≡ marks_at (items-the_row-Member n row) (codes "marks")
row_of_members n end_of-Member = refl
row_of_members n (more_of-Member name value others) = first_or (bytes_eq name (codes "marks")) name value _ _ (row_of_members _ others)

row_of_items : (n : _) (row : Row_of-Json n) → mark_items row ≡ map mark_of (items-the_row-Json n row)
row_of_items n end_of-Json = refl
row_of_items n (more_of-Json item others) = ap (λ (ms : List VgMark). mark_of item ∷ ms) (row_of_items _ others)

pub mark_of_object : (slots : List Slot) → mark_of (object slots) ≡ mark_with (present slots) (marks_at (present slots) (codes "marks"))
mark_of_object slots =
    let row : marks_among (hidden-the_row-Member-1 (present slots)) ≡ marks_at (present slots) (codes "marks") =
    row_of_members _ (hidden-the_row-Member-1 (present slots))
    ∙ ap (λ ms. marks_at ms (codes "marks")) (items_hidden-the_row-Member-1 (present slots)) in
    λ j. mark_with (members_back slots j) (row j)

pub marks_in_list : (items : List Json) → marks_in (json.List items) ≡ Some (map mark_of items)
marks_in_list items = ap Some (row_of_items _ (hidden-the_row-Json-0 items) ∙ ap (map mark_of) (items_hidden-the_row-Json-0 items))

-- ---- how groups and marks are written

opened_slots : Group → List Slot
opened_slots g = group_slots_here (map-Group Group VgMark (List Slot) Json group_slots mark_tree (out-Group g))

written_slots : (g : Group) → group_slots g ≡ opened_slots g
unfolding opened_slots
written_slots g = fold_out-Group (List Slot) Json group_slots_here mark_tree_here g

written_mark : (m : VgMark) → mark_tree m ≡ mark_tree_here (map-VgMark Group VgMark (List Slot) Json group_slots mark_tree (out-VgMark m))
written_mark m = fold_out-VgMark (List Slot) Json group_slots_here mark_tree_here m

marks_slot : (o : Option (List VgMark)) →
    option_map json.List (former-Group-marks.map VgMark Json mark_tree o) ≡ option_map (list_tree mark_tree) o
marks_slot None = refl
marks_slot (Some marks) = refl

-- what an object has under the names of a group's members
pub record Stands (members : List Member) (g : Group-F Group VgMark) : Type 0 where
  pub data_ : member_value members (codes "data") ≡ option_map (list_tree data_set_tree) g.data_
  pub signals : member_value members (codes "signals") ≡ option_map (list_tree signal_tree) g.signals
  pub scales : member_value members (codes "scales") ≡ option_map (list_tree scale_tree) g.scales
  pub layout : member_value members (codes "layout") ≡ option_map layout_tree g.layout
  pub marks : member_value members (codes "marks") ≡ option_map (list_tree mark_tree) g.marks
  pub axes : member_value members (codes "axes") ≡ option_map (list_tree axis_tree) g.axes
  pub legends : member_value members (codes "legends") ≡ option_map (list_tree legend_tree) g.legends
  pub title : member_value members (codes "title") ≡ option_map text_tree g.title

-- ---- sizes

pub size_reads : (x : Size) → OfSize asked_readings x → size_in (out-Json (size_tree x)) ≡ Some x
unfolding size_tree
size_reads (size.Number number) r = ap size_in (opened_number number)
size_reads (size.Signal e) r = ap size_in (opened_object (computed_slots e)) ∙ ap (option_map size.Signal) (computed_back e r)

-- ---- what is read back of lists of objects

data_sets : (ds : List DataSet) → Each (OfDataSet asked_codes) ds → Each (OfDataSet asked_readings) ds →
    Each (λ d. data_set_of (present (data_set_slots d)) ≡ d) ds
data_sets [] c r = tt
data_sets (d ∷ ds) c r = (data_set_back d c.0 r.0, data_sets ds c.1 r.1)

may_data_sets : (members : List Member) (name : List ℕ) (o : Option (List DataSet)) →
    member_value members name ≡ option_map (list_tree data_set_tree) o → IfSome o (Each (OfDataSet asked_codes)) →
    IfSome o (Each (OfDataSet asked_readings)) →
    objects_at data_set_of members name ≡ o
may_data_sets members name None here c r = may_objects members name data_set_of data_set_slots None here tt
may_data_sets members name (Some ds) here c r = must_objects members name data_set_of data_set_slots ds here (data_sets ds c r)

scales : (ss : List Scale) → Each (OfScale asked_codes) ss → Each (OfScale asked_readings) ss →
    Each (λ s. scale_of (present (scale_slots s)) ≡ s) ss
scales [] c r = tt
scales (s ∷ ss) c r = (scale_back s c.0 r.0, scales ss c.1 r.1)

may_scales : (members : List Member) (name : List ℕ) (o : Option (List Scale)) →
    member_value members name ≡ option_map (list_tree scale_tree) o → IfSome o (Each (OfScale asked_codes)) →
    IfSome o (Each (OfScale asked_readings)) →
    objects_at scale_of members name ≡ o
may_scales members name None here c r = may_objects members name scale_of scale_slots None here tt
may_scales members name (Some ss) here c r = must_objects members name scale_of scale_slots ss here (scales ss c r)

-- ---- marks and groups

module _ (t : MarkType) (n : Option (List ℕ)) (f : Option MarkFrom) (e : Option Encode) (s : Option Sort) (g : Group) where
  mark_here : List Slot
  mark_here = mark_slots (record { type_ = t; name = n; from = f; encode = e; sort = s; group = opened_slots g })

  mark_written : mark_tree (VgMark' t n f e s g) ≡ object mark_here
  unfolding mark_here
  mark_written =
      written_mark (VgMark' t n f e s g)
      ∙ ap (λ x. mark_tree_here (map-VgMark Group VgMark (List Slot) Json group_slots mark_tree x)) (outs-VgMark' t n f e s g)
      ∙ ap (λ slots. object (mark_slots (record { type_ = t; name = n; from = f; encode = e; sort = s; group = slots })))
      (written_slots g)

  mark_stands : Stands (present mark_here) (out-Group g)
  unfolding mark_here mark_slots opened_slots group_slots_here
  mark_stands =
      let at : (name : List ℕ) → member_value (present mark_here) name ≡ at_name mark_here name = λ name. found mark_here name refl in
      record {
        data_ = at (codes "data");
        signals = at (codes "signals");
        scales = at (codes "scales");
        layout = at (codes "layout");
        marks = at (codes "marks") ∙ marks_slot (out-Group g).marks;
        axes = at (codes "axes");
        legends = at (codes "legends");
        title = at (codes "title");
      }

  mark_parts : IfSome e (OfEncode asked_readings) → group_with (present mark_here) (marks_at (present mark_here) (codes "marks")) ≡ g →
      mark_with (present mark_here) (marks_at (present mark_here) (codes "marks"))
      ≡ roll-VgMark (record { type_ = t; name = n; from = f; encode = e; sort = s; group = g })
  unfolding mark_here mark_slots opened_slots group_slots_here
  mark_parts r inside =
      let ms : List Member = present mark_here in
      let at : (name : List ℕ) → member_value ms name ≡ at_name mark_here name = λ name. found mark_here name refl in
      ap roll-VgMark (λ j. record {
        type_ = ap (λ o. unwrap_or o mark.Rect)
            (must_named ms (codes "type") mark_type_named mark_type_tree t (at (codes "type")) (mark_type_reads t)) j;
        name = may_text ms (codes "name") n (at (codes "name")) j;
        from = may_mark_from ms (codes "from") f (at (codes "from")) j;
        encode = may_object ms (codes "encode") encode_of encode_slots e (at (codes "encode")) (some_of encode_back e r) j;
        sort = may_object_always ms (codes "sort") sort_of sort_slots s (at (codes "sort")) sort_back j;
        group = inside j;
      })

mutual
  pub group_back : (g : Group) → OfGroup asked_codes g → OfGroup asked_readings g → (members : List Member) →
      Stands members (out-Group g) →
      group_with members (marks_at members (codes "marks")) ≡ g
  group_back (Group' ds ss sc la marks ax le ti) c r members stands =
      let at = subst (Stands members) (outs-Group' ds ss sc la marks ax le ti) stands in
      ap roll-Group (λ j. record {
        data_ = may_data_sets members (codes "data") ds at.data_ c.0 r.0 j;
        signals = may_objects members (codes "signals") signal_of signal_slots ss at.signals (some_of (each_of signal_back) ss r.1) j;
        scales = may_scales members (codes "scales") sc at.scales c.2 r.2 j;
        layout = may_object_always members (codes "layout") layout_of layout_slots la at.layout layout_back j;
        marks = (ap (option_and_then marks_in) at.marks ∙ held_back marks c.3 r.3) j;
        axes = may_objects_always members (codes "axes") axis_of axis_slots ax at.axes axis_back j;
        legends = may_objects_always members (codes "legends") legend_of legend_slots le at.legends legend_back j;
        title = may_text members (codes "title") ti at.title j;
      })
      ∙ rolls-Group' (record
      { data_ = ds; signals = ss; scales = sc; layout = la; marks = view-Group-marks marks; axes = ax; legends = le; title = ti })
      ∙ ap (λ held. Group' ds ss sc la held ax le ti) (backs-Group-marks marks)

  held_back : (held : Held-Group-marks) → OfMarks asked_codes held → OfMarks asked_readings held →
      option_and_then marks_in (option_map (list_tree mark_tree) (view-Group-marks held)) ≡ view-Group-marks held
  held_back None' c r = refl
  held_back (Some' shape row) c r =
      marks_in_list (map mark_tree (shown-the_row-VgMark-0 shape row))
      ∙ ap Some (map_back mark_of mark_tree (shown-the_row-VgMark-0 shape row)
      (subst (Each (λ m. mark_of (mark_tree m) ≡ m)) (sym (items_shown-the_row-VgMark-0 shape row)) (row_back row c r)))

  row_back : {n : _} (row : Row_of-VgMark n) → OfEachMark asked_codes row → OfEachMark asked_readings row →
      Each (λ m. mark_of (mark_tree m) ≡ m) (items-the_row-VgMark n row)
  row_back end_of-VgMark c r = tt
  row_back (more_of-VgMark m others) c r = (mark_back m c.0 r.0, row_back others c.1 r.1)

  pub mark_back : (m : VgMark) → OfMark asked_codes m → OfMark asked_readings m → mark_of (mark_tree m) ≡ m
  mark_back (VgMark' t n f e s g) c r =
      ap mark_of (mark_written t n f e s g) ∙ mark_of_object (mark_here t n f e s g)
      ∙ mark_parts t n f e s g r.0 (group_back g c.1 r.1 (present (mark_here t n f e s g)) (mark_stands t n f e s g))
      ∙ rolls-VgMark' (record { type_ = t; name = n; from = f; encode = e; sort = s; group = g })

-- ---- the whole

module _ (g : VgSpec) where
  top_here : List Slot
  top_here = opened_slots g.group ++ own_slots g

  top_stands : Stands (present top_here) (out-Group g.group)
  unfolding top_here opened_slots group_slots_here own_slots
  top_stands =
      let at : (name : List ℕ) → member_value (present top_here) name ≡ at_name top_here name = λ name. found top_here name refl in
      record {
        data_ = at (codes "data");
        signals = at (codes "signals");
        scales = at (codes "scales");
        layout = at (codes "layout");
        marks = at (codes "marks") ∙ marks_slot (out-Group g.group).marks;
        axes = at (codes "axes");
        legends = at (codes "legends");
        title = at (codes "title");
      }

  top_parts : HasCodes g → HasReadings g → spec_with (present top_here) ≡ g
  unfolding top_here opened_slots group_slots_here own_slots
  top_parts c r =
      let ms : List Member = present top_here in
      let at : (name : List ℕ) → member_value ms name ≡ at_name top_here name = λ name. found top_here name refl in
      λ j. record {
        group = group_back g.group c.0 r.0 ms top_stands j;
        schema = may_text ms (codes "$schema") g.schema (at (codes "$schema")) j;
        description = may_text ms (codes "description") g.description (at (codes "description")) j;
        width = may_found ms (codes "width") size_in size_tree g.width (at (codes "width")) (some_of size_reads g.width r.1) j;
        height = may_found ms (codes "height") size_in size_tree g.height (at (codes "height")) (some_of size_reads g.height r.2) j;
        padding = may_number ms (codes "padding") g.padding (at (codes "padding")) j;
        autosize = may_named ms (codes "autosize") autosize_named autosize_tree g.autosize (at (codes "autosize")) autosize_reads j;
      }

-- what is built of the tree of a specification is the specification
pub built_again : (g : VgSpec) → HasCodes g → HasReadings g → spec_of (tree_of g) ≡ g
unfolding top_here
built_again g c r =
    ap (λ slots. spec_of (object (slots ++ own_slots g))) (written_slots g.group)
    ∙ ap spec_with (members_back (top_here g)) ∙ top_parts g c r
