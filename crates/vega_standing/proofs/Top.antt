-- The whole of a specification without faults.
use Rattle.std.proofs.Common.{◌≡◌, ◌≢◌, ℕ, suc, ◌+◌, ◌<◌, ◌≤◌, ◌^◌, List, [], ◌∷◌, ◌++◌, refl, sym, ap, subst, ◌∙◌, arith}
use Rattle.std.specs.Prelude.{Option, Some, None, Bool, true, false, codes, unwrap_or, ◌*◌, ◌≤ℤ◌, pos, if◌then◌else◌}
use Rattle.fixed_num.specs.Number.{million}
use Rattle.std.specs.Option.{is_some}
use Rattle.std.specs.List.{AllPairs}
use Rattle.json_exact.specs.declared.json.Json.{Json, out-Json}
use Rattle.json_exact.specs.declared.json.Json.TheOpen as level
use Rattle.json_exact.specs.declared.json.Member.{Member}
use Rattle.json_exact.specs.Inside.{members_in}
use Rattle.spec_schema.specs.declared.fault.Fault.{Fault}
use Rattle.spec_schema.specs.declared.form.Form.{Form}
use Rattle.spec_schema.specs.declared.form.Form.TheVariants as form
use Rattle.spec_schema.specs.Values.{Opened, object_passes}
use Rattle.spec_schema.specs.Layouts.{layout_in}
use Rattle.spec_schema.specs.Forms.{taken_form}
use Rattle.spec_schema.specs.Faults.{faults_in, first}
use Rattle.spec_schema.specs.Order.{earlier, is_before}
use Rattle.vega_schema.specs.declared.codes.TheConstants.{TOP}
use Rattle.vega_schema.specs.Schema.{vega_schema}
use Rattle.vega_schema.specs.Shapes.{leaves, named, lists, objects}
use Rattle.vega_schema.specs.Guides.{group_mark, axis, legend, grid_layout, top}
use Rattle.vega_schema.specs.Sources.{data_set, data_format, parse, sort, extent_signal}
use Rattle.vega_schema.specs.Transforms.{filter, formula, extent, bin, time_unit, stack, fold}
use Rattle.vega_schema.specs.Groupings.{aggregate, join_aggregate, window, lookup, no_transform}
use Rattle.vega_schema.specs.Signals.{signal, on_event, expression_signal}
use Rattle.vega_schema.specs.Scales.{linear_scale, time_scale, band_scale, point_scale, ordinal_scale, no_scale}
use Rattle.vega_schema.specs.Domains.{domain_of_signal, domain_of_field, domain_of_fields, reference, sort_by_operation, sort_by_cells}
use Rattle.vega_schema.specs.PlainMarks.{rect_mark, symbol_mark, line_mark, area_mark, rule_mark, text_mark}
use Rattle.vega_schema.specs.Marks.{mark_from, group_from, facet, cross, encode, no_mark}
use Rattle.vega_schema.specs.Channels.{channel_members, value, words_value}
use Rattle.vega_schema.specs.Sizes.{size_signal, group_encode, group_channels, size_value}
use Rattle.vega_parts.specs.declared.part.Part.{Part}
use Rattle.vega_parts.specs.Trails.{Trail, noted}
use Rattle.vega_parts.specs.Parts.{parts_of, parts_at}
use Rattle.vega_rules.specs.declared.fault.PlacedFault.{PlacedFault}
use Rattle.vega_rules.specs.Faults.{sooner, earliest}
use Rattle.vega_rules.specs.Twice.{twice}
use Rattle.vega_rules.specs.Unknown.{unknown}
use Rattle.vega_rules.specs.Sized.{sized}
use Rattle.vega_rules.specs.Below.{below}
use Rattle.vega_rules.specs.Limits.{limits}
use Rattle.vega_rules.specs.Folds.{folds}
use Rattle.vega_rules.specs.Intervals.{intervals}
use Rattle.vega_rules.specs.Rules.{shown, rule_faults}
use Rattle.vega_rules.specs.Cycles.{first_cycle}
use Rattle.vega_model.specs.Faults.{fault_by_members, fault_by_rules, with_path, judged, gathered, first_fault_of}
use Rattle.vega_spec.specs.declared.spec.VgSpec.{VgSpec}
use Rattle.vega_spec.specs.declared.spec.Group.{Group, Group-F, out-Group}
use Rattle.vega_spec.specs.declared.spec.VgMark.{VgMark}
use Rattle.vega_building.specs.Parts.{members_of}
use Rattle.vega_building.specs.Spec.{spec_of, spec_with, group_with, marks_at}
use Rattle.vega_spec.specs.Names.{sources_of, sources_in}
use Rattle.vega_lists.specs.Products.{no_folds, products_after, FoldsFit}
use Rattle.vega_copies.specs.Outlines.{object_here, outline_of, opened, numbered, Marks, NoMarks, AMark, AGroup, count_marks, count_groups}
use Rattle.vega_copies.specs.inner.Kept.{KeepsObject, KeepsMarks, FoldsFitIn, IsSizeKept, KeepsAll}
use Rattle.vega_copies.proofs.PassLaw.{object_passes as kept_passes, marks_pass, sizes_pass}
use Rattle.vega_copies.specs.inner.Outlined.{marks_of}
use Rattle.vega_copies.proofs.OutlineLemmas.{opened_object, opened_marks}
use Rattle.vega_standing.specs.OwnNames.{HasOwnNames}
use Rattle.vega_standing.specs.Laws.{KeepsObjects, HasFewGroups}
use Rattle.vega_standing.proofs.Stands.{Stands, StandsObject, formed, parts_of_members}
use Rattle.vega_standing.proofs.Shapes.{if_taken, form_taken}
use Rattle.vega_standing.proofs.Members.{Laid, laid_out, opened_as}
use Rattle.vega_standing.proofs.Objects.{object_keeps, size_kept, space_kept}
use Rattle.vega_standing.proofs.Counts.{few_marks}
use Rattle.vega_standing.proofs.Sources.{sources_weigh, at_most_once, apart}
use Rattle.vega_standing.proofs.Marks.{group_parts, group_opened, built_of, marks_kept, numbered_keeps}

-- ---- no fault

-- no rule finds a fault in some parts
pub record BreakNone (parts : List Part) : Type 0 where
  pub shown : shown parts ≡ []
  pub twice : twice parts ≡ []
  pub unknown : unknown parts ≡ []
  pub limits : limits parts ≡ []
  pub folds : folds parts ≡ []

none_of : {X : Type 0} (xs ys : List X) → xs ++ ys ≡ [] → (xs ≡ []) × (ys ≡ [])
none_of [] ys e = (refl, e)
none_of (x ∷ xs) ys e = absurd cc

none_first : (xs : List Fault) → first xs ≡ None → xs ≡ []
none_first [] e = refl
none_first (x ∷ xs) e = absurd cc

earlier_some : (b : Bool) (x y : Fault) → (if b then Some y else Some x) ≡ None → ⊥
earlier_some true x y e = cc
earlier_some false x y e = cc

pub none_earlier : (a b : Option Fault) → earlier a b ≡ None → (a ≡ None) × (b ≡ None)
none_earlier None b e = (refl, e)
none_earlier (Some x) None e = absurd cc
none_earlier (Some x) (Some y) e = absurd (earlier_some (is_before y.place x.place) x y e)

pub none_placed : (tree : Json) (o : Option PlacedFault) → with_path tree o ≡ None → o ≡ None
none_placed tree None e = refl
none_placed tree (Some f) e = absurd cc

sooner_some : (b : Bool) (x y : PlacedFault) → (if b then Some y else Some x) ≡ None → ⊥
sooner_some true x y e = cc
sooner_some false x y e = cc

pub none_sooner : (a b : Option PlacedFault) → sooner a b ≡ None → (a ≡ None) × (b ≡ None)
none_sooner None b e = (refl, e)
none_sooner (Some x) None e = absurd cc
none_sooner (Some x) (Some y) e = absurd (sooner_some (is_before y.place x.place) x y e)

none_earliest : (xs : List PlacedFault) → earliest xs ≡ None → xs ≡ []
none_earliest [] e = refl
none_earliest (x ∷ xs) e =
    let both : (Some x ≡ None) × (earliest xs ≡ None) = none_sooner (Some x) (earliest xs) e in
    absurd (let f = both.0 in cc)

break_none : (parts : List Part) → rule_faults parts ≡ [] → BreakNone parts
break_none parts e =
    let a = none_of (shown parts ++ twice parts ++ unknown parts ++ sized parts ++ below parts ++ limits parts ++ folds parts) (intervals parts) e in
    let b = none_of (shown parts ++ twice parts ++ unknown parts ++ sized parts ++ below parts ++ limits parts) (folds parts) a.0 in
    let c = none_of (shown parts ++ twice parts ++ unknown parts ++ sized parts ++ below parts) (limits parts) b.0 in
    let d = none_of (shown parts ++ twice parts ++ unknown parts ++ sized parts) (below parts) c.0 in
    let f = none_of (shown parts ++ twice parts ++ unknown parts) (sized parts) d.0 in
    let g = none_of (shown parts ++ twice parts) (unknown parts) f.0 in
    let h = none_of (shown parts) (twice parts) g.0 in
    record { shown = h.0; twice = h.1; unknown = g.1; limits = c.1; folds = b.1 }

-- a tree without fault has none by the table of members, and no rule finds one in its parts
pub no_fault : (tree : Json) → first_fault_of tree ≡ None → (faults_in vega_schema tree TOP ≡ []) × BreakNone (parts_of tree)
unfolding first_fault_of fault_by_members judged gathered
no_fault tree e =
    let both : (fault_by_members tree ≡ None) × (fault_by_rules tree ≡ None) = none_earlier (fault_by_members tree) (fault_by_rules tree) e in
    let judged_none : judged (gathered tree) ≡ None = none_placed tree (judged (gathered tree)) both.1 in
    let rules = none_sooner (earliest (rule_faults (parts_of tree))) (first_cycle (parts_of tree)) judged_none in
    (none_first (faults_in vega_schema tree TOP) both.0, break_none (parts_of tree) (none_earliest (rule_faults (parts_of tree)) rules.0))

-- what the objects of a specification keep, in the words of the crates that ask for it
pub record ObjectsKeep (g : VgSpec) : Type 0 where
  pub top : KeepsObject (outline_of g).object
  pub marks : KeepsMarks (outline_of g).marks
  pub width : IsSizeKept g.width
  pub height : IsSizeKept g.height
  pub padding_low : pos 0 ≤ℤ unwrap_or g.padding (pos 0)
  pub padding_high : unwrap_or g.padding (pos 0) ≤ℤ pos (1000 * million)

-- the same of its folds
pub record FoldsKeep (g : VgSpec) : Type 0 where
  pub folds : FoldsFit no_folds (outline_of g).object.sets
  pub folds_inside : FoldsFitIn (products_after no_folds (outline_of g).object.sets) (outline_of g).marks

-- ---- the top

pub top_taken : (o : Opened) (f : Form) → taken_form vega_schema TOP o ≡ Some f →
    (object_passes (λ members. is_some (layout_in vega_schema TOP members)) o ≡ true) × (form.Object TOP ≡ f)
unfolding vega_schema leaves named lists objects
top_taken o f e = (
  if_taken (object_passes (λ members. is_some (layout_in vega_schema TOP members)) o) _ f e,
  form_taken (object_passes (λ members. is_some (layout_in vega_schema TOP members)) o) _ f e,
)

pub top_layout : (ms : List Member) → layout_in vega_schema TOP ms ≡ Some top
unfolding vega_schema group_mark axis legend grid_layout top data_set data_format parse sort extent_signal
    filter formula extent bin time_unit stack fold aggregate join_aggregate window lookup no_transform signal on_event expression_signal
    linear_scale time_scale band_scale point_scale ordinal_scale no_scale domain_of_signal domain_of_field domain_of_fields reference
    sort_by_operation sort_by_cells rect_mark symbol_mark line_mark area_mark rule_mark text_mark mark_from group_from facet cross
    encode no_mark channel_members value words_value size_signal group_encode group_channels size_value
top_layout ms = refl

-- the top is an object that stands in the specification, and so does all in it
pub record IsTop (tree : Json) : Type 0 where
  pub stands : Stands [] 0 TOP tree
  pub members : List Member
  pub opened : out-Json tree ≡ level.Object members
  pub object : StandsObject (noted 0 TOP tree ∷ []) top members
  pub rules : BreakNone (parts_of tree)
  pub parts : parts_of tree ≡ parts_at (noted 0 TOP tree ∷ []) tree ++ parts_of_members (noted 0 TOP tree ∷ []) top 0 members

pub the_top : (tree : Json) → HasOwnNames tree → first_fault_of tree ≡ None → IsTop tree
the_top tree own e =
    let both : (faults_in vega_schema tree TOP ≡ []) × BreakNone (parts_of tree) = no_fault tree e in
    let s : Stands [] 0 TOP tree = record { fine = both.0; quiet = both.1.shown; own = own } in
    let form = formed TOP tree s.fine in
    let ms : (ms : List Member) × (out-Json tree ≡ level.Object ms) = opened_as TOP (out-Json tree) (top_taken (out-Json tree) form.0 form.1).0 in
    let l : Laid [] 0 TOP TOP tree ms.0 = laid_out [] 0 TOP TOP tree ms.0 s ms.1 (λ f e. top_taken (level.Object ms.0) f e) in
    let is : l.layout ≡ top = let a = l.applies in let b = top_layout ms.0 in cc in
    record {
      stands = s;
      members = ms.0;
      opened = ms.1;
      object = subst (λ x. StandsObject (noted 0 TOP tree ∷ []) x ms.0) is l.stands;
      rules = both.1;
      parts = l.parts ∙ ap (λ x. parts_at (noted 0 TOP tree ∷ []) tree ++ parts_of_members (noted 0 TOP tree ∷ []) x 0 ms.0) is;
    }

top_members : (trail : Trail) (ms : List Member) → StandsObject trail top ms → ObjectsKeep (spec_with ms)
unfolding top
top_members trail ms s =
    let g : VgSpec = spec_with ms in
    let is : out-Group g.group ≡ group_parts ms (marks_at ms (codes "marks")) = group_opened ms (marks_at ms (codes "marks")) in
    let here : KeepsObject (object_here (out-Group g.group)) =
    object_keeps trail top ms (out-Group g.group) s (record { sets = refl; scales = refl; axes = refl; grid = refl })
    (built_of ms (marks_at ms (codes "marks")) _ is) in
    let within : KeepsMarks (marks_of (unwrap_or (out-Group g.group).marks [])) =
    subst (λ (x : Group-F Group VgMark). KeepsMarks (marks_of (unwrap_or x.marks []))) (sym is) (marks_kept trail top ms s refl) in
    let space = space_kept trail top ms (codes "padding") s refl in
    record {
      top = subst KeepsObject (sym (opened_object g.group)) here;
      marks = numbered_keeps 0 1 (opened g.group).marks (subst KeepsMarks (sym (opened_marks g.group)) within);
      width = size_kept trail top ms (codes "width") s refl;
      height = size_kept trail top ms (codes "height") s refl;
      padding_low = space.0;
      padding_high = space.1;
    }

objects_kept : (tree : Json) → HasOwnNames tree → first_fault_of tree ≡ None → ObjectsKeep (spec_of tree)
objects_kept tree own e =
    let t : IsTop tree = the_top tree own e in
    let same : members_of tree ≡ t.members = ap (λ o. unwrap_or (members_in o) []) t.opened in
    subst (λ ms. ObjectsKeep (spec_with ms)) (sym same) (top_members (noted 0 TOP tree ∷ []) t.members t.object)

pub objects_pass : (tree : Json) → HasOwnNames tree → first_fault_of tree ≡ None → KeepsObjects (spec_of tree)
objects_pass tree own e =
    let g : VgSpec = spec_of tree in
    let k : ObjectsKeep g = objects_kept tree own e in
    record {
      top = kept_passes (outline_of g).object k.top;
      marks = marks_pass (outline_of g).marks k.marks;
      sizes = sizes_pass g k.width k.height k.padding_low k.padding_high;
    }

-- ---- names and counts

numbered_count : (unit number : ℕ) (marks : Marks) → count_marks (numbered unit number marks) ≡ count_marks marks
numbered_count unit number NoMarks = refl
numbered_count unit number (AMark old m others) = ap suc (numbered_count (suc unit) number others)
numbered_count unit number (AGroup o inside others) =
    λ i. numbered_count unit (suc number) inside i + numbered_count (unit + count_marks inside) (suc number + count_groups inside) others i

-- the marks are few, and the sources have names of their own
record Counted (g : VgSpec) : Type 0 where
  few : count_marks (outline_of g).marks < 2 ^ 32
  own : AllPairs (λ a b. a ≢ b) (sources_of g)

through : (a b : ℕ) → a ≤ b → b ≤ 1 → a ≤ 1
through a b x y = omega arith

counted : (trail : Trail) (ms : List Member) (here whole : List Part) →
    StandsObject trail top ms → whole ≡ here ++ parts_of_members trail top 0 ms → BreakNone whole →
    Counted (spec_with ms)
unfolding top
counted trail ms here whole s is rules =
    let g : VgSpec = spec_with ms in
    let marks : (opened g.group).marks ≡ marks_of (unwrap_or (marks_at ms (codes "marks")) []) =
    opened_marks g.group ∙ ap (λ (x : Group-F Group VgMark). marks_of (unwrap_or x.marks [])) (group_opened ms (marks_at ms (codes "marks"))) in
    record {
      few = subst (λ n. n < 2 ^ 32) (sym (numbered_count 0 1 (opened g.group).marks ∙ ap count_marks marks))
          (few_marks trail top ms here whole s refl refl is rules.limits);
      own = apart (sources_in (group_with ms (marks_at ms (codes "marks"))))
          (λ x. through _ _ (sources_weigh x trail top ms here whole s refl refl is) (at_most_once x whole rules.twice));
    }

-- where its folds fit and its groups are few, a specification that is read keeps all rules
pub rules_kept : (tree : Json) → HasOwnNames tree → first_fault_of tree ≡ None →
    FoldsKeep (spec_of tree) → HasFewGroups (spec_of tree) → KeepsAll (spec_of tree)
rules_kept tree own e folds few =
    let t : IsTop tree = the_top tree own e in
    let k : ObjectsKeep (spec_of tree) = objects_kept tree own e in
    let same : members_of tree ≡ t.members = ap (λ o. unwrap_or (members_in o) []) t.opened in
    let c : Counted (spec_of tree) = subst (λ ms. Counted (spec_with ms)) (sym same)
    (counted (noted 0 TOP tree ∷ []) t.members (parts_at (noted 0 TOP tree ∷ []) tree) (parts_of tree) t.object t.parts t.rules) in
    record {
      top = k.top;
      marks = k.marks;
      folds = folds.folds;
      folds_inside = folds.folds_inside;
      few_marks = c.few;
      few_groups = few;
      width = k.width;
      height = k.height;
      padding_low = k.padding_low;
      padding_high = k.padding_high;
      apart = c.own;
    }
