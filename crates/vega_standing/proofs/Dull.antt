-- Values in which no rows are named.
use Rattle.std.proofs.Common.{◌≡◌, ℕ, List, [], ◌∷◌, find, cond, refl, ap, subst, ◌∙◌, arith}
use Rattle.std.specs.Prelude.{Option, Some, None, Bool, true, false, not, ◌&&◌, ◌||◌, ◌==◌, bytes_eq}
use Rattle.std.specs.Option.{option_map, option_map_or, option_or}
use Rattle.std.specs.List.{list_any, list_all}
use Rattle.std.proofs.lemmas.Bool.{and_parts as both}
use Rattle.std.proofs.lemmas.Bool.Decides.{nat_tests}
use Rattle.json_exact.specs.declared.json.Json.{Json}
use Rattle.json_exact.specs.declared.json.Member.{Member}
use Rattle.spec_schema.specs.declared.form.Form.{Form}
use Rattle.spec_schema.specs.declared.form.Form.TheVariants as form
use Rattle.spec_schema.specs.declared.form.Shape.{Shape}
use Rattle.spec_schema.specs.declared.layout.Layout.{Layout}
use Rattle.spec_schema.specs.declared.layout.Rule.{Rule}
use Rattle.spec_schema.specs.Values.{Opened}
use Rattle.spec_schema.specs.Layouts.{shape_in, rule_in, layout_in, applies, holds}
use Rattle.spec_schema.specs.Forms.{taken_form, takes, fits, items_shape, layout_of}
use Rattle.vega_schema.specs.declared.codes.TheConstants.{DATA, TRANSFORM, FACET, DATA_LIST, TRANSFORMS, MARKS, TOP, MARK, GROUP_FROM}
use Rattle.vega_schema.specs.Schema.{vega_schema}
use Rattle.vega_schema.specs.Shapes.{leaves, named, lists, objects}
use Rattle.vega_schema.specs.Guides.{group_mark, axis, legend, grid_layout, top}
use Rattle.vega_schema.specs.Sources.{data_set, data_format, parse, sort, extent_signal}
use Rattle.vega_schema.specs.Transforms.{filter, formula, extent, bin, time_unit, stack, fold}
use Rattle.vega_schema.specs.Groupings.{aggregate, join_aggregate, window, lookup, no_transform}
use Rattle.vega_schema.specs.Signals.{signal, on_event, expression_signal}
use Rattle.vega_schema.specs.Scales.{linear_scale, time_scale, band_scale, point_scale, ordinal_scale, no_scale}
use Rattle.vega_schema.specs.Domains.{domain_of_signal, domain_of_field, domain_of_fields, reference, sort_by_operation, sort_by_cells}
use Rattle.vega_schema.specs.PlainMarks.{rect_mark, symbol_mark, line_mark, area_mark, rule_mark, text_mark}
use Rattle.vega_schema.specs.Marks.{mark_from, group_from, facet, cross, encode, no_mark}
use Rattle.vega_schema.specs.Channels.{channel_members, value, words_value}
use Rattle.vega_schema.specs.Sizes.{size_signal, group_encode, group_channels, size_value}
use Rattle.vega_parts.specs.Trails.{Trail, noted}
use Rattle.vega_standing.proofs.Stands.{parts_in}
use Rattle.vega_standing.proofs.Quiet.{IsQuiet, AreQuiet, quiet_shape}
use Rattle.vega_standing.proofs.Within.{IsClosed, all_within}

-- the shapes in whose values data sets, transforms and facets stand
abbrev pub loud_shapes : List ℕ
loud_shapes = DATA ∷ TRANSFORM ∷ FACET ∷ DATA_LIST ∷ TRANSFORMS ∷ MARKS ∷ TOP ∷ MARK ∷ GROUP_FROM ∷ []

-- it is none of them
abbrev pub is_dull : ℕ → Bool
is_dull shape = not (list_any (λ loud. shape == loud) loud_shapes)

-- ---- the table

abbrev dull_object : Form → Bool
dull_object form.Null = true
dull_object form.Flag = true
dull_object form.True = true
dull_object (form.Number least most) = true
dull_object (form.Whole least most) = true
dull_object form.Text = true
dull_object (form.Name code) = true
dull_object (form.Except code) = true
dull_object form.Cell = true
dull_object form.Free = true
dull_object (form.Pair items) = true
dull_object (form.List least most items) = true
dull_object (form.Object object) = is_dull object

abbrev dull_form : Form → Bool
dull_form f = option_map_or is_dull (items_shape f) true && dull_object f

abbrev dull_entry : Shape → Bool
dull_entry s = not (is_dull s.code) || dull_form s.form

abbrev pub dull_members : Layout → Bool
dull_members l = list_all (λ (r : Rule). is_dull r.shape) l.rules && option_map_or is_dull l.others true

abbrev dull_layout : Layout → Bool
dull_layout l = not (is_dull l.object) || dull_members l

dull_shapes : list_all dull_entry vega_schema.shapes ≡ true
unfolding vega_schema leaves named lists objects
dull_shapes = refl

dull_layouts : list_all dull_layout vega_schema.layouts ≡ true
unfolding vega_schema group_mark axis legend grid_layout top data_set data_format parse sort extent_signal
    filter formula extent bin time_unit stack fold aggregate join_aggregate window lookup no_transform signal on_event expression_signal
    linear_scale time_scale band_scale point_scale ordinal_scale no_scale domain_of_signal domain_of_field domain_of_fields reference
    sort_by_operation sort_by_cells rect_mark symbol_mark line_mark area_mark rule_mark text_mark mark_from group_from facet cross
    encode no_mark channel_members value words_value size_signal group_encode group_channels size_value
dull_layouts = refl

-- what is found passes the test, and what all pass
pub found_passes : {X : Type 0} (test all : X → Bool) (xs : List X) (x : X) → find test xs ≡ Some x → list_all all xs ≡ true → (test x ≡ true) × (all x ≡ true)
found_passes test all [] x e each = absurd cc
found_passes test all (y ∷ xs) x e each =
    by_test (test y) refl e (found_passes test all xs x)
  where
    parts : (all y ≡ true) × (list_all all xs ≡ true)
    parts = both (all y) (list_all all xs) each

    by_test : (b : Bool) → test y ≡ b → cond b (Some y) (find test xs) ≡ Some x →
        (find test xs ≡ Some x → list_all all xs ≡ true → (test x ≡ true) × (all x ≡ true)) →
        (test x ≡ true) × (all x ≡ true)
    by_test true same f rest = let is : y ≡ x = cc in (subst (λ z. test z ≡ true) is same, subst (λ z. all z ≡ true) is parts.0)
    by_test false same f rest = rest f parts.1

pub same_code : (a b : ℕ) → (a == b) ≡ true → a ≡ b
same_code a b e = grind (arith, nat_tests)

pub then_dull : (a b : Bool) → (not a || b) ≡ true → a ≡ true → b ≡ true
then_dull true b e is = e
then_dull false b e is = absurd cc

found_form : (o : Option Shape) (f : Form) → option_map (λ (s : Shape). s.form) o ≡ Some f → (s : Shape) × (o ≡ Some s) × (s.form ≡ f)
found_form None f e = absurd cc
found_form (Some s) f e = (s, refl, cc)

-- the form of a dull value
form_dull : (shape : ℕ) (o : Opened) (f : Form) → is_dull shape ≡ true → taken_form vega_schema shape o ≡ Some f → dull_form f ≡ true
form_dull shape o f dull e =
    let s : (s : Shape) × (find (takes vega_schema shape o) vega_schema.shapes ≡ Some s) × (s.form ≡ f) =
    found_form (find (takes vega_schema shape o) vega_schema.shapes) f e in
    let passed : (takes vega_schema shape o s.0 ≡ true) × (dull_entry s.0 ≡ true) =
    found_passes (takes vega_schema shape o) dull_entry vega_schema.shapes s.0 s.1 dull_shapes in
    let code : s.0.code ≡ shape = same_code s.0.code shape (both (s.0.code == shape) (fits vega_schema s.0.form o) passed.0).0 in
    let is : is_dull s.0.code ≡ true = ap is_dull code ∙ dull in
    subst (λ x. dull_form x ≡ true) s.2 (then_dull (is_dull s.0.code) (dull_form s.0.form) passed.1 is)

pub items_dull : (o : Option ℕ) (inner : ℕ) → option_map_or is_dull o true ≡ true → o ≡ Some inner → is_dull inner ≡ true
items_dull None inner e is = absurd cc
items_dull (Some i) inner e is = let same : i ≡ inner = cc in subst (λ x. is_dull x ≡ true) same e

pub ruled_dull : (o : Option Rule) (others : Option ℕ) (inner : ℕ) →
    ((r : Rule) → o ≡ Some r → is_dull r.shape ≡ true) → option_map_or is_dull others true ≡ true →
    option_or (option_map (λ (r : Rule). r.shape) o) others ≡ Some inner → is_dull inner ≡ true
ruled_dull None others inner a b e = items_dull others inner b e
ruled_dull (Some r) others inner a b e = let same : r.shape ≡ inner = cc in subst (λ x. is_dull x ≡ true) same (a r refl)

laid_dull : (object : ℕ) (ms : List Member) (l : Layout) (name : List ℕ) (inner : ℕ) → is_dull object ≡ true → layout_in vega_schema object ms ≡ Some l →
    shape_in l name ≡ Some inner → is_dull inner ≡ true
laid_dull object ms l name inner dull laid ruled =
    let passed : (applies vega_schema object ms l ≡ true) × (dull_layout l ≡ true) =
    found_passes (applies vega_schema object ms) dull_layout vega_schema.layouts l laid dull_layouts in
    let code : l.object ≡ object = same_code l.object object (both (l.object == object) (list_all (holds vega_schema ms) l.when) passed.0).0 in
    let members : dull_members l ≡ true = then_dull (is_dull l.object) (dull_members l) passed.1 (ap is_dull code ∙ dull) in
    let parts : (list_all (λ (r : Rule). is_dull r.shape) l.rules ≡ true) × (option_map_or is_dull l.others true ≡ true) =
    both (list_all (λ (r : Rule). is_dull r.shape) l.rules) (option_map_or is_dull l.others true) members in
    ruled_dull (rule_in l.rules name) l.others inner
    (λ r e. (found_passes (λ (r : Rule). bytes_eq r.name name) (λ (r : Rule). is_dull r.shape) l.rules r e parts.0).1) parts.1 ruled

object_dull : (f : Form) (ms : List Member) (l : Layout) (name : List ℕ) (inner : ℕ) → dull_object f ≡ true → layout_of vega_schema f ms ≡ Some l →
    shape_in l name ≡ Some inner → is_dull inner ≡ true
object_dull form.Null ms l name inner d e r = absurd cc
object_dull form.Flag ms l name inner d e r = absurd cc
object_dull form.True ms l name inner d e r = absurd cc
object_dull (form.Number least most) ms l name inner d e r = absurd cc
object_dull (form.Whole least most) ms l name inner d e r = absurd cc
object_dull form.Text ms l name inner d e r = absurd cc
object_dull (form.Name code) ms l name inner d e r = absurd cc
object_dull (form.Except code) ms l name inner d e r = absurd cc
object_dull form.Cell ms l name inner d e r = absurd cc
object_dull form.Free ms l name inner d e r = absurd cc
object_dull (form.Pair items) ms l name inner d e r = absurd cc
object_dull (form.List least most items) ms l name inner d e r = absurd cc
object_dull (form.Object object) ms l name inner d e r = laid_dull object ms l name inner d e r

-- all that stands in a dull value is dull
pub dull_closed : IsClosed is_dull
dull_closed = record {
  items = λ shape o f inner dull taken is.
      items_dull (items_shape f) inner (both (option_map_or is_dull (items_shape f) true) (dull_object f) (form_dull shape o f dull taken)).0 is;
  members = λ shape o f ms l name inner dull taken laid ruled.
      object_dull f ms l name inner (both (option_map_or is_dull (items_shape f) true) (dull_object f) (form_dull shape o f dull taken)).1 laid ruled;
}

-- ---- parts

none_such : (a b : Bool) → not (a || b) ≡ true → (a ≡ false) × (not b ≡ true)
none_such true b e = absurd cc
none_such false b e = (refl, e)

own_quiet : (shape : ℕ) → is_dull shape ≡ true → (shape == DATA) ≡ false × (shape == TRANSFORM) ≡ false × (shape == FACET) ≡ false
own_quiet shape dull =
    let one = none_such (shape == DATA) _ dull in
    let two = none_such (shape == TRANSFORM) _ one.1 in
    let three = none_such (shape == FACET) _ two.1 in
    (one.0, two.0, three.0)

-- a dull value has quiet parts alone
pub dull_parts : (round : Trail) (number shape : ℕ) (tree : Json) → is_dull shape ≡ true → AreQuiet (parts_in round number shape tree)
dull_parts round number shape tree dull =
    all_within is_dull (λ trail p. IsQuiet p) dull_closed
    (λ round number shape tree dull.
    let s : (shape == DATA) ≡ false × (shape == TRANSFORM) ≡ false × (shape == FACET) ≡ false = own_quiet shape dull in
    quiet_shape shape s.0 s.1 s.2 (noted number shape tree ∷ round) tree)
    (λ here round p quiet. quiet) tree round number shape dull
