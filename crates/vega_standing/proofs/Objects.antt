-- Objects, the top or groups, that stand in a specification without faults.
use Rattle.std.proofs.Common.{◌≡◌, ℕ, ◌*◌, ℤ, pos, ◌≤ℤ◌, List, [], ◌∷◌, refl, sym, ap, subst, ◌∙◌, arith}
use Rattle.std.specs.Prelude.{Option, Some, None, true, IfSome, IsTrue, codes, unwrap_or}
use Rattle.std.specs.Option.{option_map, is_some}
use Rattle.std.specs.List.{All}
use Rattle.std.proofs.lemmas.Int.{ints}
use Rattle.fixed_num.specs.Number.{million}
use Rattle.fixed_num.specs.Ranges.{is_within, ◌>>=◌}
use Rattle.json_exact.specs.declared.json.Json.{Json, out-Json}
use Rattle.json_exact.specs.declared.json.Json.TheOpen as level
use Rattle.json_exact.specs.declared.json.Member.{Member}
use Rattle.json_exact.specs.Inside.{number_in, members_in}
use Rattle.spec_schema.specs.declared.form.Form.{Form}
use Rattle.spec_schema.specs.declared.form.Form.TheVariants as form
use Rattle.spec_schema.specs.declared.layout.Layout.{Layout}
use Rattle.spec_schema.specs.Values.{Opened, object_passes, has_length}
use Rattle.spec_schema.specs.Layouts.{shape_in, layout_in}
use Rattle.spec_schema.specs.Forms.{taken_form, items_shape}
use Rattle.vega_schema.specs.declared.codes.TheConstants.{AXIS, AXES, TICK_COUNT, LAYOUT, COUNT, SCALES, SCALE, DATA_LIST, DATA, SIZE, SPACE}
use Rattle.vega_schema.specs.Schema.{vega_schema}
use Rattle.vega_schema.specs.Shapes.{leaves, named, lists, objects, MAX_LENGTH}
use Rattle.vega_schema.specs.Guides.{group_mark, axis, legend, grid_layout, top}
use Rattle.vega_schema.specs.Sources.{data_set, data_format, parse, sort, extent_signal}
use Rattle.vega_schema.specs.Transforms.{filter, formula, extent, bin, time_unit, stack, fold}
use Rattle.vega_schema.specs.Groupings.{aggregate, join_aggregate, window, lookup, no_transform}
use Rattle.vega_schema.specs.Signals.{signal, on_event, expression_signal}
use Rattle.vega_schema.specs.Scales.{linear_scale, time_scale, band_scale, point_scale, ordinal_scale, no_scale}
use Rattle.vega_schema.specs.Domains.{domain_of_signal, domain_of_field, domain_of_fields, reference, sort_by_operation, sort_by_cells}
use Rattle.vega_schema.specs.PlainMarks.{rect_mark, symbol_mark, line_mark, area_mark, rule_mark, text_mark}
use Rattle.vega_schema.specs.Marks.{mark_from, group_from, facet, cross, encode, no_mark}
use Rattle.vega_schema.specs.Channels.{channel_members, value, words_value}
use Rattle.vega_schema.specs.Sizes.{size_signal, group_encode, group_channels, size_value}
use Rattle.vega_parts.specs.Trails.{Trail, noted}
use Rattle.vega_spec.specs.declared.data.DataSet.{DataSet}
use Rattle.vega_spec.specs.declared.guides.Axis.{Axis}
use Rattle.vega_spec.specs.declared.guides.Layout.{Layout as Grid}
use Rattle.vega_spec.specs.declared.scales.Scale.{Scale as VegaScale}
use Rattle.vega_spec.specs.declared.spec.Size.{Size}
use Rattle.vega_spec.specs.declared.spec.Size.TheVariants as size
use Rattle.vega_spec.specs.declared.spec.Group.{Group, Group-F}
use Rattle.vega_spec.specs.declared.spec.VgMark.{VgMark}
use Rattle.vega_building.specs.Parts.{found_at, object_at, objects_at, number_at, members_of, expression_at}
use Rattle.vega_building.specs.Sources.{data_set_of}
use Rattle.vega_building.specs.Scales.{scale_of}
use Rattle.vega_building.specs.Guides.{axis_of, layout_of}
use Rattle.vega_building.specs.Spec.{size_in, size_at}
use Rattle.scale_kit.specs.Scale.{IsPixel}
use Rattle.vega_lists.specs.Transforms.{is_kept, OfTransforms}
use Rattle.vega_scales.specs.Scales.{is_domain_built, KeepsBounds}
use Rattle.vega_scales.specs.Scales as scaling
use Rattle.vega_guides.specs.Shown.{IsCount, IsAxis}
use Rattle.vega_copies.specs.inner.Kept.{IsSizeKept}
use Rattle.vega_copies.specs.Outlines.{object_here}
use Rattle.vega_copies.specs.inner.Kept.{KeepsObject}
use Rattle.vega_standing.proofs.Stands.{Stands, StandsObject, formed}
use Rattle.vega_standing.proofs.Shapes.{if_taken, form_taken, within, count, ticks, space}
use Rattle.vega_standing.proofs.Members.{Laid, laid_out, opened_as, reads_kept, list_kept}
use Rattle.vega_standing.proofs.Scales.{KeepsScale, scale_keeps}
use Rattle.vega_standing.proofs.Transforms.{data_kept}

-- ---- axes

axis_taken : (o : Opened) (f : Form) → taken_form vega_schema AXIS o ≡ Some f →
    (object_passes (λ members. is_some (layout_in vega_schema AXIS members)) o ≡ true) × (form.Object AXIS ≡ f)
unfolding vega_schema leaves named lists objects
axis_taken o f e = (
  if_taken (object_passes (λ members. is_some (layout_in vega_schema AXIS members)) o) _ f e,
  form_taken (object_passes (λ members. is_some (layout_in vega_schema AXIS members)) o) _ f e,
)

axis_layout : (ms : List Member) → layout_in vega_schema AXIS ms ≡ Some axis
unfolding vega_schema group_mark axis legend grid_layout top data_set data_format parse sort extent_signal
    filter formula extent bin time_unit stack fold aggregate join_aggregate window lookup no_transform signal on_event expression_signal
    linear_scale time_scale band_scale point_scale ordinal_scale no_scale domain_of_signal domain_of_field domain_of_fields reference
    sort_by_operation sort_by_cells rect_mark symbol_mark line_mark area_mark rule_mark text_mark mark_from group_from facet cross
    encode no_mark channel_members value words_value size_signal group_encode group_channels size_value
axis_layout ms = refl

tick_rule : shape_in axis (codes "tickCount") ≡ Some TICK_COUNT
unfolding axis
tick_rule = refl

axis_kept : (round : Trail) (number : ℕ) (tree : Json) → Stands round number AXIS tree → IsAxis (axis_of (members_of tree))
axis_kept round number tree s =
    let form = formed AXIS tree s.fine in
    let ms : (ms : List Member) × (out-Json tree ≡ level.Object ms) = opened_as AXIS (out-Json tree) (axis_taken (out-Json tree) form.0 form.1).0 in
    let l : Laid round number AXIS AXIS tree ms.0 = laid_out round number AXIS AXIS tree ms.0 s ms.1 (λ f e. axis_taken (level.Object ms.0) f e) in
    let is : l.layout ≡ axis = let a = l.applies in let b = axis_layout ms.0 in cc in
    let same : members_of tree ≡ ms.0 = ap (λ o. unwrap_or (members_in o) []) ms.1 in
    let P : List Member → Type 0 = λ m. IsAxis (axis_of m) in
    let o : StandsObject (noted number AXIS tree ∷ round) axis ms.0 = subst (λ x. StandsObject (noted number AXIS tree ∷ round) x ms.0) is l.stands in
    subst P (sym same) (reads_kept IsCount number_in (noted number AXIS tree ∷ round) axis ms.0 (codes "tickCount")
    TICK_COUNT o tick_rule (λ i v t. ticks (noted number AXIS tree ∷ round) i v t))

-- ---- the grid

grid_object : (ms : List Member) (f : Form) → taken_form vega_schema LAYOUT (level.Object ms) ≡ Some f →
    (is_some (layout_in vega_schema LAYOUT ms) ≡ true) × (form.Object LAYOUT ≡ f)
unfolding vega_schema leaves named lists objects
grid_object ms f e = (if_taken (is_some (layout_in vega_schema LAYOUT ms)) _ f e, form_taken (is_some (layout_in vega_schema LAYOUT ms)) _ f e)

grid_is : (ms : List Member) → layout_in vega_schema LAYOUT ms ≡ Some grid_layout
unfolding vega_schema group_mark axis legend grid_layout top data_set data_format parse sort extent_signal
    filter formula extent bin time_unit stack fold aggregate join_aggregate window lookup no_transform signal on_event expression_signal
    linear_scale time_scale band_scale point_scale ordinal_scale no_scale domain_of_signal domain_of_field domain_of_fields reference
    sort_by_operation sort_by_cells rect_mark symbol_mark line_mark area_mark rule_mark text_mark mark_from group_from facet cross
    encode no_mark channel_members value words_value size_signal group_encode group_channels size_value
grid_is ms = refl

columns_rule : shape_in grid_layout (codes "columns") ≡ Some COUNT
unfolding grid_layout
columns_rule = refl

grid_kept : (round : Trail) (number : ℕ) (tree : Json) → Stands round number LAYOUT tree → (o : Opened) → out-Json tree ≡ o →
    IfSome (members_in o) (λ ms. IfSome (number_at ms (codes "columns")) IsCount)
grid_kept round number tree s level.Null e = tt
grid_kept round number tree s (level.Flag b) e = tt
grid_kept round number tree s (level.Number n) e = tt
grid_kept round number tree s level.Huge e = tt
grid_kept round number tree s (level.Text t) e = tt
grid_kept round number tree s (level.List items) e = tt
grid_kept round number tree s (level.Object ms) e =
    let l : Laid round number LAYOUT LAYOUT tree ms = laid_out round number LAYOUT LAYOUT tree ms s e (grid_object ms) in
    let is : l.layout ≡ grid_layout = let a = l.applies in let b = grid_is ms in cc in
    let o : StandsObject (noted number LAYOUT tree ∷ round) grid_layout ms = subst (λ x. StandsObject (noted number LAYOUT tree ∷ round) x ms) is l.stands in
    reads_kept IsCount number_in (noted number LAYOUT tree ∷ round) grid_layout ms (codes "columns") COUNT o
    columns_rule (λ i v t. count (noted number LAYOUT tree ∷ round) i v t)

columns_of : (o : Option (List Member)) → IfSome o (λ ms. IfSome (number_at ms (codes "columns")) IsCount) →
    IfSome (option_map layout_of o >>= λ (l : Grid). l.columns) IsCount
columns_of None e = tt
columns_of (Some ms) e = e

-- ---- sizes

size_number : (n : ℤ) (f : Form) → taken_form vega_schema SIZE (level.Number n) ≡ Some f → is_within (pos 1) (pos 10000000000) n ≡ true
unfolding vega_schema leaves named lists objects
size_number n f e = if_taken (is_within (pos 1) (pos 10000000000) n) _ f e

near : (n : ℤ) → pos 1 ≤ℤ n → n ≤ℤ pos 10000000000 → IsPixel n
near n a b = (omega (arith, ints), omega (arith, ints))

signal_size : (o : Option Size) → ((s : Size) → IsSizeKept (Some s)) → IfSome o (λ s. IsSizeKept (Some s))
signal_size None f = tt
signal_size (Some s) f = f s

size_by : (round : Trail) (number : ℕ) (tree : Json) → Stands round number SIZE tree → (o : Opened) → out-Json tree ≡ o →
    IfSome (size_in o) (λ s. IsSizeKept (Some s))
size_by round number tree s level.Null e = tt
size_by round number tree s (level.Flag b) e = tt
size_by round number tree s (level.Number n) e =
    let form = formed SIZE tree s.fine in
    let w = within (pos 1) (pos 10000000000) n (size_number n form.0 (ap (taken_form vega_schema SIZE) (sym e) ∙ form.1)) in
    near n w.0 w.1
size_by round number tree s level.Huge e = tt
size_by round number tree s (level.Text t) e = tt
size_by round number tree s (level.List items) e = tt
size_by round number tree s (level.Object ms) e = by_expression (expression_at ms (codes "signal"))
  where
    by_expression : (o : _) → IfSome (option_map size.Signal o) (λ s. IsSizeKept (Some s))
    by_expression None = tt
    by_expression (Some x) = tt

size_there : (o : Option Size) → IfSome o (λ s. IsSizeKept (Some s)) → IsSizeKept o
size_there None e = tt
size_there (Some s) e = e

pub size_kept : (trail : Trail) (l : Layout) (ms : List Member) (name : List ℕ) → StandsObject trail l ms → shape_in l name ≡ Some SIZE →
    IsSizeKept (size_at ms name)
size_kept trail l ms name o ruled =
    size_there _ (reads_kept (λ s. IsSizeKept (Some s)) size_in trail l ms name SIZE o ruled (λ i v t. size_by trail i v t (out-Json v) refl))

-- ---- objects

abbrev IsSpace : ℤ → Type 0
IsSpace n = (pos 0 ≤ℤ n) × (n ≤ℤ pos (1000 * million))

space_there : (o : Option ℤ) → IfSome o IsSpace → IsSpace (unwrap_or o (pos 0))
space_there None e = (omega (arith, ints), omega (arith, ints))
space_there (Some n) e = e

pub space_kept : (trail : Trail) (l : Layout) (ms : List Member) (name : List ℕ) → StandsObject trail l ms → shape_in l name ≡ Some SPACE →
    (pos 0 ≤ℤ unwrap_or (number_at ms name) (pos 0)) × (unwrap_or (number_at ms name) (pos 0) ≤ℤ pos (1000 * million))
space_kept trail l ms name o ruled = space_there _ (reads_kept IsSpace number_in trail l ms name SPACE o ruled (λ i v t. space trail i v t))

-- the rules that the top and groups have alike
pub record ObjectRules (l : Layout) : Type 0 where
  pub sets : shape_in l (codes "data") ≡ Some DATA_LIST
  pub scales : shape_in l (codes "scales") ≡ Some SCALES
  pub axes : shape_in l (codes "axes") ≡ Some AXES
  pub grid : shape_in l (codes "layout") ≡ Some LAYOUT

-- and what they are built of
pub record BuiltOf (g : Group-F Group VgMark) (ms : List Member) : Type 0 where
  pub sets : g.data_ ≡ objects_at data_set_of ms (codes "data")
  pub scales : g.scales ≡ objects_at scale_of ms (codes "scales")
  pub axes : g.axes ≡ objects_at axis_of ms (codes "axes")
  pub grid : g.layout ≡ object_at layout_of ms (codes "layout")

pub sets_listed : (items : List Json) (f : Form) → taken_form vega_schema DATA_LIST (level.List items) ≡ Some f → items_shape f ≡ Some DATA
unfolding vega_schema leaves named lists objects
sets_listed items f e = ap items_shape (sym (form_taken (has_length 0 MAX_LENGTH items) _ f e))

scales_listed : (items : List Json) (f : Form) → taken_form vega_schema SCALES (level.List items) ≡ Some f → items_shape f ≡ Some SCALE
unfolding vega_schema leaves named lists objects
scales_listed items f e = ap items_shape (sym (form_taken (has_length 0 MAX_LENGTH items) _ f e))

axes_listed : (items : List Json) (f : Form) → taken_form vega_schema AXES (level.List items) ≡ Some f → items_shape f ≡ Some AXIS
unfolding vega_schema leaves named lists objects
axes_listed items f e = ap items_shape (sym (form_taken (has_length 0 MAX_LENGTH items) _ f e))

scales_keep : (P : VegaScale → Type 0) → ((s : VegaScale) → KeepsScale s → P s) → (trail : Trail) (l : Layout) (ms : List Member) (g : Group-F Group VgMark) →
    StandsObject trail l ms → ObjectRules l → BuiltOf g ms → All P (unwrap_or g.scales [])
scales_keep P f trail l ms g o rules built = subst (λ (s : Option (List VegaScale)). All P (unwrap_or s [])) (sym built.scales)
    (list_kept P (λ t. scale_of (members_of t)) trail l ms (codes "scales") SCALES SCALE o rules.scales scales_listed
    (λ r i v t. f (scale_of (members_of v)) (scale_keeps r i v t)))

-- an object keeps what charts ask
pub object_keeps : (trail : Trail) (l : Layout) (ms : List Member) (g : Group-F Group VgMark) →
    StandsObject trail l ms → ObjectRules l → BuiltOf g ms → KeepsObject (object_here g)
object_keeps trail l ms g o rules built =
    record {
      sets = subst (λ (s : Option (List DataSet)). All (OfTransforms is_kept) (unwrap_or s [])) (sym built.sets)
          (list_kept (OfTransforms is_kept) (λ t. data_set_of (members_of t)) trail l ms (codes "data")
          DATA_LIST DATA o rules.sets sets_listed (λ r i v t. data_kept r i v t));
      scales = scales_keep (λ s. IsTrue (scaling.is_built s)) (λ s k. k.built) trail l ms g o rules built;
      domains = scales_keep (λ (s : VegaScale). IsTrue (is_domain_built s.domain)) (λ s k. k.domain) trail l ms g o rules built;
      bounds = scales_keep KeepsBounds (λ s k. k.bounds) trail l ms g o rules built;
      axes = subst (λ (a : Option (List Axis)). All IsAxis (unwrap_or a [])) (sym built.axes)
          (list_kept IsAxis (λ t. axis_of (members_of t)) trail l ms (codes "axes") AXES AXIS o rules.axes axes_listed (λ r i v t. axis_kept r i v t));
      columns = subst (λ (g : Option Grid). IfSome (g >>= λ (l : Grid). l.columns) IsCount) (sym built.grid)
          (columns_of (found_at members_in ms (codes "layout"))
          (reads_kept (λ ms. IfSome (number_at ms (codes "columns")) IsCount) members_in trail l ms (codes "layout") LAYOUT o rules.grid
          (λ i v t. grid_kept trail i v t (out-Json v) refl)));
    }
