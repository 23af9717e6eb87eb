-- Domains of scales that stand in a specification without faults.
use Rattle.std.proofs.Common.{◌≡◌, ℕ, List, ◌∷◌, cond, refl, subst, ◌⊎◌, inl, inr}
use Rattle.std.specs.Prelude.{Option, Some, None, Bool, true, false, IfSome, IsTrue, nat_lt, codes, unwrap_or, if◌then◌else◌}
use Rattle.std.specs.Option.{option_map, option_and_then, is_some}
use Rattle.json_exact.specs.declared.json.Json.{Json, out-Json}
use Rattle.json_exact.specs.declared.json.Json.TheOpen as level
use Rattle.json_exact.specs.declared.json.Member.{Member}
use Rattle.json_exact.specs.Inside.{text_in}
use Rattle.case_table.specs.Names.{index_of, operations}
use Rattle.spec_schema.specs.declared.form.Form.{Form}
use Rattle.spec_schema.specs.declared.form.Form.TheVariants as form
use Rattle.spec_schema.specs.declared.form.Shape.{Shape}
use Rattle.spec_schema.specs.declared.layout.Layout.{Layout}
use Rattle.spec_schema.specs.Values.{Opened, text_passes, among}
use Rattle.spec_schema.specs.Layouts.{shape_in, layout_in}
use Rattle.spec_schema.specs.Forms.{taken_form}
use Rattle.vega_schema.specs.declared.codes.TheConstants.{SCALE_DOMAIN, DOMAIN, DOMAIN_ORDER, DOMAIN_SORT, OPERATION}
use Rattle.vega_schema.specs.Schema.{vega_schema}
use Rattle.vega_schema.specs.Shapes.{leaves, named, lists, objects}
use Rattle.vega_schema.specs.Words.{operation_names}
use Rattle.vega_schema.specs.Guides.{group_mark, axis, legend, grid_layout, top}
use Rattle.vega_schema.specs.Sources.{data_set, data_format, parse, sort, extent_signal}
use Rattle.vega_schema.specs.Transforms.{filter, formula, extent, bin, time_unit, stack, fold}
use Rattle.vega_schema.specs.Groupings.{aggregate, join_aggregate, window, lookup, no_transform}
use Rattle.vega_schema.specs.Signals.{signal, on_event, expression_signal}
use Rattle.vega_schema.specs.Scales.{linear_scale, time_scale, band_scale, point_scale, ordinal_scale, no_scale}
use Rattle.vega_schema.specs.Domains.{domain_of_signal, domain_of_field, domain_of_fields, reference, sort_by_operation, sort_by_cells}
use Rattle.vega_schema.specs.PlainMarks.{rect_mark, symbol_mark, line_mark, area_mark, rule_mark, text_mark}
use Rattle.vega_schema.specs.Marks.{mark_from, group_from, facet, cross, encode, no_mark}
use Rattle.vega_schema.specs.Channels.{channel_members, value, words_value}
use Rattle.vega_schema.specs.Sizes.{size_signal, group_encode, group_channels, size_value}
use Rattle.vega_parts.specs.Trails.{Trail, noted}
use Rattle.vega_spec.specs.declared.domains.DomainOrder.{DomainOrder}
use Rattle.vega_spec.specs.declared.domains.DomainOrder.TheVariants as domain_order
use Rattle.vega_spec.specs.declared.domains.Domain.TheVariants as domain
use Rattle.vega_building.specs.Parts.{text_at, has_member, needed_text, needed_expression}
use Rattle.vega_building.specs.Names.{named_at, operation_named, needed_operation, order_named}
use Rattle.vega_building.specs.Domains.{domain_in, domain_order_in, domain_order_at, fields_domain_of, field_domain_of}
use Rattle.vega_scales.specs.Scales.{is_order_built, is_domain_built}
use Rattle.vega_standing.proofs.Stands.{Stands, formed}
use Rattle.vega_standing.proofs.Shapes.{if_taken, form_taken}
use Rattle.vega_standing.proofs.Members.{Laid, laid_out, reads_kept_or, among_each}

-- ---- operations

abbrev IsAggregate : List ℕ → Type 0
IsAggregate text = nat_lt (unwrap_or (index_of operations text) 0) 12 ≡ true

operations_are_aggregates : (text : List ℕ) → among operation_names text ≡ true → IsAggregate text
unfolding operation_names
operations_are_aggregates text e =
    among_each IsAggregate operation_names text (refl, (refl, (refl, (refl, (refl, (refl, (refl, (refl, (refl, (refl, (refl, (refl, tt)))))))))))) e

texts : (test : List ℕ → Bool) (s : Shape) (o : Opened) (f : Form) → option_map (λ (s : Shape). s.form) (cond (text_passes test o) (Some s) None) ≡ Some f
    → IfSome (text_in o) (λ t. test t ≡ true)
texts test s level.Null f e = tt
texts test s (level.Flag b) f e = tt
texts test s (level.Number n) f e = tt
texts test s level.Huge f e = tt
texts test s (level.Text t) f e = if_taken _ _ f e
texts test s (level.List items) f e = tt
texts test s (level.Object members) f e = tt

operation_tested : (o : Opened) (f : Form) → taken_form vega_schema OPERATION o ≡ Some f → IfSome (text_in o) (λ t. among operation_names t ≡ true)
unfolding vega_schema leaves named lists objects
operation_tested o f e = texts (among operation_names) _ o f e

aggregates : (o : Option (List ℕ)) → IfSome o (λ t. among operation_names t ≡ true) → IfSome o IsAggregate
aggregates None e = tt
aggregates (Some t) e = operations_are_aggregates t e

operation : (round : Trail) (number : ℕ) (tree : Json) → Stands round number OPERATION tree → IfSome (text_in (out-Json tree)) IsAggregate
operation round number tree s = let form = formed OPERATION tree s.fine in aggregates _ (operation_tested (out-Json tree) form.0 form.1)

-- ---- orders

two_layouts : (Q : Layout → Type 0) (a b : Bool) (first second l : Layout) → cond a (Some first) (cond b (Some second) None) ≡ Some l → Q first → Q second → Q l
two_layouts Q true b first second l e p q = let same : first ≡ l = cc in subst Q same p
two_layouts Q false true first second l e p q = let same : second ≡ l = cc in subst Q same q
two_layouts Q false false first second l e p q = absurd cc

three_layouts : (Q : Layout → Type 0) (a b c : Bool) (first second third l : Layout) →
    cond a (Some first) (cond b (Some second) (cond c (Some third) None)) ≡ Some l → Q first → Q second → Q third → Q l
three_layouts Q true b c first second third l e p q r = let same : first ≡ l = cc in subst Q same p
three_layouts Q false b c first second third l e p q r = two_layouts Q b c second third l e q r

abbrev MayBe : List ℕ → ℕ → Layout → Type 0
MayBe name shape l = (shape_in l name ≡ None) ⊎ (shape_in l name ≡ Some shape)

op_ruled : (ms : List Member) (l : Layout) → layout_in vega_schema DOMAIN_SORT ms ≡ Some l → MayBe (codes "op") OPERATION l
unfolding vega_schema group_mark axis legend grid_layout top data_set data_format parse sort extent_signal
    filter formula extent bin time_unit stack fold aggregate join_aggregate window lookup no_transform signal on_event expression_signal
    linear_scale time_scale band_scale point_scale ordinal_scale no_scale domain_of_signal domain_of_field domain_of_fields reference
    sort_by_operation sort_by_cells rect_mark symbol_mark line_mark area_mark rule_mark text_mark mark_from group_from facet cross
    encode no_mark channel_members value words_value size_signal group_encode group_channels size_value
op_ruled ms l e = two_layouts (MayBe (codes "op") OPERATION) _ _ sort_by_operation sort_by_cells l e (inr refl) (inl refl)

sort_object : (ms : List Member) (f : Form) → taken_form vega_schema DOMAIN_ORDER (level.Object ms) ≡ Some f →
    (is_some (layout_in vega_schema DOMAIN_SORT ms) ≡ true) × (form.Object DOMAIN_SORT ≡ f)
unfolding vega_schema leaves named lists objects
sort_object ms f e = (if_taken (is_some (layout_in vega_schema DOMAIN_SORT ms)) _ f e, form_taken (is_some (layout_in vega_schema DOMAIN_SORT ms)) _ f e)

order_by : (ms : List Member) (b : Bool) → IfSome (text_at ms (codes "op")) IsAggregate →
    IsTrue (is_order_built (Some
    (if b then domain_order.Operation (named_at order_named ms (codes "order")) (needed_operation ms (codes "op")) (needed_text ms (codes "field"))
    else domain_order.Cells (named_at order_named ms (codes "order")))))
order_by ms false op = refl
order_by ms true op = coded (text_at ms (codes "op")) op
  where
    coded : (o : Option (List ℕ)) → IfSome o IsAggregate → nat_lt (unwrap_or (option_and_then operation_named o) 0) 12 ≡ true
    coded None e = refl
    coded (Some t) e = e

flag_order : (b : Bool) → IfSome (if b then Some domain_order.True else None) (λ o. IsTrue (is_order_built (Some o)))
flag_order true = refl
flag_order false = tt

order_in : (round : Trail) (number : ℕ) (tree : Json) → Stands round number DOMAIN_ORDER tree → (o : Opened) → out-Json tree ≡ o →
    IfSome (domain_order_in o) (λ o. IsTrue (is_order_built (Some o)))
order_in round number tree s level.Null e = tt
order_in round number tree s (level.Flag b) e = flag_order b
order_in round number tree s (level.Number n) e = tt
order_in round number tree s level.Huge e = tt
order_in round number tree s (level.Text t) e = tt
order_in round number tree s (level.List items) e = tt
order_in round number tree s (level.Object ms) e =
    let l : Laid round number DOMAIN_ORDER DOMAIN_SORT tree ms = laid_out round number DOMAIN_ORDER DOMAIN_SORT tree ms s e (sort_object ms) in
    order_by ms (has_member ms (codes "op"))
    (reads_kept_or IsAggregate text_in (noted number DOMAIN_ORDER tree ∷ round) l.layout ms (codes "op") OPERATION l.stands (op_ruled ms l.layout l.applies)
    (λ i v t. operation (noted number DOMAIN_ORDER tree ∷ round) i v t))

-- ---- domains

sort_ruled : (ms : List Member) (l : Layout) → layout_in vega_schema DOMAIN ms ≡ Some l → MayBe (codes "sort") DOMAIN_ORDER l
unfolding vega_schema group_mark axis legend grid_layout top data_set data_format parse sort extent_signal
    filter formula extent bin time_unit stack fold aggregate join_aggregate window lookup no_transform signal on_event expression_signal
    linear_scale time_scale band_scale point_scale ordinal_scale no_scale domain_of_signal domain_of_field domain_of_fields reference
    sort_by_operation sort_by_cells rect_mark symbol_mark line_mark area_mark rule_mark text_mark mark_from group_from facet cross
    encode no_mark channel_members value words_value size_signal group_encode group_channels size_value
sort_ruled ms l e = three_layouts (MayBe (codes "sort") DOMAIN_ORDER) _ _ _
    domain_of_signal domain_of_field domain_of_fields l e (inl refl) (inr refl) (inr refl)

domain_object : (ms : List Member) (f : Form) → taken_form vega_schema SCALE_DOMAIN (level.Object ms) ≡ Some f →
    (is_some (layout_in vega_schema DOMAIN ms) ≡ true) × (form.Object DOMAIN ≡ f)
unfolding vega_schema leaves named lists objects
domain_object ms f e = (if_taken (is_some (layout_in vega_schema DOMAIN ms)) _ f e, form_taken (is_some (layout_in vega_schema DOMAIN ms)) _ f e)

ordered : (o : Option DomainOrder) → IfSome o (λ o. IsTrue (is_order_built (Some o))) → IsTrue (is_order_built o)
ordered None e = refl
ordered (Some o) e = e

by_members : (ms : List Member) (signal fields : Bool) → IsTrue (is_order_built (domain_order_at ms (codes "sort"))) →
    IsTrue (is_domain_built (if signal then domain.Signal (needed_expression ms (codes "signal"))
    else (if fields then domain.Fields (fields_domain_of ms) else domain.Field (field_domain_of ms))))
by_members ms true fields e = refl
by_members ms false true e = e
by_members ms false false e = e

domain_by : (round : Trail) (number : ℕ) (tree : Json) → Stands round number SCALE_DOMAIN tree → (o : Opened) → out-Json tree ≡ o →
    IfSome (domain_in o) (λ d. IsTrue (is_domain_built d))
domain_by round number tree s level.Null e = tt
domain_by round number tree s (level.Flag b) e = tt
domain_by round number tree s (level.Number n) e = tt
domain_by round number tree s level.Huge e = tt
domain_by round number tree s (level.Text t) e = tt
domain_by round number tree s (level.List items) e = refl
domain_by round number tree s (level.Object ms) e =
    let l : Laid round number SCALE_DOMAIN DOMAIN tree ms = laid_out round number SCALE_DOMAIN DOMAIN tree ms s e (domain_object ms) in
    by_members ms (has_member ms (codes "signal")) (has_member ms (codes "fields")) (ordered _
    (reads_kept_or (λ o. IsTrue (is_order_built (Some o))) domain_order_in (noted number SCALE_DOMAIN tree ∷ round) l.layout ms
    (codes "sort") DOMAIN_ORDER l.stands (sort_ruled ms l.layout l.applies)
    (λ i v t. order_in (noted number SCALE_DOMAIN tree ∷ round) i v t (out-Json v) refl)))

-- a domain is one that is built
pub domain_kept : (round : Trail) (number : ℕ) (tree : Json) → Stands round number SCALE_DOMAIN tree →
    IfSome (domain_in (out-Json tree)) (λ d. IsTrue (is_domain_built d))
domain_kept round number tree s = domain_by round number tree s (out-Json tree) refl
