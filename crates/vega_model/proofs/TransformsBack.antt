-- Transforms are read back.
use Rattle.std.proofs.Common.{◌≡◌, ℕ, List, [], ◌∷◌, refl, ap, ◌∙◌}
use Rattle.std.specs.Option.{option_map, option_and_then, unwrap_or}
use Rattle.std.specs.Prelude.{true, Some, codes}
use Rattle.json_exact.specs.Inside.{number_in}
use Rattle.json_exact.specs.Path.{member_value}
use Rattle.json_exact.specs.declared.json.Json.{out-Json}
use Rattle.json_exact.specs.declared.json.Member.{Member}
use Rattle.vega_spec.specs.declared.transforms.Bin.{Bin}
use Rattle.vega_spec.specs.declared.transforms.BinExtent.{BinExtent}
use Rattle.vega_spec.specs.declared.transforms.Extent.{Extent}
use Rattle.vega_spec.specs.declared.transforms.Filter.{Filter}
use Rattle.vega_spec.specs.declared.transforms.Fold.{Fold}
use Rattle.vega_spec.specs.declared.transforms.Formula.{Formula}
use Rattle.vega_spec.specs.declared.transforms.Stack.{Stack}
use Rattle.vega_spec.specs.declared.transforms.TimeUnit.{TimeUnit}
use Rattle.vega_spec.specs.declared.transforms.Transform.{Transform}
use Rattle.vega_building.specs.Names.{offset_named}
use Rattle.vega_building.specs.Orders.{sort_of}
use Rattle.vega_building.specs.Parts.{members_of}
use Rattle.vega_building.specs.Transforms.{filter_of, formula_of, extent_of, bin_extent_in, bin_of, time_unit_of, stack_of, fold_of}
use Rattle.vega_building.specs.Transforms.{transform_by, transform_of}
use Rattle.vega_writing.specs.Groupings.{aggregate_slots, window_slots, lookup_slots}
use Rattle.vega_writing.specs.Names.{code_tree}
use Rattle.vega_writing.specs.Orders.{sort_slots}
use Rattle.vega_writing.specs.Slots.{object, present}
use Rattle.vega_writing.specs.Transforms.{transform_tree, bin_extent_tree, offset_tree, filter_slots, formula_slots, extent_slots}
use Rattle.vega_writing.specs.Transforms.{bin_slots, time_unit_slots, stack_slots, fold_slots, extent_signal}
use Rattle.vega_writing.specs.Trees.{text_tree, number_tree}
use Rattle.vega_writing.specs.declared.slots.Slot.{Slot}
use Rattle.case_table.specs.Names.{time_units, index_of}
use Rattle.vega_model.proofs.Back.{opened_number, opened_list, opened_object, members_back, must_found, must_text, needed_text_back}
use Rattle.vega_model.proofs.Back.{may_number, may_object_always, must_named, may_named, may_texts, must_texts}
use Rattle.vega_model.proofs.Found.{at_name, are_distinct, found}
use Rattle.vega_model.proofs.GroupingsBack.{aggregate_back, window_back, lookup_back}
use Rattle.vega_model.proofs.Leaves.{unit_reads, needed_expression_back, may_pair}
use Rattle.vega_model.proofs.OrdersBack.{sort_back}
use Rattle.vega_model.proofs.Words.{offset_reads}
use Rattle.vega_model.specs.RoundTrip.{IsCode, IsReading, asked_codes, asked_readings}
use Rattle.vega_model.specs.Codes.{OfTransform}
use Rattle.vega_spec.specs.declared.transforms.BinExtent.TheVariants as extent
use Rattle.vega_spec.specs.declared.transforms.Transform.TheVariants as transform

pub bin_extent_reads : (x : BinExtent) → bin_extent_in (out-Json (bin_extent_tree x)) ≡ Some x
unfolding bin_extent_tree
bin_extent_reads (extent.Pair first second) =
    ap bin_extent_in (opened_list (number_tree first ∷ number_tree second ∷ []))
    ∙ ap (λ n. option_and_then (λ x. option_map (λ y. extent.Pair x y) (number_in (out-Json (number_tree second)))) (number_in n))
    (opened_number first)
    ∙ ap (λ n. option_map (λ y. extent.Pair first y) (number_in n)) (opened_number second)
bin_extent_reads (extent.Signal name) =
    ap bin_extent_in (opened_object (extent_signal name))
    ∙ ap (option_map extent.Signal)
    (must_text (present (extent_signal name)) (codes "signal") name (found (extent_signal name) (codes "signal") refl))

-- a filter is read back
pub filter_back : (f : Filter) → IsReading f.expr → filter_of (present (filter_slots f)) ≡ f
unfolding filter_slots
filter_back f r =
    let ms : List Member = present (filter_slots f) in
    let at : (name : List ℕ) → member_value ms name ≡ at_name (filter_slots f) name = λ name. found (filter_slots f) name refl in
    λ j. record {
      expr = needed_expression_back ms (codes "expr") f.expr (at (codes "expr")) r j;
    }

-- a formula is read back
pub formula_back : (f : Formula) → IsReading f.expr → formula_of (present (formula_slots f)) ≡ f
unfolding formula_slots
formula_back f r =
    let ms : List Member = present (formula_slots f) in
    let at : (name : List ℕ) → member_value ms name ≡ at_name (formula_slots f) name = λ name. found (formula_slots f) name refl in
    λ j. record {
      expr = needed_expression_back ms (codes "expr") f.expr (at (codes "expr")) r j;
      as_ = needed_text_back ms (codes "as") f.as_ (at (codes "as")) j;
    }

-- an extent is read back
pub extent_back : (e : Extent) → extent_of (present (extent_slots e)) ≡ e
unfolding extent_slots
extent_back e =
    let ms : List Member = present (extent_slots e) in
    let at : (name : List ℕ) → member_value ms name ≡ at_name (extent_slots e) name = λ name. found (extent_slots e) name refl in
    λ j. record {
      field = needed_text_back ms (codes "field") e.field (at (codes "field")) j;
      signal = needed_text_back ms (codes "signal") e.signal (at (codes "signal")) j;
    }

-- bins is read back
pub bin_back : (b : Bin) → bin_of (present (bin_slots b)) ≡ b
unfolding bin_slots
bin_back b =
    let ms : List Member = present (bin_slots b) in
    let at : (name : List ℕ) → member_value ms name ≡ at_name (bin_slots b) name = λ name. found (bin_slots b) name refl in
    λ j. record {
      field = needed_text_back ms (codes "field") b.field (at (codes "field")) j;
      extent = ap (λ o. unwrap_or o (extent.Signal []))
          (must_found ms (codes "extent") bin_extent_in (bin_extent_tree b.extent) b.extent (at (codes "extent"))
          (bin_extent_reads b.extent)) j;
      maxbins = may_number ms (codes "maxbins") b.maxbins (at (codes "maxbins")) j;
      step = may_number ms (codes "step") b.step (at (codes "step")) j;
      as_ = may_pair ms (codes "as") b.as_ (at (codes "as")) j;
    }

-- units of time is read back
pub time_unit_back : (t : TimeUnit) → IsCode time_units t.units → time_unit_of (present (time_unit_slots t)) ≡ t
unfolding time_unit_slots
time_unit_back t c =
    let ms : List Member = present (time_unit_slots t) in
    let at : (name : List ℕ) → member_value ms name ≡ at_name (time_unit_slots t) name = λ name. found (time_unit_slots t) name refl in
    λ j. record {
      field = needed_text_back ms (codes "field") t.field (at (codes "field")) j;
      units = ap (λ o. unwrap_or o 0)
          (must_named ms (codes "units") (index_of time_units) (code_tree time_units) t.units (at (codes "units"))
          (unit_reads t.units c)) j;
      as_ = may_pair ms (codes "as") t.as_ (at (codes "as")) j;
    }

-- a stack is read back
pub stack_back : (s : Stack) → stack_of (present (stack_slots s)) ≡ s
unfolding stack_slots
stack_back s =
    let ms : List Member = present (stack_slots s) in
    let at : (name : List ℕ) → member_value ms name ≡ at_name (stack_slots s) name = λ name. found (stack_slots s) name refl in
    λ j. record {
      groupby = may_texts ms (codes "groupby") s.groupby (at (codes "groupby")) j;
      field = needed_text_back ms (codes "field") s.field (at (codes "field")) j;
      sort = may_object_always ms (codes "sort") sort_of sort_slots s.sort (at (codes "sort")) sort_back j;
      offset = may_named ms (codes "offset") offset_named offset_tree s.offset (at (codes "offset")) offset_reads j;
      as_ = may_pair ms (codes "as") s.as_ (at (codes "as")) j;
    }

-- a fold is read back
pub fold_back : (f : Fold) → fold_of (present (fold_slots f)) ≡ f
unfolding fold_slots
fold_back f =
    let ms : List Member = present (fold_slots f) in
    let at : (name : List ℕ) → member_value ms name ≡ at_name (fold_slots f) name = λ name. found (fold_slots f) name refl in
    λ j. record {
      fields = ap (λ o. unwrap_or o []) (must_texts ms (codes "fields") f.fields (at (codes "fields"))) j;
      as_ = may_pair ms (codes "as") f.as_ (at (codes "as")) j;
    }

-- a transform of this type
typed : (slots : List Slot) (word : List ℕ) → are_distinct slots ≡ true → at_name slots (codes "type") ≡ Some (text_tree word) →
    transform_of (members_of (object slots)) ≡ transform_by word (present slots)
typed slots word distinct here =
    ap transform_of (members_back slots)
    ∙ ap (λ w. transform_by w (present slots))
    (needed_text_back (present slots) (codes "type") word (found slots (codes "type") distinct ∙ here))

pub transform_back : (t : Transform) → OfTransform asked_codes t → OfTransform asked_readings t →
    transform_of (members_of (transform_tree t)) ≡ t
unfolding transform_tree filter_slots formula_slots extent_slots bin_slots time_unit_slots aggregate_slots stack_slots window_slots
    lookup_slots fold_slots
transform_back (transform.Filter f) c r = typed (filter_slots f) (codes "filter") refl refl ∙ ap transform.Filter (filter_back f r)
transform_back (transform.Formula f) c r = typed (formula_slots f) (codes "formula") refl refl ∙ ap transform.Formula (formula_back f r)
transform_back (transform.Extent e) c r = typed (extent_slots e) (codes "extent") refl refl ∙ ap transform.Extent (extent_back e)
transform_back (transform.Bin b) c r = typed (bin_slots b) (codes "bin") refl refl ∙ ap transform.Bin (bin_back b)
transform_back (transform.TimeUnit u) c r = typed (time_unit_slots u) (codes "timeunit") refl refl
    ∙ ap transform.TimeUnit (time_unit_back u c)
transform_back (transform.Aggregate a) c r = typed (aggregate_slots (codes "aggregate") a) (codes "aggregate") refl refl
    ∙ ap transform.Aggregate (aggregate_back (codes "aggregate") a c)
transform_back (transform.JoinAggregate a) c r = typed (aggregate_slots (codes "joinaggregate") a) (codes "joinaggregate") refl refl
    ∙ ap transform.JoinAggregate (aggregate_back (codes "joinaggregate") a c)
transform_back (transform.Stack s) c r = typed (stack_slots s) (codes "stack") refl refl ∙ ap transform.Stack (stack_back s)
transform_back (transform.Window w) c r = typed (window_slots w) (codes "window") refl refl ∙ ap transform.Window (window_back w c)
transform_back (transform.Lookup l) c r = typed (lookup_slots l) (codes "lookup") refl refl ∙ ap transform.Lookup (lookup_back l)
transform_back (transform.Fold f) c r = typed (fold_slots f) (codes "fold") refl refl ∙ ap transform.Fold (fold_back f)
