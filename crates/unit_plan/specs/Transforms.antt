-- The transforms of views as steps. What a member says that is absent: no fields for `groupby` and `sort`, `ascending` for an order, `zero` for an
-- offset; 10 for `maxbins`; 1 for the `param` of an operation; from the partition's first row to the row itself for a frame, which is widened to
-- peers; the names of the fields for the `as` of lookup, and null for its default; `key` and `value` for the `as` of fold. A name that stands alone
-- for a start and an end is that of the start, and with `_end` that of the end.
use Rattle.std.specs.Prelude.{◌≡◌, refl, ℕ, ◌/◌, ◌*◌, ◌-◌, ◌^◌, ℤ, pos, neg_ℤ, min, unsigned_abs, Bool, true, false, Option, Some, None}
use Rattle.std.specs.Prelude.{List, [], ◌∷◌, map, codes, unwrap_or}
use Rattle.std.specs.Option.{option_map, option_map_or, option_and_then}
use Rattle.std.specs.Int.{int_min, int_max, int_div_euclid}
use Rattle.fixed_num.specs.Number.{million}
use Rattle.cell_value.specs.declared.cell.Cell.TheVariants.{Null}
use Rattle.plain_rows.specs.declared.transforms.BinOf.{BinOf}
use Rattle.plain_rows.specs.declared.transforms.FoldOf.{FoldOf}
use Rattle.plain_rows.specs.declared.transforms.GroupOf.{GroupOf}
use Rattle.plain_rows.specs.declared.transforms.LookupOf.{LookupOf}
use Rattle.plain_rows.specs.declared.transforms.Offset.{Offset as RowOffset}
use Rattle.plain_rows.specs.declared.transforms.Offset.TheVariants as rows
use Rattle.plain_rows.specs.declared.transforms.OpOf.{OpOf}
use Rattle.plain_rows.specs.declared.transforms.SortBy.{SortBy}
use Rattle.plain_rows.specs.declared.transforms.StackOf.{StackOf}
use Rattle.plain_rows.specs.declared.transforms.TimeOf.{TimeOf}
use Rattle.plain_rows.specs.declared.transforms.WindowOf.{WindowOf}
use Rattle.vl_spec.specs.declared.definitions.Bin.TheVariants as bin
use Rattle.vl_spec.specs.declared.groupings.AggregateTransform.{AggregateTransform}
use Rattle.vl_spec.specs.declared.groupings.Frame.{Frame}
use Rattle.vl_spec.specs.declared.groupings.LookupTransform.{LookupTransform}
use Rattle.vl_spec.specs.declared.groupings.Operation.{Operation}
use Rattle.vl_spec.specs.declared.groupings.WindowOperation.{WindowOperation}
use Rattle.vl_spec.specs.declared.groupings.WindowTransform.{WindowTransform}
use Rattle.vl_spec.specs.declared.orders.Offset.{Offset}
use Rattle.vl_spec.specs.declared.orders.Offset.TheVariants.{Zero, Normalize, Center}
use Rattle.vl_spec.specs.declared.orders.Order.{Order}
use Rattle.vl_spec.specs.declared.orders.Order.TheVariants.{Ascending, Descending}
use Rattle.vl_spec.specs.declared.orders.SortField.{SortField}
use Rattle.vl_spec.specs.declared.orders.Texts.{Texts}
use Rattle.vl_spec.specs.declared.orders.Texts.TheVariants as texts
use Rattle.vl_spec.specs.declared.transforms.BinTransform.{BinTransform}
use Rattle.vl_spec.specs.declared.transforms.FoldTransform.{FoldTransform}
use Rattle.vl_spec.specs.declared.transforms.Names.{Names}
use Rattle.vl_spec.specs.declared.transforms.Names.TheVariants as names
use Rattle.vl_spec.specs.declared.transforms.StackTransform.{StackTransform}
use Rattle.vl_spec.specs.declared.transforms.TimeUnitTransform.{TimeUnitTransform}
use Rattle.vl_spec.specs.declared.transforms.Transform.{Transform}
use Rattle.vl_spec.specs.declared.transforms.Transform.TheVariants as transform
use Rattle.plan_kit.specs.declared.steps.Step.{Step}
use Rattle.plan_kit.specs.declared.steps.Step.TheVariants as step
use Rattle.unit_plan.specs.Filters.{filter_expr}
use Rattle.cell_names.specs.Names.{bin_settings, end_name}

-- a whole number as a count of 32 bits, without its sign; a greater one is cut, which changes nothing, since no list has so many rows
abbrev pub count_in : ℤ → ℕ
count_in n = min (unsigned_abs n / million) (2 ^ 32 - 1)

-- a whole number as an offset of 32 bits, cut alike
abbrev pub offset_in : ℤ → ℤ
offset_in n = int_max (neg_ℤ (pos (2 ^ 31))) (int_min (int_div_euclid n (pos million)) (pos (2 ^ 31 - 1)))

-- the names of a start and of its end
abbrev pub start_named : Names → List ℕ
start_named (names.One name) = name
start_named (names.Two start end) = start

abbrev pub end_named : Names → List ℕ
end_named (names.One name) = end_name name
end_named (names.Two start end) = end

-- `aggregate` and `joinaggregate`
abbrev pub op_settings : Operation → OpOf
op_settings o = record { op = o.op; field = o.field; out = o.as_ }

abbrev pub group_settings : AggregateTransform → GroupOf
group_settings a = record { groupby = unwrap_or a.groupby []; ops = map op_settings a.aggregate }

-- orders
abbrev pub is_descending : Order → Bool
is_descending Ascending = false
is_descending Descending = true

abbrev pub sort_by : SortField → SortBy
sort_by f = record { field = f.field; descending = option_map_or is_descending f.order false }

abbrev pub sort_settings : Option (List SortField) → List SortBy
sort_settings sort = option_map_or (λ fields. map sort_by fields) sort []

-- `stack`
abbrev pub offset_of : Offset → RowOffset
offset_of Zero = rows.Zero
offset_of Normalize = rows.Normalize
offset_of Center = rows.Center

abbrev pub stack_settings : StackTransform → StackOf
stack_settings s = record {
  field = s.stack;
  groupby = unwrap_or s.groupby [];
  sort = sort_settings s.sort;
  offset = option_map_or offset_of s.offset rows.Zero;
  out = start_named s.as_;
  out_end = end_named s.as_;
}

-- `bin`, which takes in all numbers of the rows
abbrev pub transform_bins : BinTransform → BinOf
transform_bins b = record {
  field = b.field;
  extent = None;
  step = (bin_settings b.bin).step;
  maxbins = count_in (unwrap_or (bin_settings b.bin).maxbins (pos (10 * million)));
  out = start_named b.as_;
  out_end = end_named b.as_;
}

-- `timeUnit`
abbrev pub unit_settings : TimeUnitTransform → TimeOf
unit_settings t = record { field = t.field; unit = t.time_unit; out = t.as_; out_end = end_name t.as_ }

-- `window`
abbrev pub window_op : WindowOperation → OpOf
window_op o = record { op = o.op; field = o.field; out = o.as_ }

abbrev pub param_of : WindowOperation → ℕ
param_of o = option_map_or count_in o.param 1

abbrev pub before_of : Option Frame → Option ℤ
before_of frame = option_and_then (λ (bounds : Frame). option_map offset_in bounds.first) frame

abbrev pub after_of : Option Frame → Option ℤ
after_of frame = option_map_or (λ (bounds : Frame). option_map offset_in bounds.last) frame (Some (pos 0))

abbrev pub window_settings : WindowTransform → WindowOf
window_settings w = record {
  ops = map window_op w.window;
  params = map param_of w.window;
  groupby = unwrap_or w.groupby [];
  sort = sort_settings w.sort;
  before = before_of w.frame;
  after = after_of w.frame;
  ignore_peers = unwrap_or w.ignore_peers false;
}

-- `lookup`
abbrev pub texts_in : Texts → List (List ℕ)
texts_in (texts.One text) = text ∷ []
texts_in (texts.Several several) = several

abbrev pub lookup_settings : LookupTransform → LookupOf
lookup_settings l = record {
  key_here = l.lookup;
  key_there = l.from.key;
  fields = l.from.fields;
  outs = option_map_or texts_in l.as_ l.from.fields;
  otherwise = unwrap_or l.default Null;
}

-- `fold`
abbrev pub fold_settings : FoldTransform → FoldOf
fold_settings f = record {
  fields = f.fold;
  out_key = option_map_or (λ both. both.0) f.as_ (codes "key");
  out_value = option_map_or (λ both. both.1) f.as_ (codes "value");
}

-- a transform, where it is known which names are selections
abbrev pub step_of : (List ℕ → Bool) → Transform → Step
step_of is_selection (transform.Filter f) = step.Filter (filter_expr is_selection f)
step_of is_selection (transform.Calculate c) = step.Calculate c.calculate c.as_
step_of is_selection (transform.Bin b) = step.Bin (transform_bins b)
step_of is_selection (transform.TimeUnit t) = step.Unit (unit_settings t)
step_of is_selection (transform.Aggregate a) = step.Group (group_settings a)
step_of is_selection (transform.JoinAggregate a) = step.Join (group_settings a)
step_of is_selection (transform.Stack s) = step.Stack (stack_settings s)
step_of is_selection (transform.Window w) = step.Window (window_settings w)
step_of is_selection (transform.Lookup l) = step.Lookup (unwrap_or l.from.data_ []) (lookup_settings l)
step_of is_selection (transform.Fold f) = step.Fold (fold_settings f)

-- The rules at work.

bins_without_members : transform_bins record { bin = bin.Flag true; field = codes "v"; as_ = names.One (codes "b") } ≡ record {
  field = codes "v";
  extent = None;
  step = None;
  maxbins = 10;
  out = codes "b";
  out_end = codes "b_end";
}
bins_without_members = refl

a_stack_without_members : stack_settings record { stack = codes "v"; groupby = None; sort = None; offset = None; as_ = names.Two (codes "a") (codes "b") }
    ≡ record { field = codes "v"; groupby = []; sort = []; offset = rows.Zero; out = codes "a"; out_end = codes "b" }
a_stack_without_members = refl

a_window_without_members :
    window_settings record {
      window = record { op = 15; field = Some (codes "v"); param = None; as_ = codes "before" } ∷ [];
      groupby = None;
      sort = None;
      frame = None;
      ignore_peers = None;
    }
    ≡ record {
      ops = record { op = 15; field = Some (codes "v"); out = codes "before" } ∷ [];
      params = 1 ∷ [];
      groupby = [];
      sort = [];
      before = None;
      after = Some (pos 0);
      ignore_peers = false;
    }
a_window_without_members = refl

a_lookup_without_names : (lookup_settings record {
  lookup = codes "city";
  from = record { data_ = Some (codes "cities"); key = codes "id"; fields = codes "lat" ∷ codes "lon" ∷ [] };
  as_ = None;
  default = None;
}).outs ≡ codes "lat" ∷ codes "lon" ∷ []
a_lookup_without_names = refl

a_fold_without_names : fold_settings record { fold = codes "a" ∷ codes "b" ∷ []; as_ = None }
    ≡ record { fields = codes "a" ∷ codes "b" ∷ []; out_key = codes "key"; out_value = codes "value" }
a_fold_without_names = refl
