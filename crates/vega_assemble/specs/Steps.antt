-- Steps over rows as transforms. Each has all of its names, orders and numbers written, so that nothing is left to a default. A bin takes in
-- all numbers of its own rows, as the signal that it names for its extent is never a pair.
use Rattle.std.specs.Prelude.{◌≡◌, refl, ℕ, ◌*◌, ℤ, pos, ◌*ℤ◌, Bool, Option, Some, None, List, [], ◌∷◌, map, codes, if◌then◌else◌}
use Rattle.std.specs.Option.{option_map, option_map_or}
use Rattle.fixed_num.specs.Number.{million}
use Rattle.plain_rows.specs.declared.transforms.BinOf.{BinOf}
use Rattle.plain_rows.specs.declared.transforms.FoldOf.{FoldOf}
use Rattle.plain_rows.specs.declared.transforms.GroupOf.{GroupOf}
use Rattle.plain_rows.specs.declared.transforms.LookupOf.{LookupOf}
use Rattle.plain_rows.specs.declared.transforms.Offset.{Offset as RowOffset}
use Rattle.plain_rows.specs.declared.transforms.Offset.TheVariants as rows
use Rattle.plain_rows.specs.declared.transforms.OpOf.{OpOf}
use Rattle.plain_rows.specs.declared.transforms.SortBy.{SortBy}
use Rattle.plain_rows.specs.declared.transforms.StackOf.{StackOf}
use Rattle.plain_rows.specs.declared.transforms.TimeOf.{TimeOf}
use Rattle.plain_rows.specs.declared.transforms.WindowOf.{WindowOf}
use Rattle.vega_spec.specs.declared.groupings.Aggregate.{Aggregate}
use Rattle.vega_spec.specs.declared.groupings.Frame.{Frame}
use Rattle.vega_spec.specs.declared.groupings.Lookup.{Lookup}
use Rattle.vega_spec.specs.declared.groupings.Window.{Window}
use Rattle.vega_spec.specs.declared.orders.Order.{Order}
use Rattle.vega_spec.specs.declared.orders.Order.TheVariants.{Ascending, Descending}
use Rattle.vega_spec.specs.declared.orders.Orders.TheVariants as orders
use Rattle.vega_spec.specs.declared.orders.Sort.{Sort}
use Rattle.vega_spec.specs.declared.orders.Texts.TheVariants as texts
use Rattle.vega_spec.specs.declared.transforms.Bin.{Bin}
use Rattle.vega_spec.specs.declared.transforms.BinExtent.{BinExtent}
use Rattle.vega_spec.specs.declared.transforms.BinExtent.TheVariants as bounds
use Rattle.vega_spec.specs.declared.transforms.Fold.{Fold}
use Rattle.vega_spec.specs.declared.transforms.Offset.{Offset}
use Rattle.vega_spec.specs.declared.transforms.Offset.TheVariants.{Zero, Normalize, Center}
use Rattle.vega_spec.specs.declared.transforms.Stack.{Stack}
use Rattle.vega_spec.specs.declared.transforms.TimeUnit.{TimeUnit}
use Rattle.vega_spec.specs.declared.transforms.Transform.{Transform}
use Rattle.vega_spec.specs.declared.transforms.Transform.TheVariants as vega
use Rattle.plan_kit.specs.declared.steps.Step.{Step}
use Rattle.plan_kit.specs.declared.steps.Step.TheVariants as step
use Rattle.vega_assemble.specs.Names.{none_name}

-- a count as a number
abbrev pub counted : ℕ → ℤ
counted n = pos (n * million)

-- ---- orders

abbrev pub direction : Bool → Order
direction descending = if descending then Descending else Ascending

abbrev pub directed : SortBy → Order
directed s = direction s.descending

abbrev pub some_sort : List SortBy → Sort
some_sort by = record { field = texts.Several (map (λ (s : SortBy). s.field) by); order = Some (orders.Several (map directed by)) }

-- an order by fields, if there are any
abbrev pub sort_written : List SortBy → Option Sort
sort_written [] = None
sort_written (first ∷ others) = Some (some_sort (first ∷ others))

-- ---- one transform

-- the extent of bins: the two numbers that are given, or else the signal that is always null
abbrev pub between : ℤ × ℤ → BinExtent
between ends = bounds.Pair ends.0 ends.1

abbrev pub extent_written : List ℕ → Option (ℤ × ℤ) → BinExtent
extent_written stem extent = option_map_or between extent (bounds.Signal (none_name stem))

abbrev pub bin_written : List ℕ → BinOf → Bin
bin_written stem b = record {
  field = b.field;
  extent = extent_written stem b.extent;
  maxbins = Some (counted b.maxbins);
  step = b.step;
  as_ = Some (b.out, b.out_end);
}

abbrev pub unit_written : TimeOf → TimeUnit
unit_written t = record { field = t.field; units = t.unit; as_ = Some (t.out, t.out_end) }

-- operations: their codes, fields and names
abbrev pub codes_of : List OpOf → List ℕ
codes_of ops = map (λ (o : OpOf). o.op) ops

abbrev pub fields_of : List OpOf → List (Option (List ℕ))
fields_of ops = map (λ (o : OpOf). o.field) ops

abbrev pub name_given : OpOf → Option (List ℕ)
name_given o = Some o.out

abbrev pub names_of : List OpOf → List (Option (List ℕ))
names_of ops = map name_given ops

abbrev pub group_written : GroupOf → Aggregate
group_written g = record {
  groupby = Some g.groupby;
  ops = Some (codes_of g.ops);
  fields = Some (fields_of g.ops);
  as_ = Some (names_of g.ops);
}

abbrev pub offset_written : RowOffset → Offset
offset_written rows.Zero = Zero
offset_written rows.Normalize = Normalize
offset_written rows.Center = Center

abbrev pub stack_written : StackOf → Stack
stack_written s = record {
  groupby = Some s.groupby;
  field = s.field;
  sort = sort_written s.sort;
  offset = Some (offset_written s.offset);
  as_ = Some (s.out, s.out_end);
}

-- the numbers that operations of a window take, and the bounds of its frame
abbrev pub param_given : ℕ → Option ℤ
param_given n = Some (counted n)

abbrev pub bound_written : ℤ → ℤ
bound_written n = n *ℤ pos million

abbrev pub frame_written : WindowOf → Frame
frame_written w = record { first = option_map bound_written w.before; last = option_map bound_written w.after }

abbrev pub window_written : WindowOf → Window
window_written w = record {
  ops = codes_of w.ops;
  fields = Some (fields_of w.ops);
  params = Some (map param_given w.params);
  as_ = Some (names_of w.ops);
  groupby = Some w.groupby;
  sort = sort_written w.sort;
  frame = Some (frame_written w);
  ignore_peers = Some w.ignore_peers;
}

abbrev pub lookup_written : List ℕ → LookupOf → Lookup
lookup_written source l = record {
  from = source;
  key = l.key_there;
  fields = l.key_here ∷ [];
  values = l.fields;
  as_ = Some l.outs;
  default = Some l.otherwise;
}

abbrev pub fold_written : FoldOf → Fold
fold_written f = record { fields = f.fields; as_ = Some (f.out_key, f.out_value) }

-- a step
abbrev pub step_written : List ℕ → Step → Transform
step_written stem (step.Filter e) = vega.Filter record { expr = e }
step_written stem (step.Calculate e name) = vega.Formula record { expr = e; as_ = name }
step_written stem (step.Bin b) = vega.Bin (bin_written stem b)
step_written stem (step.Unit t) = vega.TimeUnit (unit_written t)
step_written stem (step.Group g) = vega.Aggregate (group_written g)
step_written stem (step.Join g) = vega.JoinAggregate (group_written g)
step_written stem (step.Stack s) = vega.Stack (stack_written s)
step_written stem (step.Window w) = vega.Window (window_written w)
step_written stem (step.Lookup source l) = vega.Lookup (lookup_written source l)
step_written stem (step.Fold f) = vega.Fold (fold_written f)

abbrev pub steps_written : List ℕ → List Step → List Transform
steps_written stem steps = map (step_written stem) steps

-- The rules at work.

an_order_by_nothing : sort_written [] ≡ None
an_order_by_nothing = refl

bins_of_all_numbers : bin_written [] record { field = codes "q"; extent = None; step = None; maxbins = 10; out = codes "b"; out_end = codes "b_end" } ≡ record {
  field = codes "q";
  extent = bounds.Signal (codes "none");
  maxbins = Some (pos (10 * million));
  step = None;
  as_ = Some (codes "b", codes "b_end");
}
bins_of_all_numbers = refl
