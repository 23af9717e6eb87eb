-- What operations over groups and windows ask of rows, with what stands for the members that are absent.
use Rattle.std.specs.Prelude.{◌≡◌, refl, ℕ, ◌/◌, ◌-◌, ◌^◌, ℤ, pos, neg_ℤ, min, unsigned_abs, false, Option, Some, None, List, [], ◌∷◌, ◌++◌}
use Rattle.std.specs.Prelude.{map, slice_get, unwrap_or, codes}
use Rattle.std.specs.List.{enumerate_from}
use Rattle.std.specs.Int.{int_min, int_max, int_div_euclid}
use Rattle.std.specs.Option.{option_map, option_map_or}
use Rattle.fixed_num.specs.Number.{million}
use Rattle.fixed_num.specs.Ranges.{◌>>=◌}
use Rattle.case_table.specs.Names.{operations}
use Rattle.plain_rows.specs.declared.transforms.OpOf.{OpOf}
use Rattle.plain_rows.specs.declared.transforms.GroupOf.{GroupOf}
use Rattle.plain_rows.specs.declared.transforms.WindowOf.{WindowOf}
use Rattle.vega_spec.specs.declared.groupings.Aggregate.{Aggregate}
use Rattle.vega_spec.specs.declared.groupings.Frame.{Frame}
use Rattle.vega_spec.specs.declared.groupings.Window.{Window}
use Rattle.vega_lists.specs.Orders.{sort_or_empty}

-- the entry at a place, where neither the list is absent nor the entry
abbrev pub entry_at : {X : Type 0} → Option (List (Option X)) → ℕ → Option X
entry_at list place = list >>= λ entries. slice_get entries place >>= λ entry. entry

-- the name of an operation by its code; empty where there is none
abbrev pub operation_name : ℕ → List ℕ
operation_name op = unwrap_or (slice_get operations op) []

-- without a name of its own what an operation gives has that of the operation, and then that of its field
abbrev pub default_name : ℕ → Option (List ℕ) → List ℕ
default_name op field = operation_name op ++ option_map_or (λ name. codes "_" ++ name) field []

-- an operation with its field and its name
abbrev pub op_settings : ℕ → Option (List ℕ) → Option (List ℕ) → OpOf
op_settings op field name = record { op = op; field = field; out = unwrap_or name (default_name op field) }

-- the operation at a place, with the field and the name at this place
abbrev pub op_at : Option (List (Option (List ℕ))) → Option (List (Option (List ℕ))) → ℕ × ℕ → OpOf
op_at fields names at = op_settings at.1 (entry_at fields at.0) (entry_at names at.0)

-- operations, each with those of its place
abbrev pub ops_settings : List ℕ → Option (List (Option (List ℕ))) → Option (List (Option (List ℕ))) → List OpOf
ops_settings ops fields names = map (op_at fields names) (enumerate_from 0 ops)

-- the operations of a transform that has none are one `count`
abbrev pub one_count : List ℕ
one_count = 0 ∷ []

-- what `aggregate` and `joinaggregate` compute of each group
abbrev pub group_settings : Aggregate → GroupOf
group_settings a = record { groupby = unwrap_or a.groupby []; ops = ops_settings (unwrap_or a.ops one_count) a.fields a.as_ }

-- a whole number as a count of 32 bits, without its sign; a greater one is cut, which changes nothing, since no list has so many rows
abbrev pub count_in : ℤ → ℕ
count_in n = min (unsigned_abs n / million) (2 ^ 32 - 1)

-- a whole number as an offset of 32 bits, cut alike
abbrev pub offset_in : ℤ → ℤ
offset_in n = int_max (neg_ℤ (pos (2 ^ 31))) (int_min (int_div_euclid n (pos million)) (pos (2 ^ 31 - 1)))

-- the number that an operation takes, 1 without one
abbrev pub param_at : Option (List (Option ℤ)) → ℕ → ℕ
param_at params place = option_map_or count_in (entry_at params place) 1

-- the numbers that operations take, by their places
abbrev pub param_for : Option (List (Option ℤ)) → ℕ × ℕ → ℕ
param_for params at = param_at params at.0

abbrev pub params_of : List ℕ → Option (List (Option ℤ)) → List ℕ
params_of ops params = map (param_for params) (enumerate_from 0 ops)

-- the bounds of a frame: without one it goes from the partition's first row to the row itself
abbrev pub before_of : Option Frame → Option ℤ
before_of frame = frame >>= λ (bounds : Frame). option_map offset_in bounds.first

abbrev pub after_of : Option Frame → Option ℤ
after_of frame = option_map_or (λ (bounds : Frame). option_map offset_in bounds.last) frame (Some (pos 0))

-- what `window` computes of each row
abbrev pub window_settings : Window → WindowOf
window_settings w = record {
  ops = ops_settings w.ops w.fields w.as_;
  params = params_of w.ops w.params;
  groupby = unwrap_or w.groupby [];
  sort = sort_or_empty w.sort;
  before = before_of w.frame;
  after = after_of w.frame;
  ignore_peers = unwrap_or w.ignore_peers false;
}

-- The rules at work.

-- `count` without a field, `sum` of `v`, and `sum` of `v` under a name
the_names_of_operations : map (λ (op : OpOf). op.out) (ops_settings (0 ∷ 4 ∷ 4 ∷ []) (Some (None ∷ Some (codes "v") ∷ Some (codes "v") ∷ []))
    (Some (None ∷ None ∷ Some (codes "total") ∷ [])))
    ≡ codes "count" ∷ codes "sum_v" ∷ codes "total" ∷ []
the_names_of_operations = refl

an_aggregate_without_members : group_settings record { groupby = None; ops = None; fields = None; as_ = None }
    ≡ record { groupby = []; ops = record { op = 0; field = None; out = codes "count" } ∷ [] }
an_aggregate_without_members = refl

-- a window with one operation and this frame
abbrev a_window : Option Frame → Window
a_window frame = record {
  ops = 15 ∷ [];
  fields = Some (Some (codes "v") ∷ []);
  params = None;
  as_ = None;
  groupby = None;
  sort = None;
  frame = frame;
  ignore_peers = None;
}

a_window_without_members : window_settings (a_window None) ≡ record {
  ops = record { op = 15; field = Some (codes "v"); out = codes "lag_v" } ∷ [];
  params = 1 ∷ [];
  groupby = [];
  sort = [];
  before = None;
  after = Some (pos 0);
  ignore_peers = false;
}
a_window_without_members = refl

a_frame_with_one_bound : (window_settings (a_window (Some (record { first = Some (neg_ℤ (pos 2000000)); last = None })))).before ≡ Some (neg_ℤ (pos 2))
a_frame_with_one_bound = refl

a_frame_that_is_cut : offset_in (pos (10 ^ 21)) ≡ pos (2 ^ 31 - 1)
a_frame_that_is_cut = refl
