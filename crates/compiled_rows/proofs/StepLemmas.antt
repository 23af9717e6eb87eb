-- Settings come back from the members that are written for them.
use Rattle.std.proofs.Common.{◌≡◌, refl, sym, ap, ◌∙◌, ℕ, suc, ◌+◌, ◌-◌, ◌*◌, ◌/◌, ◌^◌, min, ℤ, pos, negsuc, neg_ℤ, ◌*ℤ◌, Option, Some, None, List, [], ◌∷◌}
use Rattle.std.proofs.Common.{◌++◌, map, length, All, arith, slice_get, unwrap_or, append_assoc, length-append, true, false, Bool, IfSome}
use Rattle.std.specs.Int.{int_min, int_max, int_div_euclid}
use Rattle.std.specs.List.{enumerate_from}
use Rattle.std.specs.Option.{option_map, option_map_or}
use Rattle.std.proofs.lemmas.Int.{ints, clamps}
use Rattle.std.proofs.lemmas.List.Elements.{All-head, All-tail}
use Rattle.fixed_num.specs.Number.{million}
use Rattle.fixed_num.specs.Ranges.{◌>>=◌}
use Rattle.expr_eval.specs.Values.{Values}
use Rattle.plain_rows.specs.declared.transforms.BinOf.{BinOf}
use Rattle.plain_rows.specs.declared.transforms.GroupOf.{GroupOf}
use Rattle.plain_rows.specs.declared.transforms.Offset.{Offset as RowOffset}
use Rattle.plain_rows.specs.declared.transforms.Offset.TheVariants as rows
use Rattle.plain_rows.specs.declared.transforms.OpOf.{OpOf}
use Rattle.plain_rows.specs.declared.transforms.SortBy.{SortBy}
use Rattle.plain_rows.specs.declared.transforms.StackOf.{StackOf}
use Rattle.plain_rows.specs.declared.transforms.WindowOf.{WindowOf}
use Rattle.plain_bins.specs.Binned.{data_binned}
use Rattle.plain_groups.specs.GroupRows.{data_aggregated, data_join_aggregated}
use Rattle.plain_rows.specs.Lookups.{data_looked_up}
use Rattle.plain_stacks.specs.Stacks.{data_stacked}
use Rattle.plain_windows.specs.Windows.{data_windowed}
use Rattle.vega_spec.specs.declared.orders.Orders.TheVariants as orders
use Rattle.plan_kit.specs.declared.steps.Step.TheVariants as step
use Rattle.vega_lists.specs.Operations.{op_at, op_settings, ops_settings, group_settings, count_in, offset_in, param_for, window_settings}
use Rattle.vega_lists.specs.Orders.{sort_by, sort_or_empty, is_descending}
use Rattle.vega_lists.specs.Settings.{bin_settings, extent_in, offset_of, pair_in, stack_settings}
use Rattle.vega_lists.specs.Transforms.{all_transformed}
use Rattle.vega_assemble.specs.Steps.{counted, extent_written, direction, directed, sort_written, bin_written, codes_of, fields_of, name_given, names_of}
use Rattle.vega_assemble.specs.Steps.{group_written}
use Rattle.vega_assemble.specs.Steps.{offset_written, stack_written, param_given, bound_written, window_written, steps_written}
use Rattle.chart_meaning.specs.Rows.{stepped}
use Rattle.compiled_rows.specs.Steps.{IsCount, IsOffset, WindowFits, StepFits, FindsSource, IsNull, StepsAgree, AllStepsAgree}

-- ---- entries by their places

mapped_there : {X Y : Type 0} (f : X → Y) (done : List X) (x : X) (rest : List X) → slice_get (map f (done ++ x ∷ rest)) (length done) ≡ Some (f x)
mapped_there f [] x rest = refl
mapped_there f (d ∷ done) x rest = mapped_there f done x rest

one_longer : {X : Type 0} (done : List X) (x : X) → length done + 1 ≡ length (done ++ x ∷ [])
one_longer done x = sym (length-append done (x ∷ []))

joined_on : {X : Type 0} (done : List X) (x : X) (rest : List X) → done ++ x ∷ rest ≡ (done ++ x ∷ []) ++ rest
joined_on done x rest = sym (append_assoc done (x ∷ []) rest)

-- what is made of a part of each element, by its place in the whole, is the element
module _ {X Y : Type 0} (f : X → Y) (g : List X → ℕ × Y → X)
    (each : (done : List X) (x : X) (rest : List X) → g (done ++ x ∷ rest) (length done, f x) ≡ x) where
  from_there : (done xs : List X) → map (g (done ++ xs)) (enumerate_from (length done) (map f xs)) ≡ xs
  from_there done [] = refl
  from_there done (x ∷ xs) =
      let moved : map (g (done ++ x ∷ xs)) (enumerate_from (length done + 1) (map f xs))
      ≡ map (g ((done ++ x ∷ []) ++ xs)) (enumerate_from (length (done ++ x ∷ [])) (map f xs))
      = λ i. map (g (joined_on done x xs i)) (enumerate_from (one_longer done x i) (map f xs)) in
      let rest : map (g (done ++ x ∷ xs)) (enumerate_from (length done + 1) (map f xs)) ≡ xs = moved ∙ from_there (done ++ x ∷ []) xs in
      λ i. each done x xs i ∷ rest i

-- ---- operations

op_back : (done : List OpOf) (o : OpOf) (rest : List OpOf)
    → op_at (Some (fields_of (done ++ o ∷ rest))) (Some (names_of (done ++ o ∷ rest))) (length done, o.op) ≡ o
op_back done o rest =
    λ i. op_settings o.op (mapped_there (λ (p : OpOf). p.field) done o rest i >>= λ entry. entry) (mapped_there name_given done o rest i >>= λ entry. entry)

ops_back : (ops : List OpOf) → ops_settings (codes_of ops) (Some (fields_of ops)) (Some (names_of ops)) ≡ ops
ops_back ops = from_there (λ (o : OpOf). o.op) (λ all at. op_at (Some (fields_of all)) (Some (names_of all)) at) op_back [] ops

group_back : (g : GroupOf) → group_settings (group_written g) ≡ g
group_back g = λ i. record { groupby = g.groupby; ops = ops_back g.ops i }

-- ---- orders

way_back : (d : Bool) → is_descending (direction d) ≡ d
way_back true = refl
way_back false = refl

by_back : (done : List SortBy) (s : SortBy) (rest : List SortBy)
    → sort_by (Some (orders.Several (map directed (done ++ s ∷ rest)))) (length done, s.field) ≡ s
by_back done s rest =
    (λ i. record { field = s.field; descending = is_descending (unwrap_or (mapped_there directed done s rest i) (direction false)) })
    ∙ (λ i. record { field = s.field; descending = way_back s.descending i })

sorts_back : (by : List SortBy) → sort_or_empty (sort_written by) ≡ by
sorts_back [] = refl
sorts_back (first ∷ others) =
    from_there (λ (s : SortBy). s.field) (λ all at. sort_by (Some (orders.Several (map directed all))) at) by_back [] (first ∷ others)

-- ---- stacks

start_back : (o : RowOffset) → offset_of (offset_written o) ≡ o
start_back rows.Zero = refl
start_back rows.Normalize = refl
start_back rows.Center = refl

stack_back : (s : StackOf) → stack_settings (stack_written s) ≡ s
stack_back s = λ i. record {
  field = s.field;
  groupby = s.groupby;
  sort = sorts_back s.sort i;
  offset = start_back s.offset i;
  out = s.out;
  out_end = s.out_end;
}

-- ---- numbers

count_back : (n : ℕ) → IsCount n → count_in (counted n) ≡ n
count_back n h = let whole : n * million / million ≡ n = omega arith in ap (λ k. min k (2 ^ 32 - 1)) whole ∙ grind arith

quotient_back : (n : ℤ) → int_div_euclid (n *ℤ pos million) (pos million) ≡ n
quotient_back (pos n) = let whole : n * million / million ≡ n = omega arith in ap pos whole
quotient_back (negsuc n) =
    let there : negsuc n *ℤ pos million ≡ negsuc (n * million + (million - 1)) = omega (arith, ints) in
    let whole : (n * million + (million - 1)) / million ≡ n = omega arith in
    ap (λ z. int_div_euclid z (pos million)) there ∙ ap negsuc whole

within : (n : ℤ) → IsOffset n → int_max (neg_ℤ (pos (2 ^ 31))) (int_min n (pos (2 ^ 31 - 1))) ≡ n
within n h = omega (arith, ints, clamps, h.least, h.greatest)

offset_back : (n : ℤ) → IsOffset n → offset_in (bound_written n) ≡ n
offset_back n h =
    ap (λ z. int_max (neg_ℤ (pos (2 ^ 31))) (int_min z (pos (2 ^ 31 - 1)))) (quotient_back n) ∙ within n h

bounds_back : (o : Option ℤ) → IfSome o IsOffset → option_map offset_in (option_map bound_written o) ≡ o
bounds_back None h = refl
bounds_back (Some n) h = ap Some (offset_back n h)

-- ---- windows

params_back : (done params ops : List ℕ) → length params ≡ length ops → All IsCount params
    → map (param_for (Some (map param_given (done ++ params)))) (enumerate_from (length done) ops) ≡ params
params_back done [] [] e h = refl
params_back done [] (op ∷ ops) e h = absurd (omega (arith, e))
params_back done (n ∷ params) [] e h = absurd (omega (arith, e))
params_back done (n ∷ params) (op ∷ ops) e h =
    let here : param_for (Some (map param_given (done ++ n ∷ params))) (length done, op) ≡ n
    = (λ i. option_map_or count_in (mapped_there param_given done n params i >>= λ entry. entry) 1) ∙ count_back n (All-head IsCount n params h) in
    let moved : map (param_for (Some (map param_given (done ++ n ∷ params)))) (enumerate_from (length done + 1) ops)
    ≡ map (param_for (Some (map param_given ((done ++ n ∷ []) ++ params)))) (enumerate_from (length (done ++ n ∷ [])) ops)
    = λ i. map (param_for (Some (map param_given (joined_on done n params i)))) (enumerate_from (one_longer done n i) ops) in
    let rest : map (param_for (Some (map param_given (done ++ n ∷ params)))) (enumerate_from (length done + 1) ops) ≡ params
    = moved ∙ params_back (done ++ n ∷ []) params ops (omega (arith, e)) (All-tail IsCount n params h) in
    λ i. here i ∷ rest i

length_mapped : {X Y : Type 0} (f : X → Y) (xs : List X) → length (map f xs) ≡ length xs
length_mapped f [] = refl
length_mapped f (x ∷ xs) = ap suc (length_mapped f xs)

window_back : (w : WindowOf) → WindowFits w → window_settings (window_written w) ≡ w
window_back w h = λ i. record {
  ops = ops_back w.ops i;
  params = params_back [] w.params (codes_of w.ops) (h.each ∙ sym (length_mapped (λ (o : OpOf). o.op) w.ops)) h.counts i;
  groupby = w.groupby;
  sort = sorts_back w.sort i;
  before = bounds_back w.before h.before i;
  after = bounds_back w.after h.after i;
  ignore_peers = w.ignore_peers;
}

-- ---- bins

extent_back : (values : Values) (stem : List ℕ) (b : BinOf) → IsNull values stem → extent_in values (bin_written stem b).extent ≡ Some b.extent
extent_back values stem b null = by b.extent
  where
    by : (extent : Option (ℤ × ℤ)) → extent_in values (extent_written stem extent) ≡ Some extent
    by None = ap (option_map pair_in) null
    by (Some ends) = refl

bin_back : (stem : List ℕ) (b : BinOf) → IsCount b.maxbins → bin_settings b.extent (bin_written stem b) ≡ b
bin_back stem b h = λ i. record {
  field = b.field;
  extent = b.extent;
  step = b.step;
  maxbins = count_back b.maxbins h i;
  out = b.out;
  out_end = b.out_end;
}

-- ---- the laws

pub steps_agree : StepsAgree
steps_agree values sources scope stem (step.Filter e) rows null fits finds = refl
steps_agree values sources scope stem (step.Calculate e name) rows null fits finds = refl
steps_agree values sources scope stem (step.Bin b) rows null fits finds =
    ap (λ o. o >>= λ taken. data_binned (bin_settings taken (bin_written stem b)) rows) (extent_back values stem b null)
    ∙ ap (λ bins. data_binned bins rows) (bin_back stem b fits)
steps_agree values sources scope stem (step.Unit t) rows null fits finds = refl
steps_agree values sources scope stem (step.Group g) rows null fits finds = ap (λ settings. data_aggregated settings rows) (group_back g)
steps_agree values sources scope stem (step.Join g) rows null fits finds = ap (λ settings. data_join_aggregated settings rows) (group_back g)
steps_agree values sources scope stem (step.Stack s) rows null fits finds = ap (λ settings. data_stacked settings rows) (stack_back s)
steps_agree values sources scope stem (step.Window w) rows null fits finds = ap (λ settings. data_windowed settings rows) (window_back w fits)
steps_agree values sources scope stem (step.Lookup source l) rows null fits finds = ap (λ there. Some (data_looked_up l there rows)) finds
steps_agree values sources scope stem (step.Fold f) rows null fits finds = refl

pub all_steps_agree : AllStepsAgree
all_steps_agree values sources scope stem [] rows null fits finds = refl
all_steps_agree values sources scope stem (first ∷ others) rows null fits finds =
    (λ i. steps_agree values sources scope stem first rows null (All-head StepFits first others fits)
    (All-head (FindsSource scope sources) first others finds) i >>= all_transformed values scope (steps_written stem others))
    ∙ ap (λ after. stepped values sources first rows >>= after)
    (λ i made. all_steps_agree values sources scope stem others made null (All-tail StepFits first others fits)
    (All-tail (FindsSource scope sources) first others finds) i)
