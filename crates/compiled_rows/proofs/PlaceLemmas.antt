-- The places of the lists of scales, facets and drags rise.
use Rattle.std.proofs.Common.{◌≡◌, refl, sym, ap, subst, ℕ, suc, ◌+◌, ◌*◌, ◌^◌, ◌<◌, ◌≤◌, inl, inr, Bool, true, false, Option, Some, None, List, [], ◌∷◌, ◌++◌}
use Rattle.std.proofs.Common.{map, All, arith, le_refl, length, length-append, drop, flat_map, filter_map, if◌then◌else◌, IfSome}
use Rattle.std.specs.List.{cons_option, enumerate_from}
use Rattle.std.specs.Option.{option_map_or}
use Rattle.std.proofs.lemmas.List.Elements.{All-nil, All-cons, All-head, All-tail, All-append}
use Rattle.cell_value.specs.declared.cell.Cell.TheVariants as cell
use Rattle.vega_spec.specs.declared.data.DataSet.{DataSet}
use Rattle.vega_spec.specs.declared.domains.Reference.{Reference}
use Rattle.vega_spec.specs.declared.groupings.Lookup.{Lookup}
use Rattle.vega_spec.specs.declared.transforms.Transform.{Transform}
use Rattle.vega_spec.specs.declared.transforms.Transform.TheVariants as vega
use Rattle.expr_syntax.specs.declared.expr.Expr.TheVariants as expr
use Rattle.plan_kit.specs.declared.cells.CellOf.{CellOf}
use Rattle.plan_kit.specs.declared.cells.CellOf.TheVariants as shows
use Rattle.plan_kit.specs.declared.columns.Column.{Column}
use Rattle.plan_kit.specs.declared.domains.DomainPlan.{DomainPlan}
use Rattle.plan_kit.specs.declared.domains.DomainPlan.TheVariants as plan
use Rattle.plan_kit.specs.declared.grids.FacetField.{FacetField}
use Rattle.plan_kit.specs.declared.grids.FacetPlan.{FacetPlan}
use Rattle.plan_kit.specs.declared.grids.GridPlan.{GridPlan}
use Rattle.plan_kit.specs.declared.orders.CellOrder.{CellOrder}
use Rattle.plan_kit.specs.declared.orders.CellOrder.TheVariants as stands
use Rattle.plan_kit.specs.declared.orders.RowsOrder.{RowsOrder}
use Rattle.plan_kit.specs.declared.plan.Plan.{Plan}
use Rattle.plan_kit.specs.declared.scales.ScalePlan.{ScalePlan}
use Rattle.plan_kit.specs.declared.selections.SelectionPlan.{SelectionPlan}
use Rattle.vega_assemble.specs.Cells.{field_expr}
use Rattle.vega_assemble.specs.Domains.{all_own, column_referred, own_referred, plainly_referred, ranks_referred, referred}
use Rattle.vega_assemble.specs.Drags.{is_copied, references_of, outer_list, outer_lists}
use Rattle.vega_assemble.specs.Keys.{and_before, field_keys, found_somewhere, given_by, has_keys, is_first, keys_list, lists_of_facet, lists_of_grid}
use Rattle.vega_assemble.specs.Keys.{lists_with_keys, looked_twice, looked_up, ordered, orders_for, orders_if, orders_list, orders_steps, place_of_row, placed}
use Rattle.vega_assemble.specs.Keys.{steps_for}
use Rattle.vega_assemble.specs.Lists.{beside_domain, beside_order, column_list, column_lists, list_if_wanted, lists_for_scale, lists_in_order, lists_of_domain}
use Rattle.vega_assemble.specs.Lists.{name_of_column, names_held, names_of_columns, plain_list, plain_lists, ranked_lists}
use Rattle.vega_assemble.specs.Ranks.{counts, listed_rank, over_none}
use Rattle.vega_assemble.specs.Names.{unit_name, begun_name, cells_name, codes_name, ranks_name, orders_name, keys_name, outer_name, cell_column, key_column}
use Rattle.vega_assemble.specs.Names.{rank_column}
use Rattle.vega_assemble.specs.Ranked.{are_some, cell_formula, cells_alone, codes_list, codes_lists, column_steps, formula, found_in, given_in, kept_in}
use Rattle.vega_assemble.specs.Ranked.{key_name}
use Rattle.vega_assemble.specs.Ranked.{lacks_key, not_all, number_found, numbers_rows, numbers_text, rank_formula, rank_step, ranks_list, ranks_steps}
use Rattle.vega_assemble.specs.Ranked.{steps_to_key, told_by}
use Rattle.vega_assemble.specs.Ranked.{key_steps as rank_key_steps}
use Rattle.compiled_rows.specs.Names.{CellsName, RanksName, CodesName, OuterName, OrdersName, KeysName, IsPlace}
use Rattle.compiled_rows.specs.Lists.{scale_lists, grid_lists, drag_lists, other_lists, telling, IsSmallDomain, IsSmallScale, Rises, IsSmallFacet}
use Rattle.compiled_rows.specs.Lists.{IsSmallGrid, IsSmallPlan, OthersStand, stem_of, units_scope}
use Rattle.chart_plan.specs.Plan.{plan_of}
use Rattle.compiled_rows.proofs.RiseLemmas.{all_stand, looked, place, MayRead, IsPlaced, Rise, lower, join}
use Rattle.compiled_rows.proofs.UnitLemmas.{transforms_back}
use Rattle.compiled_rows.proofs.FitLemmas.{length_mapped}
use Rattle.compiled_rows.proofs.StandLemmas.{found, other_is}

-- ---- what may be read

abbrev W : ℕ
W = 2 ^ 64

of_unit : (stem : List ℕ) (at unit : ℕ) → MayRead stem at (unit_name stem unit)
of_unit stem at unit = inl (record { byte = 117; rest = drop 1 (unit_name [] unit); is = refl; own = refl })

of_begun : (stem : List ℕ) (at unit : ℕ) → MayRead stem at (begun_name stem unit)
of_begun stem at unit = inl (record { byte = 98; rest = drop 1 (begun_name [] unit); is = refl; own = refl })

of_codes : (stem : List ℕ) (at n m : ℕ) → IsPlace n → IsPlace m → (n * 4 + 1) * W < at → MayRead stem at (codes_name stem n m)
of_codes stem at n m p q less = inr (record { named = CodesName n m; fits = (p, q); is = refl; less = omega (arith, q, less) })

of_cells : (stem : List ℕ) (at n m : ℕ) → IsPlace n → IsPlace m → (n * 4 + 2) * W < at → MayRead stem at (cells_name stem n m)
of_cells stem at n m p q less = inr (record { named = CellsName n m; fits = (p, q); is = refl; less = omega (arith, q, less) })

of_ranks : (stem : List ℕ) (at n : ℕ) → IsPlace n → (n * 4 + 3) * W < at → MayRead stem at (ranks_name stem n)
of_ranks stem at n p less = inr (record { named = RanksName n; fits = p; is = refl; less = omega (arith, less) })

of_orders : (stem : List ℕ) (at n m : ℕ) → IsPlace n → IsPlace m → (W * 4 + n * 4 + 1) * W < at → MayRead stem at (orders_name stem n m)
of_orders stem at n m p q less = inr (record { named = OrdersName n m; fits = (p, q); is = refl; less = omega (arith, q, less) })

abbrev Reads : List ℕ → ℕ → List Transform → Type 0
Reads stem at ts = All (λ t. All (MayRead stem at) (looked t)) ts

nothing : (stem : List ℕ) (at : ℕ) → All (MayRead stem at) []
nothing stem at = All-nil (MayRead stem at)

no_reads : (stem : List ℕ) (at : ℕ) → Reads stem at []
no_reads stem at = All-nil (λ t. All (MayRead stem at) (looked t))

and_reads : (stem : List ℕ) (at : ℕ) (t : Transform) (ts : List Transform) → All (MayRead stem at) (looked t) → Reads stem at ts → Reads stem at (t ∷ ts)
and_reads stem at t ts here rest = All-cons (λ u. All (MayRead stem at) (looked u)) t ts here rest

-- transforms that read no list
silent : (stem : List ℕ) (at : ℕ) (t : Transform) (ts : List Transform) → looked t ≡ [] → Reads stem at ts → Reads stem at (t ∷ ts)
silent stem at t ts none rest = and_reads stem at t ts (subst (All (MayRead stem at)) (sym none) (nothing stem at)) rest

three_silent : (stem : List ℕ) (at : ℕ) (a b c : Transform) → looked a ≡ [] → looked b ≡ [] → looked c ≡ [] → Reads stem at (a ∷ b ∷ c ∷ [])
three_silent stem at a b c p q r =
    silent stem at a (b ∷ c ∷ []) p (silent stem at b (c ∷ []) q (silent stem at c [] r (no_reads stem at)))

both_read : (stem : List ℕ) (at : ℕ) (xs ys : List Transform) → Reads stem at xs → Reads stem at ys → Reads stem at (xs ++ ys)
both_read stem at xs ys a b = All-append (λ u. All (MayRead stem at) (looked u)) xs ys a b

one_read : (stem : List ℕ) (at : ℕ) (name : List ℕ) → MayRead stem at name → All (MayRead stem at) (name ∷ [])
one_read stem at name may = All-cons (MayRead stem at) name [] may (nothing stem at)

-- what may be read before a place may be read before a later one
may_later : (stem : List ℕ) (at later : ℕ) (name : List ℕ) → at ≤ later → MayRead stem at name → MayRead stem later name
may_later stem at later name less (inl unit) = inl unit
may_later stem at later name less (inr early) =
    inr (record { named = early.named; fits = early.fits; is = early.is; less = omega (arith, early.less, less) })

names_later : (stem : List ℕ) (at later : ℕ) (names : List (List ℕ)) → at ≤ later → All (MayRead stem at) names → All (MayRead stem later) names
names_later stem at later [] less all = nothing stem later
names_later stem at later (name ∷ names) less all =
    All-cons (MayRead stem later) name names (may_later stem at later name less (All-head (MayRead stem at) name names all))
    (names_later stem at later names less (All-tail (MayRead stem at) name names all))

later_reads : (stem : List ℕ) (at later : ℕ) (ts : List Transform) → at ≤ later → Reads stem at ts → Reads stem later ts
later_reads stem at later [] less all = no_reads stem later
later_reads stem at later (t ∷ ts) less all =
    and_reads stem later t ts (names_later stem at later (looked t) less (All-head (λ u. All (MayRead stem at) (looked u)) t ts all))
    (later_reads stem at later ts less (All-tail (λ u. All (MayRead stem at) (looked u)) t ts all))

-- ---- lists that rise

-- a data set in a place
abbrev At : List ℕ → ℕ → DataSet → Type 0
At stem at set = (p : IsPlaced stem set) × (place p.named ≡ at)

upper : (stem : List ℕ) (low high more : ℕ) (sets : List DataSet) → high ≤ more → Rise stem low high sets → Rise stem low more sets
upper stem low high more [] less rise = let last : low ≤ high = rise in omega (arith, less, last)
upper stem low high more (set ∷ sets) less rise = (rise.0, rise.1, upper stem (suc (place rise.0.named)) high more sets less rise.2)

-- one data set and then others
then_rise : (stem : List ℕ) (low at high : ℕ) (set : DataSet) (sets : List DataSet) → At stem at set → low ≤ at → Rise stem (suc at) high sets
    → Rise stem low high (set ∷ sets)
then_rise stem low at high set sets here less rest =
    (here.0, omega (arith, here.1, less), subst (λ n. Rise stem (suc n) high sets) (sym here.1) rest)

rise_mapped : {X : Type 0} (stem : List ℕ) (set_of : ℕ × X → DataSet) (base : ℕ) → ((n : ℕ) (x : X) → IsPlace n → At stem (base + n) (set_of (n, x)))
    → (n : ℕ) (xs : List X) → n + length xs ≤ W → Rise stem (base + n) (base + (n + length xs)) (map set_of (enumerate_from n xs))
rise_mapped stem set_of base each n [] few = omega arith
rise_mapped stem set_of base each n (x ∷ xs) few =
    then_rise stem (base + n) (base + n) (base + (n + length (x ∷ xs))) (set_of (n, x)) (map set_of (enumerate_from (n + 1) xs)) (each n x (omega (arith, few)))
    (le_refl _)
    (lower stem (suc (base + n)) (base + (n + 1)) (base + (n + length (x ∷ xs))) (map set_of (enumerate_from (n + 1) xs)) (omega arith)
    (upper stem (base + (n + 1)) (base + ((n + 1) + length xs)) (base + (n + length (x ∷ xs))) (map set_of (enumerate_from (n + 1) xs)) (omega arith)
    (rise_mapped stem set_of base each (n + 1) xs (omega (arith, few)))))

rise_wanted : {X : Type 0} (stem : List ℕ) (set_of : ℕ × X → Option DataSet) (base : ℕ)
    → ((n : ℕ) (x : X) → IsPlace n → IfSome (set_of (n, x)) (At stem (base + n)))
    → (n : ℕ) (xs : List X) → n + length xs ≤ W → Rise stem (base + n) (base + (n + length xs)) (filter_map set_of (enumerate_from n xs))
rise_wanted stem set_of base each n [] few = omega arith
rise_wanted stem set_of base each n (x ∷ xs) few =
    by (set_of (n, x)) (each n x (omega (arith, few)))
    (upper stem (base + (n + 1)) (base + ((n + 1) + length xs)) (base + (n + length (x ∷ xs))) (filter_map set_of (enumerate_from (n + 1) xs)) (omega arith)
    (rise_wanted stem set_of base each (n + 1) xs (omega (arith, few))))
  where
    by : (o : Option DataSet) → IfSome o (At stem (base + n))
        → Rise stem (base + (n + 1)) (base + (n + length (x ∷ xs))) (filter_map set_of (enumerate_from (n + 1) xs))
        → Rise stem (base + n) (base + (n + length (x ∷ xs))) (cons_option o (filter_map set_of (enumerate_from (n + 1) xs)))
    by None here rest = lower stem (base + n) (base + (n + 1)) (base + (n + length (x ∷ xs))) (filter_map set_of (enumerate_from (n + 1) xs)) (omega arith) rest
    by (Some set) here rest =
        then_rise stem (base + n) (base + n) (base + (n + length (x ∷ xs))) set (filter_map set_of (enumerate_from (n + 1) xs)) here (le_refl (base + n))
        (lower stem (suc (base + n)) (base + (n + 1)) (base + (n + length (x ∷ xs))) (filter_map set_of (enumerate_from (n + 1) xs)) (omega arith) rest)

rise_if : (stem : List ℕ) (low high : ℕ) (b : Bool) (sets : List DataSet) → low ≤ high → Rise stem low high sets → Rise stem low high (if b then sets else [])
rise_if stem low high true sets less rise = rise
rise_if stem low high false sets less rise = less

-- ---- the lists of a scale

-- where those of a scale begin: its codes, its cells, its ranks
abbrev codes_from : ℕ → ℕ
codes_from n = (n * 4) * W + 1

abbrev cells_from : ℕ → ℕ
cells_from n = (n * 4 + 1) * W + 1

abbrev ranks_from : ℕ → ℕ
ranks_from n = (n * 4 + 2) * W + 1

codes_at : (stem : List ℕ) (scale : ℕ) (by : RowsOrder) → IsPlace scale → (n : ℕ) (field : List ℕ) → IsPlace n
    → At stem (codes_from scale + n) (codes_list stem scale by (n, field))
codes_at stem scale by p n field q = (
  record {
    named = CodesName scale n;
    fits = (p, q);
    is = refl;
    other = other_is stem 99 (drop 1 (codes_name [] scale n)) refl;
    source = begun_name stem by.unit;
    begins = refl;
    reads_source = of_begun stem (place (CodesName scale n)) by.unit;
    reads = three_silent stem (place (CodesName scale n)) (cell_formula stem (shows.Field by.cell)) (vega.Aggregate (cells_alone field))
        (vega.Window (numbers_rows (key_column stem n))) refl refl refl;
  },
  omega arith,
)

-- the numbers that make a key are looked up in the codes
numbers_read : (stem : List ℕ) (scale at : ℕ) → IsPlace scale → (scale * 4 + 1) * W < at → (n : ℕ) (fields : List (List ℕ)) → n + length fields ≤ W
    → Reads stem at (map (number_found stem scale) (enumerate_from n fields))
numbers_read stem scale at p less n [] few = no_reads stem at
numbers_read stem scale at p less n (field ∷ fields) few =
    and_reads stem at (number_found stem scale (n, field)) (map (number_found stem scale) (enumerate_from (n + 1) fields))
    (one_read stem at (codes_name stem scale n) (of_codes stem at scale n p (omega (arith, few)) less))
    (numbers_read stem scale at p less (n + 1) fields (omega (arith, few)))

told_short : (stem : List ℕ) (facets : List (List ℕ)) → length facets + 1 < W → 0 + length (told_by stem facets) ≤ W
told_short stem facets few = omega (arith, length-append facets (cell_column stem ∷ []), few)

key_read : (stem : List ℕ) (scale at : ℕ) (facets : List (List ℕ)) → IsPlace scale → (scale * 4 + 1) * W < at → length facets + 1 < W
    → Reads stem at (rank_key_steps stem scale facets)
key_read stem scale at facets p less few = by (are_some facets)
  where
    steps : Reads stem at (steps_to_key stem scale (told_by stem facets))
    steps =
        both_read stem at (map (number_found stem scale) (enumerate_from 0 (told_by stem facets)))
        (formula (key_column stem (length (told_by stem facets))) (numbers_text stem (told_by stem facets)) ∷ [])
        (numbers_read stem scale at p less 0 (told_by stem facets) (told_short stem facets few))
        (silent stem at (formula (key_column stem (length (told_by stem facets))) (numbers_text stem (told_by stem facets))) [] refl (no_reads stem at))

    by : (b : Bool) → Reads stem at (if b then steps_to_key stem scale (told_by stem facets) else [])
    by true = steps
    by false = no_reads stem at

cells_at : (stem : List ℕ) (scale : ℕ) (more : List Transform) (n : ℕ) (column : Column) → IsPlace scale → IsPlace n
    → Reads stem (cells_from scale) more → At stem (cells_from scale + n) (column_list stem scale more (n, column))
cells_at stem scale more n column p q reads = (
  record {
    named = CellsName scale n;
    fits = (p, q);
    is = refl;
    other = other_is stem 99 (drop 1 (cells_name [] scale n)) refl;
    source = unit_name stem column.unit;
    begins = refl;
    reads_source = of_unit stem (place (CellsName scale n)) column.unit;
    reads = silent stem (place (CellsName scale n)) (cell_formula stem column.cell) more refl
        (later_reads stem (cells_from scale) (place (CellsName scale n)) more (omega arith) reads);
  },
  omega arith,
)

-- the columns of a domain
columns_rise : (stem : List ℕ) (scale : ℕ) (more : List Transform) (columns : List Column) → IsPlace scale → length columns < W
    → Reads stem (cells_from scale) more
    → Rise stem (cells_from scale) (ranks_from scale) (map (column_list stem scale more) (enumerate_from 0 columns))
columns_rise stem scale more columns p few reads =
    let lists = map (column_list stem scale more) (enumerate_from 0 columns) in
    lower stem (cells_from scale) (cells_from scale + 0) (ranks_from scale) lists (omega arith)
    (upper stem (cells_from scale + 0) (cells_from scale + (0 + length columns)) (ranks_from scale) lists (omega (arith, few))
    (rise_mapped stem (column_list stem scale more) (cells_from scale) (λ n column q. cells_at stem scale more n column p q reads) 0 columns
    (omega (arith, few))))

plain_at : (stem : List ℕ) (scale n unit : ℕ) (c : CellOf) → IsPlace scale → IsPlace n
    → IfSome (plain_list stem scale n unit c) (At stem (cells_from scale + n))
plain_at stem scale n unit (shows.Field name) p q = tt
plain_at stem scale n unit (shows.Written c) p q =
    cells_at stem scale [] n (record { unit = unit; cell = shows.Written c }) p q (no_reads stem (cells_from scale))
plain_at stem scale n unit (shows.Computed e) p q =
    cells_at stem scale [] n (record { unit = unit; cell = shows.Computed e }) p q (no_reads stem (cells_from scale))

plain_rise : (stem : List ℕ) (scale : ℕ) (columns : List Column) → IsPlace scale → length columns < W
    → Rise stem (cells_from scale) (codes_from (scale + 1)) (plain_lists stem scale columns)
plain_rise stem scale columns p few =
    lower stem (cells_from scale) (cells_from scale + 0) (codes_from (scale + 1)) (plain_lists stem scale columns) (omega arith)
    (upper stem (cells_from scale + 0) (cells_from scale + (0 + length columns)) (codes_from (scale + 1)) (plain_lists stem scale columns) (omega (arith, few))
    (rise_wanted stem (list_if_wanted stem scale) (cells_from scale) (λ n column q. plain_at stem scale n column.unit column.cell p q) 0 columns
    (omega (arith, few))))

-- ---- the rows of an order

-- a list that puts its name into rows reads just itself
lacks_read : (stem : List ℕ) (at : ℕ) (key : List ℕ) (sets : List (List ℕ)) → All (MayRead stem at) sets
    → Reads stem at (map (lacks_key stem key) sets)
lacks_read stem at key [] may = no_reads stem at
lacks_read stem at key (set ∷ sets) may =
    and_reads stem at (lacks_key stem key set) (map (lacks_key stem key) sets) (one_read stem at set (All-head (MayRead stem at) set sets may))
    (lacks_read stem at key sets (All-tail (MayRead stem at) set sets may))

kept_read : (stem : List ℕ) (at : ℕ) (key : List ℕ) (sets : List (List ℕ)) → All (MayRead stem at) sets → Reads stem at (kept_in stem key sets)
kept_read stem at key sets may =
    let filter = vega.Filter (record { expr = not_all sets }) in
    both_read stem at (map (lacks_key stem key) sets) (filter ∷ []) (lacks_read stem at key sets may) (silent stem at filter [] refl (no_reads stem at))

names_read : (stem : List ℕ) (at scale : ℕ) → IsPlace scale → (scale * 4 + 2) * W < at → (n : ℕ) (columns : List Column) → n + length columns ≤ W
    → All (MayRead stem at) (map (name_of_column stem scale) (enumerate_from n columns))
names_read stem at scale p less n [] few = nothing stem at
names_read stem at scale p less n (column ∷ columns) few =
    All-cons (MayRead stem at) (cells_name stem scale n) (map (name_of_column stem scale) (enumerate_from (n + 1) columns))
    (of_cells stem at scale n p (omega (arith, few)) less) (names_read stem at scale p less (n + 1) columns (omega (arith, few)))

rank_read : (stem : List ℕ) (at : ℕ) (facets : List (List ℕ)) (by : RowsOrder) → Reads stem at (rank_step stem facets by ∷ [])
rank_read stem at facets by = silent stem at (rank_step stem facets by) [] (no_list (counts by.op)) (no_reads stem at)
  where
    no_list : (b : Bool)
        → looked (if b then vega.Aggregate (given_in (told_by stem facets) by (rank_column stem))
        else rank_formula stem (field_expr by.field)) ≡ []
    no_list true = refl
    no_list false = refl

ranks_read : (stem : List ℕ) (at scale : ℕ) (facets sets : List (List ℕ)) (by : RowsOrder) → Reads stem at (rank_key_steps stem scale facets)
    → All (MayRead stem at) sets → Reads stem at (ranks_steps stem scale facets sets by)
ranks_read stem at scale facets sets by keys may =
    let kept = kept_in stem (key_name stem facets) sets in
    silent stem at (cell_formula stem (shows.Field by.cell)) (rank_key_steps stem scale facets ++ kept ++ rank_step stem facets by ∷ []) refl
    (both_read stem at (rank_key_steps stem scale facets ++ kept) (rank_step stem facets by ∷ [])
    (both_read stem at (rank_key_steps stem scale facets) kept keys (kept_read stem at (key_name stem facets) sets may)) (rank_read stem at facets by))

ranks_at : (stem : List ℕ) (scale : ℕ) (facets : List (List ℕ)) (columns : List Column) (by : RowsOrder) → IsPlace scale → length facets + 1 < W
    → length columns < W → At stem (ranks_from scale) (ranks_list stem scale facets (names_of_columns stem scale columns) by)
ranks_at stem scale facets columns by p few short = (
  record {
    named = RanksName scale;
    fits = p;
    is = refl;
    other = other_is stem 114 (drop 1 (ranks_name [] scale)) refl;
    source = begun_name stem by.unit;
    begins = refl;
    reads_source = of_begun stem (place (RanksName scale)) by.unit;
    reads = ranks_read stem (place (RanksName scale)) scale facets (names_of_columns stem scale columns) by
        (key_read stem scale (place (RanksName scale)) facets p (omega arith) few)
        (names_read stem (place (RanksName scale)) scale p (omega arith) 0 columns (omega (arith, short)));
  },
  refl,
)

ranked_rise : (stem : List ℕ) (scale : ℕ) (facets : List (List ℕ)) (by : RowsOrder) (columns : List Column) → IsPlace scale → length columns < W
    → length facets + 1 < W → Rise stem (cells_from scale) (codes_from (scale + 1)) (ranked_lists stem scale facets by columns)
ranked_rise stem scale facets by columns p few told =
    let more = column_steps stem scale facets by in
    let first = rank_formula stem (over_none by.op) in
    let rows = ranks_list stem scale facets (names_of_columns stem scale columns) by in
    join stem (cells_from scale) (ranks_from scale) (codes_from (scale + 1)) (column_lists stem scale facets by columns) (rows ∷ [])
    (columns_rise stem scale more columns p few
    (silent stem (cells_from scale) first (rank_key_steps stem scale facets) refl (key_read stem scale (cells_from scale) facets p (omega arith) told)))
    (then_rise stem (ranks_from scale) (ranks_from scale) (codes_from (scale + 1)) rows [] (ranks_at stem scale facets columns by p told few) (le_refl _)
    (omega arith))

-- ---- all lists of a scale

ordered_rise : (stem : List ℕ) (p : Plan) (scale : ℕ) (holder : Option ℕ) (order : CellOrder) (columns : List Column) → IsPlace scale → length columns < W
    → telling p holder order < W → Rise stem (cells_from scale) (codes_from (scale + 1)) (lists_in_order stem p.grids scale holder order columns)
ordered_rise stem p scale holder stands.First columns q few told = plain_rise stem scale columns q few
ordered_rise stem p scale holder stands.Up columns q few told = plain_rise stem scale columns q few
ordered_rise stem p scale holder stands.Down columns q few told = plain_rise stem scale columns q few
ordered_rise stem p scale holder (stands.Listed cells) columns q few told =
    let rank = rank_formula stem (listed_rank (expr.Field (cell_column stem)) cells) in
    upper stem (cells_from scale) (ranks_from scale) (codes_from (scale + 1)) (map (column_list stem scale (rank ∷ [])) (enumerate_from 0 columns))
    (omega arith)
    (columns_rise stem scale (rank ∷ []) columns q few (silent stem (cells_from scale) rank [] refl (no_reads stem (cells_from scale))))
ordered_rise stem p scale holder (stands.ByRows by) columns q few told = ranked_rise stem scale (names_held p.grids by.unit holder) by columns q few told

codes_rise : (stem : List ℕ) (scale : ℕ) (facets : List (List ℕ)) (by : RowsOrder) → IsPlace scale → length facets + 1 < W
    → Rise stem (codes_from scale) (cells_from scale) (codes_lists stem scale facets by)
codes_rise stem scale facets by p few =
    let codes = map (codes_list stem scale by) (enumerate_from 0 (told_by stem facets)) in
    rise_if stem (codes_from scale) (cells_from scale) (are_some facets) codes (omega arith)
    (lower stem (codes_from scale) (codes_from scale + 0) (cells_from scale) codes (omega arith)
    (upper stem (codes_from scale + 0) (codes_from scale + (0 + length (told_by stem facets))) (cells_from scale) codes
    (omega (arith, told_short stem facets few))
    (rise_mapped stem (codes_list stem scale by) (codes_from scale) (codes_at stem scale by p) 0 (told_by stem facets) (told_short stem facets few))))

beside_rise : (stem : List ℕ) (p : Plan) (scale : ℕ) (holder : Option ℕ) (order : CellOrder) → IsPlace scale
    → telling p holder order < W → Rise stem (codes_from scale) (cells_from scale) (beside_order stem p.grids scale holder order)
beside_rise stem p scale holder stands.First q told = omega arith
beside_rise stem p scale holder stands.Up q told = omega arith
beside_rise stem p scale holder stands.Down q told = omega arith
beside_rise stem p scale holder (stands.Listed cells) q told = omega arith
beside_rise stem p scale holder (stands.ByRows by) q told = codes_rise stem scale (names_held p.grids by.unit holder) by q told

domain_rise : (stem : List ℕ) (p : Plan) (scale : ℕ) (holder : Option ℕ) (domain : DomainPlan) → IsPlace scale → IsSmallDomain p holder domain
    → Rise stem (codes_from scale) (codes_from (scale + 1)) (beside_domain stem p.grids scale holder domain ++ lists_of_domain stem p.grids scale holder domain)
domain_rise stem p scale holder (plan.Cells cells) q small = omega arith
domain_rise stem p scale holder (plan.Columns of) q small =
    join stem (codes_from scale) (cells_from scale) (codes_from (scale + 1)) (beside_order stem p.grids scale holder of.order)
    (lists_in_order stem p.grids scale holder of.order of.columns) (beside_rise stem p scale holder of.order q small.told)
    (ordered_rise stem p scale holder of.order of.columns q small.columns small.told)

scales_rise : (stem : List ℕ) (p : Plan) (n : ℕ) (scales : List ScalePlan) → n + length scales ≤ W → All (IsSmallScale p) scales
    → Rise stem (codes_from n) (codes_from (n + length scales)) (flat_map (lists_for_scale stem p.grids) (enumerate_from n scales))
scales_rise stem p n [] few small = omega arith
scales_rise stem p n (s ∷ scales) few small =
    join stem (codes_from n) (codes_from (n + 1)) (codes_from (n + length (s ∷ scales))) (lists_for_scale stem p.grids (n, s))
    (flat_map (lists_for_scale stem p.grids) (enumerate_from (n + 1) scales))
    (domain_rise stem p n s.holder s.domain (omega (arith, few)) (All-head (IsSmallScale p) s scales small))
    (upper stem (codes_from (n + 1)) (codes_from ((n + 1) + length scales)) (codes_from (n + length (s ∷ scales)))
    (flat_map (lists_for_scale stem p.grids) (enumerate_from (n + 1) scales)) (omega arith)
    (scales_rise stem p (n + 1) scales (omega (arith, few)) (All-tail (IsSmallScale p) s scales small)))

-- ---- the lists of a facet

abbrev orders_from : ℕ → ℕ
orders_from g = (W * 4 + g * 4) * W + 1

abbrev keys_from : ℕ → ℕ
keys_from g = (W * 4 + g * 4 + 1) * W + 1

units_read : (stem : List ℕ) (at facet : ℕ) (name here : List ℕ) (units : List ℕ) → Reads stem at (flat_map (looked_twice stem facet name here) units)
units_read stem at facet name here [] = no_reads stem at
units_read stem at facet name here (unit ∷ units) =
    both_read stem at (looked_twice stem facet name here unit) (flat_map (looked_twice stem facet name here) units)
    (twice (found_in (unit_name stem unit) name here name (unit_name stem unit) cell.Null)
    (found_in (unit_name stem unit) name here name (keys_name stem facet unit) (cell.Flag true)) refl refl)
    (units_read stem at facet name here units)
  where
    twice : (a b : Lookup) → a.from ≡ unit_name stem unit → b.from ≡ unit_name stem unit → Reads stem at (vega.Lookup a ∷ vega.Lookup b ∷ [])
    twice a b first second =
        and_reads stem at (vega.Lookup a) (vega.Lookup b ∷ []) (one_read stem at a.from (subst (MayRead stem at) (sym first) (of_unit stem at unit)))
        (and_reads stem at (vega.Lookup b) [] (one_read stem at b.from (subst (MayRead stem at) (sym second) (of_unit stem at unit))) (no_reads stem at))

orders_read : (stem : List ℕ) (at facet : ℕ) (units : List ℕ) (name : List ℕ) (by : RowsOrder) → Reads stem at (orders_steps stem facet units name by)
orders_read stem at facet units name by =
    let filter = vega.Filter (record { expr = found_somewhere stem facet units }) in
    let last = vega.Aggregate (given_by stem by) in
    both_read stem at (flat_map (looked_twice stem facet name by.cell) units) (filter ∷ last ∷ []) (units_read stem at facet name by.cell units)
    (silent stem at filter (last ∷ []) refl (silent stem at last [] refl (no_reads stem at)))

orders_at : (stem : List ℕ) (g : ℕ) (units : List ℕ) (n : ℕ) (name : List ℕ) (by : RowsOrder) → IsPlace g → IsPlace n
    → At stem (orders_from g + n) (orders_list stem g units n name by)
orders_at stem g units n name by p q = (
  record {
    named = OrdersName g n;
    fits = (p, q);
    is = refl;
    other = other_is stem 111 (drop 1 (orders_name [] g n)) refl;
    source = begun_name stem by.unit;
    begins = refl;
    reads_source = of_begun stem (place (OrdersName g n)) by.unit;
    reads = subst (Reads stem (place (OrdersName g n))) (sym (transforms_back (orders_steps stem g units name by)))
        (orders_read stem (place (OrdersName g n)) g units name by);
  },
  omega arith,
)

-- those of one field
order_rise : (stem : List ℕ) (g : ℕ) (units : List ℕ) (n : ℕ) (name : List ℕ) (order : CellOrder) → IsPlace g → IsPlace n
    → Rise stem (orders_from g + n) (orders_from g + (n + 1)) (orders_if stem g units n name order)
order_rise stem g units n name stands.First p q = omega arith
order_rise stem g units n name stands.Up p q = omega arith
order_rise stem g units n name stands.Down p q = omega arith
order_rise stem g units n name (stands.Listed cells) p q = omega arith
order_rise stem g units n name (stands.ByRows by) p q =
    then_rise stem (orders_from g + n) (orders_from g + n) (orders_from g + (n + 1)) (orders_list stem g units n name by) []
    (orders_at stem g units n name by p q) (le_refl _) (omega arith)

orders_rise : (stem : List ℕ) (g : ℕ) (units : List ℕ) (n : ℕ) (fields : List FacetField) → IsPlace g → n + length fields ≤ W
    → Rise stem (orders_from g + n) (orders_from g + (n + length fields)) (flat_map (orders_for stem g units) (enumerate_from n fields))
orders_rise stem g units n [] p few = omega arith
orders_rise stem g units n (field ∷ fields) p few =
    join stem (orders_from g + n) (orders_from g + (n + 1)) (orders_from g + (n + length (field ∷ fields))) (orders_for stem g units (n, field))
    (flat_map (orders_for stem g units) (enumerate_from (n + 1) fields))
    (order_rise stem g units n field.name field.order p (omega (arith, few)))
    (upper stem (orders_from g + (n + 1)) (orders_from g + ((n + 1) + length fields)) (orders_from g + (n + length (field ∷ fields)))
    (flat_map (orders_for stem g units) (enumerate_from (n + 1) fields)) (omega arith) (orders_rise stem g units (n + 1) fields p (omega (arith, few))))

-- keys read the orders of their fields
key_order_read : (stem : List ℕ) (g unit n : ℕ) (name : List ℕ) (order : CellOrder) → IsPlace g → IsPlace n
    → Reads stem (keys_from g) (field_keys stem g unit n name order)
key_order_read stem g unit n name stands.First p q =
    let numbered = vega.Window (numbers_rows (key_column stem n)) in
    let made = formula (key_column stem n) (place_of_row unit (key_column stem n)) in
    silent stem (keys_from g) numbered (made ∷ []) refl (silent stem (keys_from g) made [] refl (no_reads stem (keys_from g)))
key_order_read stem g unit n name stands.Up p q = no_reads stem (keys_from g)
key_order_read stem g unit n name stands.Down p q = no_reads stem (keys_from g)
key_order_read stem g unit n name (stands.Listed cells) p q =
    silent stem (keys_from g) (formula (key_column stem n) (listed_rank (expr.Field name) cells)) [] refl (no_reads stem (keys_from g))
key_order_read stem g unit n name (stands.ByRows by) p q =
    and_reads stem (keys_from g) (vega.Lookup (looked_up stem g n name by)) []
    (one_read stem (keys_from g) (orders_name stem g n) (of_orders stem (keys_from g) g n p q (omega arith))) (no_reads stem (keys_from g))

fields_read : (stem : List ℕ) (g unit n : ℕ) (fields : List FacetField) → IsPlace g → n + length fields ≤ W
    → Reads stem (keys_from g) (flat_map (steps_for stem g unit) (enumerate_from n fields))
fields_read stem g unit n [] p few = no_reads stem (keys_from g)
fields_read stem g unit n (field ∷ fields) p few =
    both_read stem (keys_from g) (steps_for stem g unit (n, field)) (flat_map (steps_for stem g unit) (enumerate_from (n + 1) fields))
    (key_order_read stem g unit n field.name field.order p (omega (arith, few))) (fields_read stem g unit (n + 1) fields p (omega (arith, few)))

one_more : (b : Bool) (field : FacetField) (n : ℕ) → length (if b then [] else field ∷ []) ≤ suc n
one_more true field n = omega arith
one_more false field n = omega arith

ordered_short : (fields : List FacetField) → length (ordered fields) ≤ length fields
ordered_short [] = (le_refl _)
ordered_short (field ∷ fields) = by (ordered fields) (ordered_short fields)
  where
    by : (behind : List FacetField) → length behind ≤ length fields → length (and_before field behind) ≤ suc (length fields)
    by [] less = one_more (is_first field.order) field (length fields)
    by (next ∷ others) less = omega (arith, less)

keys_at : (stem : List ℕ) (g unit : ℕ) (fields : List FacetField) → IsPlace g → IsPlace unit → length fields < W
    → At stem (keys_from g + unit) (keys_list stem g fields unit)
keys_at stem g unit fields p q few = (
  record {
    named = KeysName g unit;
    fits = (p, q);
    is = refl;
    other = other_is stem 107 (drop 1 (keys_name [] g unit)) refl;
    source = unit_name stem unit;
    begins = refl;
    reads_source = of_unit stem (place (KeysName g unit)) unit;
    reads = subst (Reads stem (place (KeysName g unit))) (sym (transforms_back (flat_map (steps_for stem g unit) (placed fields))))
        (later_reads stem (keys_from g) (place (KeysName g unit)) (flat_map (steps_for stem g unit) (placed fields)) (omega arith)
        (fields_read stem g unit 0 (ordered fields) p (omega (arith, ordered_short fields, few))));
  },
  omega arith,
)

keys_rise : (stem : List ℕ) (g least : ℕ) (fields : List FacetField) (units : List ℕ) → IsPlace g → length fields < W → least ≤ W → Rises least units
    → Rise stem (keys_from g + least) (orders_from (g + 1)) (map (keys_list stem g fields) units)
keys_rise stem g least fields [] p few low rises = omega (arith, low)
keys_rise stem g least fields (unit ∷ units) p few low rises =
    then_rise stem (keys_from g + least) (keys_from g + unit) (orders_from (g + 1)) (keys_list stem g fields unit) (map (keys_list stem g fields) units)
    (keys_at stem g unit fields p rises.1 few) (omega (arith, rises.0))
    (lower stem (suc (keys_from g + unit)) (keys_from g + suc unit) (orders_from (g + 1)) (map (keys_list stem g fields) units) (omega arith)
    (keys_rise stem g (suc unit) fields units p few (omega (arith, rises.1)) rises.2))

facet_rise : (stem : List ℕ) (g : ℕ) (facet : Option FacetPlan) → IsPlace g → IfSome facet IsSmallFacet
    → Rise stem (orders_from g) (orders_from (g + 1)) (option_map_or (lists_of_facet stem g) facet [])
facet_rise stem g None p small = omega arith
facet_rise stem g (Some f) p small =
    let orders = flat_map (orders_for stem g f.units) (placed f.fields) in
    rise_if stem (orders_from g) (orders_from (g + 1)) (has_keys f.fields) (lists_with_keys stem g f.fields f.units) (omega arith)
    (join stem (orders_from g) (keys_from g) (orders_from (g + 1)) orders (map (keys_list stem g f.fields) f.units)
    (lower stem (orders_from g) (orders_from g + 0) (keys_from g) orders (omega arith)
    (upper stem (orders_from g + 0) (orders_from g + (0 + length (ordered f.fields))) (keys_from g) orders
    (omega (arith, ordered_short f.fields, small.fields))
    (orders_rise stem g f.units 0 (ordered f.fields) p (omega (arith, ordered_short f.fields, small.fields)))))
    (lower stem (keys_from g) (keys_from g + 0) (orders_from (g + 1)) (map (keys_list stem g f.fields) f.units) (omega arith)
    (keys_rise stem g 0 f.fields f.units p small.fields (omega arith) small.units)))

grids_rise : (stem : List ℕ) (least : ℕ) (grids : List GridPlan) → least ≤ W → All IsSmallGrid grids
    → Rises least (map (λ (grid : GridPlan). grid.number) grids) → Rise stem (orders_from least) (orders_from W) (flat_map (lists_of_grid stem) grids)
grids_rise stem least [] low small rises = omega (arith, low)
grids_rise stem least (grid ∷ grids) low small rises =
    lower stem (orders_from least) (orders_from grid.number) (orders_from W) (flat_map (lists_of_grid stem) (grid ∷ grids)) (omega (arith, rises.0))
    (join stem (orders_from grid.number) (orders_from (grid.number + 1)) (orders_from W) (lists_of_grid stem grid) (flat_map (lists_of_grid stem) grids)
    (facet_rise stem grid.number grid.facet rises.1 (All-head IsSmallGrid grid grids small))
    (lower stem (orders_from (grid.number + 1)) (orders_from (suc grid.number)) (orders_from W) (flat_map (lists_of_grid stem) grids) (omega arith)
    (grids_rise stem (suc grid.number) grids (omega (arith, rises.1)) (All-tail IsSmallGrid grid grids small) rises.2)))

-- ---- the lists for drags

abbrev outer_from : ℕ → ℕ
outer_from n = (W * 8 + n * 4) * W + 1

-- the lists to which a domain refers
abbrev MayRefer : List ℕ → Reference → Type 0
MayRefer stem r = MayRead stem (W * 8 * W + 1) r.data_

cells_referred : (stem : List ℕ) (scale n : ℕ) → IsPlace scale → IsPlace n → MayRead stem (W * 8 * W + 1) (cells_name stem scale n)
cells_referred stem scale n p q = of_cells stem (W * 8 * W + 1) scale n p q (omega (arith, p))

ranks_may : (stem : List ℕ) (scale : ℕ) → IsPlace scale → MayRefer stem (ranks_referred stem scale)
ranks_may stem scale p = of_ranks stem (W * 8 * W + 1) scale p (omega (arith, p))

plain_referred : (stem : List ℕ) (scale n unit : ℕ) (c : CellOf) → IsPlace scale → IsPlace n → MayRefer stem (column_referred stem scale n unit c)
plain_referred stem scale n unit (shows.Field name) p q = of_unit stem (W * 8 * W + 1) unit
plain_referred stem scale n unit (shows.Written c) p q = cells_referred stem scale n p q
plain_referred stem scale n unit (shows.Computed e) p q = cells_referred stem scale n p q

all_numbered : {X Y : Type 0} (P : Y → Type 0) (f : ℕ × X → Y) → ((n : ℕ) (x : X) → IsPlace n → P (f (n, x))) → (n : ℕ) (xs : List X) → n + length xs ≤ W
    → All P (map f (enumerate_from n xs))
all_numbered P f each n [] few = All-nil P
all_numbered P f each n (x ∷ xs) few =
    All-cons P (f (n, x)) (map f (enumerate_from (n + 1) xs)) (each n x (omega (arith, few))) (all_numbered P f each (n + 1) xs (omega (arith, few)))

-- those of columns in an order, and how many there are
pub record AreReferred (stem : List ℕ) (rs : List Reference) : Type 0 where
  pub may : All (MayRefer stem) rs
  pub few : length rs ≤ W

pub enumerated : {X : Type 0} (n : ℕ) (xs : List X) → length (enumerate_from n xs) ≡ length xs
enumerated n [] = refl
enumerated n (x ∷ xs) = ap suc (enumerated (n + 1) xs)

columns_referred : (stem : List ℕ) (f : ℕ × Column → Reference) → ((n : ℕ) (column : Column) → IsPlace n → MayRefer stem (f (n, column)))
    → (columns : List Column) → length columns < W → AreReferred stem (map f (enumerate_from 0 columns))
columns_referred stem f each columns few = record {
  may = all_numbered (MayRefer stem) f each 0 columns (omega (arith, few));
  few = omega (arith, few, length_mapped f (enumerate_from 0 columns), enumerated 0 columns);
}

one_more_referred : (rs : List Reference) (r : Reference) → length rs < W → length (rs ++ r ∷ []) ≤ W
one_more_referred rs r few = omega (arith, few, length-append rs (r ∷ []))

order_referred : (stem : List ℕ) (scale : ℕ) (order : CellOrder) (columns : List Column) → IsPlace scale → length columns < W
    → AreReferred stem (referred stem scale order columns)
order_referred stem scale stands.First columns p few =
    columns_referred stem (plainly_referred stem scale) (λ n column q. plain_referred stem scale n column.unit column.cell p q) columns few
order_referred stem scale stands.Up columns p few =
    columns_referred stem (plainly_referred stem scale) (λ n column q. plain_referred stem scale n column.unit column.cell p q) columns few
order_referred stem scale stands.Down columns p few =
    columns_referred stem (plainly_referred stem scale) (λ n column q. plain_referred stem scale n column.unit column.cell p q) columns few
order_referred stem scale (stands.Listed cells) columns p few =
    columns_referred stem (own_referred stem scale) (λ n column q. cells_referred stem scale n p q) columns few
order_referred stem scale (stands.ByRows by) columns p few =
    let own = columns_referred stem (own_referred stem scale) (λ n column q. cells_referred stem scale n p q) columns few in record {
      may = All-append (MayRefer stem) (all_own stem scale columns) (ranks_referred stem scale ∷ []) own.may
          (All-cons (MayRefer stem) (ranks_referred stem scale) [] (ranks_may stem scale p) (All-nil (MayRefer stem)));
      few = one_more_referred (all_own stem scale columns) (ranks_referred stem scale)
          (omega (arith, few, length_mapped (own_referred stem scale) (enumerate_from 0 columns), enumerated 0 columns));
    }

domain_referred : (stem : List ℕ) (p : Plan) (scale : ℕ) (holder : Option ℕ) (domain : DomainPlan) → IsPlace scale → IsSmallDomain p holder domain
    → AreReferred stem (references_of stem scale domain)
domain_referred stem p scale holder (plan.Cells cells) q small = record { may = All-nil (MayRefer stem); few = omega arith }
domain_referred stem p scale holder (plan.Columns of) q small = order_referred stem scale of.order of.columns q small.columns

outer_at : (stem : List ℕ) (scale n : ℕ) (r : Reference) → IsPlace scale → IsPlace n → MayRefer stem r
    → At stem (outer_from scale + n) (outer_list stem scale (n, r))
outer_at stem scale n r p q may = (
  record {
    named = OuterName scale n;
    fits = (p, q);
    is = refl;
    other = other_is stem 111 (drop 1 (outer_name [] scale n)) refl;
    source = r.data_;
    begins = refl;
    reads_source = may_later stem (W * 8 * W + 1) (place (OuterName scale n)) r.data_ (omega arith) may;
    reads = no_reads stem (place (OuterName scale n));
  },
  omega arith,
)

outers_rise : (stem : List ℕ) (scale n : ℕ) (rs : List Reference) → IsPlace scale → n + length rs ≤ W → All (MayRefer stem) rs
    → Rise stem (outer_from scale + n) (outer_from scale + (n + length rs)) (map (outer_list stem scale) (enumerate_from n rs))
outers_rise stem scale n [] p few may = omega arith
outers_rise stem scale n (r ∷ rs) p few may =
    then_rise stem (outer_from scale + n) (outer_from scale + n) (outer_from scale + (n + length (r ∷ rs))) (outer_list stem scale (n, r))
    (map (outer_list stem scale) (enumerate_from (n + 1) rs)) (outer_at stem scale n r p (omega (arith, few)) (All-head (MayRefer stem) r rs may)) (le_refl _)
    (lower stem (suc (outer_from scale + n)) (outer_from scale + (n + 1)) (outer_from scale + (n + length (r ∷ rs)))
    (map (outer_list stem scale) (enumerate_from (n + 1) rs)) (omega arith)
    (upper stem (outer_from scale + (n + 1)) (outer_from scale + ((n + 1) + length rs)) (outer_from scale + (n + length (r ∷ rs)))
    (map (outer_list stem scale) (enumerate_from (n + 1) rs)) (omega arith)
    (outers_rise stem scale (n + 1) rs p (omega (arith, few)) (All-tail (MayRefer stem) r rs may))))

drags_rise : (stem : List ℕ) (p : Plan) (selections : List SelectionPlan) (n : ℕ) (scales : List ScalePlan) → n + length scales ≤ W
    → All (IsSmallScale p) scales
    → Rise stem (outer_from n) (outer_from (n + length scales)) (flat_map (outer_lists stem selections) (enumerate_from n scales))
drags_rise stem p selections n [] few small = omega arith
drags_rise stem p selections n (s ∷ scales) few small =
    let own = map (outer_list stem n) (enumerate_from 0 (references_of stem n s.domain)) in
    let refs = domain_referred stem p n s.holder s.domain (omega (arith, few)) (All-head (IsSmallScale p) s scales small) in
    join stem (outer_from n) (outer_from (n + 1)) (outer_from (n + length (s ∷ scales))) (outer_lists stem selections (n, s))
    (flat_map (outer_lists stem selections) (enumerate_from (n + 1) scales))
    (rise_if stem (outer_from n) (outer_from (n + 1)) (is_copied selections n) own (omega arith)
    (lower stem (outer_from n) (outer_from n + 0) (outer_from (n + 1)) own (omega arith)
    (upper stem (outer_from n + 0) (outer_from n + (0 + length (references_of stem n s.domain))) (outer_from (n + 1)) own (omega (arith, refs.few))
    (outers_rise stem n 0 (references_of stem n s.domain) (omega (arith, few)) (omega (arith, refs.few)) refs.may))))
    (upper stem (outer_from (n + 1)) (outer_from ((n + 1) + length scales)) (outer_from (n + length (s ∷ scales)))
    (flat_map (outer_lists stem selections) (enumerate_from (n + 1) scales)) (omega arith)
    (drags_rise stem p selections (n + 1) scales (omega (arith, few)) (All-tail (IsSmallScale p) s scales small)))

-- ---- all of them

all_rise : (stem : List ℕ) (p : Plan) → IsSmallPlan p → Rise stem 1 (outer_from (0 + length p.scales)) (other_lists stem p)
all_rise stem p small =
    join stem 1 (orders_from 0) (outer_from (0 + length p.scales)) (scale_lists stem p) (grid_lists stem p ++ drag_lists stem p)
    (upper stem (codes_from 0) (codes_from (0 + length p.scales)) (orders_from 0) (scale_lists stem p) (omega (arith, small.scales))
    (scales_rise stem p 0 p.scales (omega (arith, small.scales)) small.each))
    (join stem (orders_from 0) (outer_from 0) (outer_from (0 + length p.scales)) (grid_lists stem p) (drag_lists stem p)
    (upper stem (orders_from 0) (orders_from W) (outer_from 0) (grid_lists stem p) (omega arith)
    (grids_rise stem 0 p.grids (omega arith) small.grids small.numbers))
    (drags_rise stem p p.selections 0 p.scales (omega (arith, small.scales)) small.each))

pub others_stand : OthersStand
others_stand s values sources same few null small scope read =
    let f = found s values sources scope same few null read in
    all_stand values sources (stem_of s) 1 (outer_from (0 + length (plan_of s).scales)) (other_lists (stem_of s) (plan_of s))
    (units_scope (stem_of s) (plan_of s) sources f.rows f.begun) scope (all_rise (stem_of s) (plan_of s) small) f.behind
