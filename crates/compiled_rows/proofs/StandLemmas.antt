-- What names stand for where all data sets are read: names of units for the rows of units, those of sources for the rows of sources.
use Rattle.std.proofs.Common.{◌≡◌, refl, sym, ap, ◌∙◌, subst, ℕ, zero, suc, ◌+◌, ◌<◌, ◌≢◌, Bool, true, false, Option, Some, None, List, [], ◌∷◌, ◌++◌}
use Rattle.std.proofs.Common.{map, All, arith, slice_get, filter, flat_map, filter_map, if◌then◌else◌, get_or, drop, true≢false, is_none, unwrap_or, ◌==◌, ◌||◌}
use Rattle.std.proofs.Common.{IfSome, is_some}
use Rattle.std.specs.List.{cons_option}
use Rattle.std.specs.Option.{option_map_or}
use Rattle.std.specs.List.{enumerate_from}
use Rattle.std.proofs.lemmas.List.Elements.{All-nil, All-cons, All-head, All-tail, All-append}
use Rattle.fixed_num.specs.Ranges.{◌>>=◌, all_found}
use Rattle.cell_value.specs.Datum.{Datum}
use Rattle.cell_value.specs.State.{Dataset}
use Rattle.expr_eval.specs.Values.{Values}
use Rattle.vega_spec.specs.declared.data.DataSet.{DataSet}
use Rattle.vega_spec.specs.declared.transforms.Transform.{Transform}
use Rattle.vl_spec.specs.declared.spec.VlSpec.{VlSpec}
use Rattle.vl_compose.specs.Rounds.{rounds_of}
use Rattle.vl_compose.specs.Units.{UnitAt, unit_at, ends_in_unit, units_of}
use Rattle.vl_normalize.specs.Normal.{normal_form}
use Rattle.plan_kit.specs.declared.cells.CellOf.{CellOf}
use Rattle.plan_kit.specs.declared.cells.CellOf.TheVariants as shows
use Rattle.plan_kit.specs.declared.plans.UnitPlan.{UnitPlan}
use Rattle.plan_kit.specs.declared.steps.Step.{Step}
use Rattle.plan_kit.specs.declared.columns.Column.{Column}
use Rattle.plan_kit.specs.declared.domains.DomainPlan.{DomainPlan}
use Rattle.plan_kit.specs.declared.domains.DomainPlan.TheVariants as plan
use Rattle.plan_kit.specs.declared.grids.FacetField.{FacetField}
use Rattle.plan_kit.specs.declared.grids.FacetPlan.{FacetPlan}
use Rattle.plan_kit.specs.declared.grids.GridPlan.{GridPlan}
use Rattle.plan_kit.specs.declared.orders.CellOrder.{CellOrder}
use Rattle.plan_kit.specs.declared.orders.CellOrder.TheVariants as stands
use Rattle.plan_kit.specs.declared.orders.RowsOrder.{RowsOrder}
use Rattle.plan_kit.specs.declared.plan.Plan.{Plan}
use Rattle.chart_plan.specs.Plan.{plan_of, all_scales, unit_by}
use Rattle.vega_lists.specs.Lists.{list_of, lists_of}
use Rattle.vega_lists.specs.Scopes.{Scope, with_list, list_named}
use Rattle.vega_assemble.specs.Assembled.{is_begun}
use Rattle.vega_assemble.specs.Drags.{is_copied, references_of, outer_list, outer_lists}
use Rattle.vega_assemble.specs.Keys.{has_keys, keys_list, lists_with_keys, lists_of_facet, lists_of_grid, orders_for, orders_if, orders_list, placed}
use Rattle.vega_assemble.specs.Lists.{beside_domain, beside_order, column_list, column_lists, list_if_wanted, lists_for_scale, lists_in_order, lists_of_domain}
use Rattle.vega_assemble.specs.Lists.{names_held, names_of_columns, plain_list, plain_lists}
use Rattle.vega_assemble.specs.Names.{unit_name, begun_name, cells_name, codes_name, ranks_name, orders_name, keys_name, outer_name}
use Rattle.vega_assemble.specs.Ranked.{are_some, codes_list, codes_lists, ranks_list, told_by}
use Rattle.compiled_rows.specs.Names.{UnitName, BegunName, IsPlace}
use Rattle.compiled_rows.specs.Steps.{IsNull}
use Rattle.compiled_rows.specs.Lists.{unit_left, begun_left, all_left, all_begun, units_begun, with_all, unit_names, units_scope, scale_lists}
use Rattle.chart_meaning.specs.Rows.{rows_named, stepped, all_stepped}
use Rattle.compiled_rows.specs.Lists.{grid_lists, drag_lists, other_lists, HasSources, stem_of, HasFewUnits, IsRead, UnitsAreNumbered, UnitsStand, BegunStand}
use Rattle.compiled_rows.specs.Lists.{BegunGoOn}
use Rattle.compiled_rows.proofs.NameLemmas.{first, cancelled, made_names_differ}
use Rattle.compiled_rows.proofs.ReadLemmas.{elsewhere, there}
use Rattle.compiled_rows.proofs.UnitLemmas.{all_kept, units_come_first}
use Rattle.compiled_rows.proofs.FitLemmas.{all_flat, all_mapped, alone}

-- ---- options

pub no_value : {X : Type 0} (x : X) → None ≡ Some x → ⊥
no_value x e = true≢false (ap is_none e)

pub same_value : {X : Type 0} (x y : X) → Some x ≡ Some y → x ≡ y
same_value x y e = ap (λ o. unwrap_or o x) e

-- what was bound
pub bound : {A B : Type 0} (o : Option A) (f : A → Option B) (b : B) → (o >>= f) ≡ Some b → (a : A) × (o ≡ Some a) × (f a ≡ Some b)
bound None f b e = absurd (no_value b e)
bound (Some a) f b e = (a, refl, e)

-- what was found of several
pub found_of : {A : Type 0} (o : Option A) (os : Option (List A)) (all : List A) → (o >>= λ x. os >>= λ xs. Some (x ∷ xs)) ≡ Some all
    → (x : A) × (xs : List A) × (o ≡ Some x) × (os ≡ Some xs) × (x ∷ xs ≡ all)
found_of None os all e = absurd (no_value all e)
found_of (Some x) None all e = absurd (no_value all e)
found_of (Some x) (Some xs) all e = (x, xs, refl, refl, same_value (x ∷ xs) all e)

-- ---- the numbers of units

abbrev pub number_in : {B : Type 0} → (B → ℕ) → Option B → ℕ
number_in number None = 0
number_in number (Some b) = number b

numbered_from : {A B : Type 0} (at : ℕ → A → UnitAt) (f : UnitAt → B) (number : B → ℕ) → ((n : ℕ) (a : A) → number (f (at n a)) ≡ n) → (n : ℕ) (xs : List A)
    (k : ℕ) (b : B) → slice_get (map f (map (λ (m : ℕ × A). at m.0 m.1) (enumerate_from n xs))) k ≡ Some b → number b ≡ n + k
numbered_from at f number each n [] k b e = absurd (no_value b e)
numbered_from at f number each n (x ∷ xs) zero b e = sym (ap (number_in number) e) ∙ each n x ∙ omega arith
numbered_from at f number each n (x ∷ xs) (suc k) b e = numbered_from at f number each (n + 1) xs k b e ∙ omega arith

pub units_are_numbered : UnitsAreNumbered
units_are_numbered s k u e =
    let n = normal_form s in
    numbered_from unit_at (unit_by n.params (all_scales n (units_of n))) (λ (v : UnitPlan). v.number) (λ m round. refl) 0 (filter ends_in_unit (rounds_of n)) k
    u e
    ∙ omega arith

-- ---- lists under names that differ

abbrev Differ : {U : Type 0} → (U → List ℕ) → List U → Type 0
Differ name_of [] = Unit {0}
Differ name_of (u ∷ us) = All (λ v. name_of v ≢ name_of u) us × Differ name_of us

kept_behind : {U : Type 0} (name_of : U → List ℕ) (us : List U) (lists : List (List Datum)) (scope : Scope) (name : List ℕ)
    → All (λ v. name_of v ≢ name) us → with_all (map name_of us) lists scope name ≡ scope name
kept_behind name_of [] lists scope name apart = refl
kept_behind name_of (u ∷ us) [] scope name apart = refl
kept_behind name_of (u ∷ us) (rows ∷ lists) scope name apart =
    kept_behind name_of us lists (with_list (name_of u) rows scope) name (All-tail (λ v. name_of v ≢ name) u us apart)
    ∙ elsewhere (name_of u) name rows scope (All-head (λ v. name_of v ≢ name) u us apart)

stands_there : {U : Type 0} (name_of : U → List ℕ) (f : U → Option (List Datum)) (us : List U) (lists : List (List Datum)) (scope : Scope)
    → Differ name_of us → all_found (map f us) ≡ Some lists → (k : ℕ) (u : U) → slice_get us k ≡ Some u
    → f u ≡ Some (with_all (map name_of us) lists scope (name_of u))
stands_there name_of f [] lists scope differ e k u there = absurd (no_value u there)
stands_there name_of f (v ∷ us) lists scope differ e zero u at =
    let parts = found_of (f v) (all_found (map f us)) lists e in
    let here : f v ≡ Some (with_all (map name_of (v ∷ us)) (parts.0 ∷ parts.1) scope (name_of v))
    = parts.2 ∙ ap Some (sym (kept_behind name_of us parts.1 (with_list (name_of v) parts.0 scope) (name_of v) differ.0 ∙ there (name_of v) parts.0 scope)) in
    subst (λ w. f w ≡ Some (with_all (map name_of (v ∷ us)) lists scope (name_of w))) (same_value v u at)
    (subst (λ all. f v ≡ Some (with_all (map name_of (v ∷ us)) all scope (name_of v))) parts.4 here)
stands_there name_of f (v ∷ us) lists scope differ e (suc k) u at =
    let parts = found_of (f v) (all_found (map f us)) lists e in
    subst (λ all. f u ≡ Some (with_all (map name_of (v ∷ us)) all scope (name_of u))) parts.4
    (stands_there name_of f us parts.1 (with_list (name_of v) parts.0 scope) differ.1 parts.3 k u at)

-- ---- names of units differ

-- numbers that count up from here, and those that differ
abbrev pub CountUp : ℕ → List UnitPlan → Type 0
CountUp n us = (k : ℕ) (u : UnitPlan) → slice_get us k ≡ Some u → u.number ≡ n + k

later : (n m : ℕ) (us : List UnitPlan) → n < m → CountUp m us → All (λ (v : UnitPlan). v.number ≢ n) us
later n m [] less up = All-nil (λ (v : UnitPlan). v.number ≢ n)
later n m (u ∷ us) less up =
    All-cons (λ (v : UnitPlan). v.number ≢ n) u us (λ same. omega (arith, less, same, up zero u refl))
    (later n (m + 1) us (omega (arith, less)) (λ k v e. up (suc k) v e ∙ omega arith))

-- a name by a number tells the number
abbrev Tells : (ℕ → List ℕ) → Type 0
Tells name_at = (a b : ℕ) → IsPlace a → IsPlace b → name_at a ≡ name_at b → a ≡ b

unit_tells : (stem : List ℕ) → Tells (unit_name stem)
unit_tells stem a b p q e = ap first (made_names_differ stem (UnitName a) (UnitName b) p q e)

begun_tells : (stem : List ℕ) → Tells (begun_name stem)
begun_tells stem a b p q e = ap first (made_names_differ stem (BegunName a) (BegunName b) p q e)

names_apart : (name_at : ℕ → List ℕ) → Tells name_at → (n : ℕ) → IsPlace n → (us : List UnitPlan) → All (λ (v : UnitPlan). IsPlace v.number) us
    → All (λ (v : UnitPlan). v.number ≢ n) us → All (λ (v : UnitPlan). name_at v.number ≢ name_at n) us
names_apart name_at tells n p [] few apart = All-nil (λ (v : UnitPlan). name_at v.number ≢ name_at n)
names_apart name_at tells n p (u ∷ us) few apart =
    All-cons (λ (v : UnitPlan). name_at v.number ≢ name_at n) u us
    (λ same. All-head (λ (v : UnitPlan). v.number ≢ n) u us apart (tells u.number n (All-head (λ (v : UnitPlan). IsPlace v.number) u us few) p same))
    (names_apart name_at tells n p us (All-tail (λ (v : UnitPlan). IsPlace v.number) u us few) (All-tail (λ (v : UnitPlan). v.number ≢ n) u us apart))

all_differ : (name_at : ℕ → List ℕ) → Tells name_at → (n : ℕ) (us : List UnitPlan) → All (λ (v : UnitPlan). IsPlace v.number) us → CountUp n us
    → Differ (λ (v : UnitPlan). name_at v.number) us
all_differ name_at tells n [] few up = tt
all_differ name_at tells n (u ∷ us) few up =
    let here : n ≡ u.number = omega (arith, up zero u refl) in
    let others = All-tail (λ (v : UnitPlan). IsPlace v.number) u us few in
    let next : CountUp (n + 1) us = λ k v e. up (suc k) v e ∙ omega arith in (
      names_apart name_at tells u.number (All-head (λ (v : UnitPlan). IsPlace v.number) u us few) us others
          (subst (λ m. All (λ (v : UnitPlan). v.number ≢ m) us) here (later n (n + 1) us (omega arith) next)),
      all_differ name_at tells (n + 1) us others next,
    )

kept_differ : {U : Type 0} (name_of : U → List ℕ) (test : U → Bool) (us : List U) → Differ name_of us → Differ name_of (filter test us)
kept_differ name_of test [] differ = tt
kept_differ name_of test (u ∷ us) differ =
    by (test u) (all_kept (λ v. name_of v ≢ name_of u) test us differ.0) (kept_differ name_of test us differ.1)
  where
    by : (b : Bool) → All (λ v. name_of v ≢ name_of u) (filter test us) → Differ name_of (filter test us)
        → Differ name_of (if b then u ∷ filter test us else filter test us)
    by true here rest = (here, rest)
    by false here rest = rest

-- one that passes stands among those that do
place_kept : {U : Type 0} (test : U → Bool) (us : List U) (k : ℕ) (u : U) → slice_get us k ≡ Some u → test u ≡ true
    → (j : ℕ) × (slice_get (filter test us) j ≡ Some u)
place_kept test [] k u at passes = absurd (no_value u at)
place_kept test (v ∷ us) zero u at passes =
    (0, ap (λ b. slice_get (if b then v ∷ filter test us else filter test us) 0) (ap test (same_value v u at) ∙ passes) ∙ at)
place_kept test (v ∷ us) (suc k) u at passes = by (test v) (place_kept test us k u at passes)
  where
    by : (b : Bool) → (j : ℕ) × (slice_get (filter test us) j ≡ Some u)
        → (j : ℕ) × (slice_get (if b then v ∷ filter test us else filter test us) j ≡ Some u)
    by true found = (suc found.0, found.1)
    by false found = found

-- ---- names of other lists

-- the bytes with which the names of units, of their rows before the aggregate and of the list without rows begin behind the stem
abbrev pub begins_own : ℕ → Bool
begins_own byte = (byte == 117) || ((byte == 98) || (byte == 110))

pub record IsOther (stem name : List ℕ) : Type 0 where
  pub byte : ℕ
  pub rest : List ℕ
  pub is : name ≡ stem ++ byte ∷ rest
  pub other : begins_own byte ≡ false

-- a list of such a name that begins with the rows of another
abbrev pub Other : List ℕ → DataSet → Type 0
Other stem set = IsOther stem set.name × (is_some set.source ≡ true)

pub other_is : (stem : List ℕ) (byte : ℕ) (rest : List ℕ) → begins_own byte ≡ false → IsOther stem (stem ++ byte ∷ rest)
other_is stem byte rest e = record { byte = byte; rest = rest; is = refl; other = e }

pub other_apart : (stem name : List ℕ) (byte : ℕ) (rest : List ℕ) → begins_own byte ≡ true → IsOther stem name → name ≢ stem ++ byte ∷ rest
other_apart stem name byte rest own h same =
    let bytes : h.byte ≡ byte
    = ap (λ t. get_or t 0 0) (cancelled stem (h.byte ∷ h.rest) (byte ∷ rest) (sym h.is ∙ same)) in
    true≢false (sym own ∙ ap begins_own (sym bytes) ∙ h.other)

all_others : (stem : List ℕ) (sets : List DataSet) (byte : ℕ) (rest : List ℕ) → begins_own byte ≡ true → All (Other stem) sets
    → All (λ (set : DataSet). set.name ≢ stem ++ byte ∷ rest) sets
all_others stem [] byte rest own all = All-nil (λ (set : DataSet). set.name ≢ stem ++ byte ∷ rest)
all_others stem (set ∷ sets) byte rest own all =
    All-cons (λ (s : DataSet). s.name ≢ stem ++ byte ∷ rest) set sets (other_apart stem set.name byte rest own (All-head (Other stem) set sets all).0)
    (all_others stem sets byte rest own (All-tail (Other stem) set sets all))

if_wanted : (stem : List ℕ) (b : Bool) (sets : List DataSet) → All (Other stem) sets → All (Other stem) (if b then sets else [])
if_wanted stem true sets all = all
if_wanted stem false sets all = All-nil (Other stem)

-- ---- those of scales

column_other : (stem : List ℕ) (scale : ℕ) (more : List Transform) (column : ℕ × Column) → Other stem (column_list stem scale more column)
column_other stem scale more column = (other_is stem 99 (drop 1 (cells_name [] scale column.0)) refl, refl)

plain_other : (stem : List ℕ) (scale place unit : ℕ) (c : CellOf) → IfSome (plain_list stem scale place unit c) (Other stem)
plain_other stem scale place unit (shows.Field name) = tt
plain_other stem scale place unit (shows.Written c) = (other_is stem 99 (drop 1 (cells_name [] scale place)) refl, refl)
plain_other stem scale place unit (shows.Computed e) = (other_is stem 99 (drop 1 (cells_name [] scale place)) refl, refl)

all_wanted : {X Y : Type 0} (P : Y → Type 0) (f : X → Option Y) → ((x : X) → IfSome (f x) P) → (xs : List X) → All P (filter_map f xs)
all_wanted P f each [] = All-nil P
all_wanted {X} {Y} P f each (x ∷ xs) = by (f x) (each x) (all_wanted P f each xs)
  where
    by : (o : Option Y) → IfSome o P → All P (filter_map f xs) → All P (cons_option o (filter_map f xs))
    by None here rest = rest
    by (Some y) here rest = All-cons P y (filter_map f xs) here rest

plain_others : (stem : List ℕ) (scale : ℕ) (columns : List Column) → All (Other stem) (plain_lists stem scale columns)
plain_others stem scale columns =
    all_wanted (Other stem) (list_if_wanted stem scale) (λ column. plain_other stem scale column.0 column.1.unit column.1.cell) (enumerate_from 0 columns)

columns_other : (stem : List ℕ) (scale : ℕ) (more : List Transform) (columns : List Column)
    → All (Other stem) (map (column_list stem scale more) (enumerate_from 0 columns))
columns_other stem scale more columns = all_mapped (Other stem) (column_list stem scale more) (column_other stem scale more) (enumerate_from 0 columns)

ordered_other : (stem : List ℕ) (grids : List GridPlan) (scale : ℕ) (holder : Option ℕ) (order : CellOrder) (columns : List Column)
    → All (Other stem) (lists_in_order stem grids scale holder order columns)
ordered_other stem grids scale holder stands.First columns = plain_others stem scale columns
ordered_other stem grids scale holder stands.Up columns = plain_others stem scale columns
ordered_other stem grids scale holder stands.Down columns = plain_others stem scale columns
ordered_other stem grids scale holder (stands.Listed cells) columns = columns_other stem scale _ columns
ordered_other stem grids scale holder (stands.ByRows by) columns =
    let facets = names_held grids by.unit holder in
    let rows = ranks_list stem scale facets (names_of_columns stem scale columns) by in
    All-append (Other stem) (column_lists stem scale facets by columns) (rows ∷ []) (columns_other stem scale _ columns)
    (alone (Other stem) rows (other_is stem 114 (drop 1 (ranks_name [] scale)) refl, refl))

codes_other : (stem : List ℕ) (scale : ℕ) (facets : List (List ℕ)) (by : RowsOrder) → All (Other stem) (codes_lists stem scale facets by)
codes_other stem scale facets by =
    if_wanted stem (are_some facets) _
    (all_mapped (Other stem) (codes_list stem scale by) (λ field. (other_is stem 99 (drop 1 (codes_name [] scale field.0)) refl, refl))
    (enumerate_from 0 (told_by stem facets)))

beside_other : (stem : List ℕ) (grids : List GridPlan) (scale : ℕ) (holder : Option ℕ) (order : CellOrder)
    → All (Other stem) (beside_order stem grids scale holder order)
beside_other stem grids scale holder stands.First = All-nil (Other stem)
beside_other stem grids scale holder stands.Up = All-nil (Other stem)
beside_other stem grids scale holder stands.Down = All-nil (Other stem)
beside_other stem grids scale holder (stands.Listed cells) = All-nil (Other stem)
beside_other stem grids scale holder (stands.ByRows by) = codes_other stem scale (names_held grids by.unit holder) by

domain_other : (stem : List ℕ) (grids : List GridPlan) (scale : ℕ) (holder : Option ℕ) (domain : DomainPlan)
    → All (Other stem) (beside_domain stem grids scale holder domain ++ lists_of_domain stem grids scale holder domain)
domain_other stem grids scale holder (plan.Cells cells) = All-nil (Other stem)
domain_other stem grids scale holder (plan.Columns of) =
    All-append (Other stem) (beside_order stem grids scale holder of.order) (lists_in_order stem grids scale holder of.order of.columns)
    (beside_other stem grids scale holder of.order) (ordered_other stem grids scale holder of.order of.columns)

pub scales_other : (stem : List ℕ) (p : Plan) → All (Other stem) (scale_lists stem p)
scales_other stem p =
    all_flat (Other stem) (lists_for_scale stem p.grids) (λ s. domain_other stem p.grids s.0 s.1.holder s.1.domain) (enumerate_from 0 p.scales)

-- ---- those of facets and drags

order_other : (stem : List ℕ) (facet : ℕ) (units : List ℕ) (place : ℕ) (name : List ℕ) (order : CellOrder)
    → All (Other stem) (orders_if stem facet units place name order)
order_other stem facet units place name stands.First = All-nil (Other stem)
order_other stem facet units place name stands.Up = All-nil (Other stem)
order_other stem facet units place name stands.Down = All-nil (Other stem)
order_other stem facet units place name (stands.Listed cells) = All-nil (Other stem)
order_other stem facet units place name (stands.ByRows by) =
    alone (Other stem) (orders_list stem facet units place name by) (other_is stem 111 (drop 1 (orders_name [] facet place)) refl, refl)

keys_other : (stem : List ℕ) (facet : ℕ) (fields : List FacetField) (units : List ℕ) → All (Other stem) (lists_with_keys stem facet fields units)
keys_other stem facet fields units =
    All-append (Other stem) (flat_map (orders_for stem facet units) (placed fields)) (map (keys_list stem facet fields) units)
    (all_flat (Other stem) (orders_for stem facet units) (λ field. order_other stem facet units field.0 field.1.name field.1.order) (placed fields))
    (all_mapped (Other stem) (keys_list stem facet fields) (λ unit. (other_is stem 107 (drop 1 (keys_name [] facet unit)) refl, refl)) units)

facet_other : (stem : List ℕ) (number : ℕ) (facet : Option FacetPlan) → All (Other stem) (option_map_or (lists_of_facet stem number) facet [])
facet_other stem number None = All-nil (Other stem)
facet_other stem number (Some f) = if_wanted stem (has_keys f.fields) _ (keys_other stem number f.fields f.units)

pub grids_other : (stem : List ℕ) (p : Plan) → All (Other stem) (grid_lists stem p)
grids_other stem p = all_flat (Other stem) (lists_of_grid stem) (λ grid. facet_other stem grid.number grid.facet) p.grids

pub drags_other : (stem : List ℕ) (p : Plan) → All (Other stem) (drag_lists stem p)
drags_other stem p =
    all_flat (Other stem) (outer_lists stem p.selections)
    (λ s. if_wanted stem (is_copied p.selections s.0) _
    (all_mapped (Other stem) (outer_list stem s.0) (λ r. (other_is stem 111 (drop 1 (outer_name [] s.0 r.0)) refl, refl))
    (enumerate_from 0 (references_of stem s.0 s.1.domain))))
    (enumerate_from 0 p.scales)

pub every_other : (stem : List ℕ) (p : Plan) → All (Other stem) (other_lists stem p)
every_other stem p =
    All-append (Other stem) (scale_lists stem p) (grid_lists stem p ++ drag_lists stem p) (scales_other stem p)
    (All-append (Other stem) (grid_lists stem p) (drag_lists stem p) (grids_other stem p) (drags_other stem p))

-- ---- scopes behind them

-- data sets of other names leave what a name stands for
pub kept_through : (values : Values) (sources : List Dataset) (sets : List DataSet) (before after : Scope) (name : List ℕ)
    → lists_of values sources before sets ≡ Some after → All (λ (set : DataSet). set.name ≢ name) sets → after name ≡ before name
kept_through values sources [] before after name e apart = ap (λ scope. scope name) (sym (same_value before after e))
kept_through values sources (set ∷ sets) before after name e apart =
    by (list_of values sources before set) e
    (λ next is. kept_through values sources sets next after name is (All-tail (λ (s : DataSet). s.name ≢ name) set sets apart))
  where
    by : (o : Option (List Datum)) → ((o >>= λ rows. Some (with_list set.name rows before)) >>= λ next. lists_of values sources next sets) ≡ Some after
        → ((next : Scope) → lists_of values sources next sets ≡ Some after → after name ≡ next name) → after name ≡ before name
    by None is rest = absurd (no_value after is)
    by (Some rows) is rest =
        rest (with_list set.name rows before) is
        ∙ elsewhere set.name name rows before (All-head (λ (s : DataSet). s.name ≢ name) set sets apart)

-- what was found on the way
pub record Found (s : VlSpec) (values : Values) (sources : List Dataset) (scope : Scope) : Type 0 where
  pub rows : List (List Datum)
  pub begun : List (List Datum)
  pub rows_are : all_left values sources (plan_of s) ≡ Some rows
  pub begun_are : all_begun values sources (plan_of s) ≡ Some begun
  pub behind : lists_of values sources (units_scope (stem_of s) (plan_of s) sources rows begun) (other_lists (stem_of s) (plan_of s)) ≡ Some scope

pub found : (s : VlSpec) (values : Values) (sources : List Dataset) (scope : Scope) → HasSources sources s → HasFewUnits s → IsNull values (stem_of s)
    → IsRead s values sources scope → Found s values sources scope
found s values sources scope same few null read =
    let first_part = bound (all_left values sources (plan_of s)) _ scope (sym (units_come_first s values sources same few null) ∙ read) in
    let second_part = bound (all_begun values sources (plan_of s)) _ scope first_part.2 in
    record { rows = first_part.0; begun = second_part.0; rows_are = first_part.1; begun_are = second_part.1; behind = second_part.2 }

pub units_count : (s : VlSpec) → CountUp 0 (plan_of s).units
units_count s k u e = units_are_numbered s k u e ∙ omega arith

begun_apart : (stem : List ℕ) (k : ℕ) (us : List UnitPlan) → All (λ (u : UnitPlan). begun_name stem u.number ≢ unit_name stem k) us
begun_apart stem k [] = All-nil (λ (u : UnitPlan). begun_name stem u.number ≢ unit_name stem k)
begun_apart stem k (u ∷ us) =
    All-cons (λ (v : UnitPlan). begun_name stem v.number ≢ unit_name stem k) u us
    (λ same. bytes_apart (cancelled stem (begun_name [] u.number) (unit_name [] k) same)) (begun_apart stem k us)
  where
    bytes_apart : begun_name [] u.number ≡ unit_name [] k → ⊥
    bytes_apart e = omega (arith, ap (λ t. get_or t 0 0) e)

pub units_stand : UnitsStand
units_stand s values sources same few null scope read k u at =
    let p = plan_of s in
    let stem = stem_of s in
    let f = found s values sources scope same few null read in
    let listed = with_all (unit_names stem p.units) f.rows (list_named sources) in
    let own : unit_left values sources u ≡ Some (listed (unit_name stem u.number))
    = stands_there (λ (v : UnitPlan). unit_name stem v.number) (unit_left values sources) p.units f.rows (list_named sources)
    (all_differ (unit_name stem) (unit_tells stem) 0 p.units few (units_count s)) f.rows_are k u at in
    let after : scope (unit_name stem k) ≡ listed (unit_name stem k)
    = kept_through values sources (other_lists stem p) (units_scope stem p sources f.rows f.begun) scope (unit_name stem k) f.behind
    (all_others stem (other_lists stem p) 117 (drop 1 (unit_name [] k)) refl (every_other stem p))
    ∙ kept_behind (λ (v : UnitPlan). begun_name stem v.number) (units_begun p) f.begun listed (unit_name stem k) (begun_apart stem k (units_begun p)) in
    own ∙ ap (λ n. Some (listed (unit_name stem n))) (units_are_numbered s k u at) ∙ ap Some (sym after)

pub begun_stand : BegunStand
begun_stand s values sources same few null scope read k u at is =
    let p = plan_of s in
    let stem = stem_of s in
    let f = found s values sources scope same few null read in
    let listed = units_scope stem p sources f.rows f.begun in
    let place = place_kept (is_begun p) p.units k u at is in
    let own : begun_left values sources u ≡ Some (listed (begun_name stem u.number))
    = stands_there (λ (v : UnitPlan). begun_name stem v.number) (begun_left values sources) (units_begun p) f.begun
    (with_all (unit_names stem p.units) f.rows (list_named sources))
    (kept_differ (λ (v : UnitPlan). begun_name stem v.number) (is_begun p) p.units
    (all_differ (begun_name stem) (begun_tells stem) 0 p.units few (units_count s)))
    f.begun_are place.0 u place.1 in
    let after : scope (begun_name stem k) ≡ listed (begun_name stem k)
    = kept_through values sources (other_lists stem p) listed scope (begun_name stem k) f.behind
    (all_others stem (other_lists stem p) 98 (drop 1 (begun_name [] k)) refl (every_other stem p)) in
    own ∙ ap (λ n. Some (listed (begun_name stem n))) (units_are_numbered s k u at) ∙ ap Some (sym after)

-- steps one after the other
stepped_on : (values : Values) (sources : List Dataset) (first second : List Step) (rows : List Datum)
    → all_stepped values sources (first ++ second) rows ≡ (all_stepped values sources first rows >>= λ next. all_stepped values sources second next)
stepped_on values sources [] second rows = refl
stepped_on values sources (x ∷ first) second rows = by (stepped values sources x rows) (λ next. stepped_on values sources first second next)
  where
    by : (o : Option (List Datum))
        → ((next : List Datum) → all_stepped values sources (first ++ second) next
        ≡ (all_stepped values sources first next >>= λ last. all_stepped values sources second last))
        → (o >>= λ next. all_stepped values sources (first ++ second) next)
        ≡ ((o >>= λ next. all_stepped values sources first next) >>= λ last. all_stepped values sources second last)
    by None on = refl
    by (Some next) on = on next

pub begun_go_on : BegunGoOn
begun_go_on s values sources same few null scope read k u at is =
    ap (λ o. o >>= λ next. all_stepped values sources u.after next) (sym (begun_stand s values sources same few null scope read k u at is))
    ∙ sym (stepped_on values sources u.before u.after (rows_named sources u.source))
    ∙ units_stand s values sources same few null scope read k u at
