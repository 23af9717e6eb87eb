-- Why lists that are made of others leave the cells in all fields but their own.
use Rattle.std.proofs.Common.{◌≡◌, ◌≢◌, ℕ, zero, suc, ◌&&◌, Bool, true, false, cond, length, Option, Some, List, [], ◌∷◌, ◌++◌, map, flat_map}
use Rattle.std.proofs.Common.{All as Every, unwrap_or, refl, sym, ap, ap₂, ◌∙◌, subst}
use Rattle.std.specs.Prelude.{filter_map, slice_get}
use Rattle.std.specs.List.{cons_option, enumerate_from, list_all}
use Rattle.std.specs.Option.{option_map_or}
use Rattle.std.specs.Str.{bytes_eq}
use Rattle.std.proofs.lemmas.List.Elements.{All-nil, All-cons, All-head, All-tail, All-append}
use Rattle.std.proofs.lemmas.Slice.Eq.{bytes_eq-Decides}
use Rattle.expr_syntax.specs.declared.expr.Expr.{Expr}
use Rattle.expr_syntax.specs.declared.expr.Expr.TheVariants as expr
use Rattle.vega_spec.specs.declared.data.DataSet.{DataSet}
use Rattle.vega_spec.specs.declared.transforms.Transform.{Transform}
use Rattle.vega_spec.specs.declared.transforms.Transform.TheVariants as vega
use Rattle.vega_lists.specs.Transforms.{transforms_of}
use Rattle.plan_kit.specs.declared.cells.CellOf.{CellOf}
use Rattle.plan_kit.specs.declared.cells.CellOf.TheVariants as shows
use Rattle.plan_kit.specs.declared.columns.Column.{Column}
use Rattle.plan_kit.specs.declared.domains.DomainPlan.{DomainPlan}
use Rattle.plan_kit.specs.declared.domains.DomainPlan.TheVariants as plan
use Rattle.plan_kit.specs.declared.grids.FacetField.{FacetField}
use Rattle.plan_kit.specs.declared.grids.GridPlan.{GridPlan}
use Rattle.plan_kit.specs.declared.orders.CellOrder.{CellOrder}
use Rattle.plan_kit.specs.declared.orders.CellOrder.TheVariants as stands
use Rattle.plan_kit.specs.declared.orders.RowsOrder.{RowsOrder}
use Rattle.vega_assemble.specs.Cells.{field_expr}
use Rattle.vega_assemble.specs.Drags.{is_copied, references_of, outer_list}
use Rattle.vega_assemble.specs.Keys.{field_keys, steps_for, keys_list, placed}
use Rattle.vega_assemble.specs.Lists.{column_list, column_lists, list_if_wanted, lists_in_order, lists_of_domain, name_of_column, names_held, names_of_columns}
use Rattle.vega_assemble.specs.Lists.{field_names, lists_of_scale, names_if_round, names_round, names_to, plain_list}
use Rattle.vega_assemble.specs.Names.{unit_name, cells_name, ranks_name, keys_name, cell_column, rank_column, key_column}
use Rattle.vega_assemble.specs.Ranked as ranked
use Rattle.vega_assemble.specs.Ranks.{counts, listed_rank, over_none}
use Rattle.vega_assemble.specs.Sources.{if_any, list_made}
use Rattle.chart_meaning.specs.Parts.{names_of}
use Rattle.compiled_rows.specs.Follows.{is_outside, leaves_cells, adds_none}
use Rattle.compiled_rows.specs.Leaves.{ColumnsAreOutside, set_leaves, set_adds_none, tells, domain_tells, ScaleListsLeave, KeyListsLeave, DragListsLeave}
use Rattle.compiled_rows.specs.Leaves.{ScaleListsAddNone, FieldsAreTold}
use Rattle.compiled_rows.specs.Parts.{is_one_of}
use Rattle.compiled_rows.proofs.FollowLemmas.{both_of}
use Rattle.compiled_rows.proofs.PartLemmas.{any_left, any_right, or_left, or_right}
use Rattle.compiled_rows.proofs.StandLemmas.{no_value, same_value}

module _ {X : Type 0} (q : X → Bool) where
  one_of_all : (b c d : Bool) → (b && (c && d)) ≡ ((b && c) && d)
  one_of_all true c d = refl
  one_of_all false c d = refl

  of_both : (xs ys : List X) → list_all q (xs ++ ys) ≡ (list_all q xs && list_all q ys)
  of_both [] ys = refl
  of_both (x ∷ xs) ys = ap (λ b. q x && b) (of_both xs ys) ∙ one_of_all (q x) (list_all q xs) (list_all q ys)

  all_both : (xs ys : List X) → list_all q xs ≡ true → list_all q ys ≡ true → list_all q (xs ++ ys) ≡ true
  all_both xs ys h k = of_both xs ys ∙ ap₂ (λ a b. a && b) h k

  all_either : (b : Bool) (xs ys : List X) → list_all q xs ≡ true → list_all q ys ≡ true → list_all q (cond b xs ys) ≡ true
  all_either true xs ys h k = h
  all_either false xs ys h k = k

module _ {X Y : Type 0} (q : X → Bool) where
  all_each : (g : Y → X) → ((y : Y) → q (g y) ≡ true) → (ys : List Y) → list_all q (map g ys) ≡ true
  all_each g h [] = refl
  all_each g h (y ∷ ys) = ap₂ (λ a b. a && b) (h y) (all_each g h ys)

  all_lists : (g : Y → List X) → ((y : Y) → list_all q (g y) ≡ true) → (ys : List Y) → list_all q (flat_map g ys) ≡ true
  all_lists g h [] = refl
  all_lists g h (y ∷ ys) = all_both q (g y) (flat_map g ys) (h y) (all_lists g h ys)

transforms_back : (ts : List Transform) → unwrap_or (if_any ts) [] ≡ ts
transforms_back [] = refl
transforms_back (t ∷ ts) = refl

module _ (stem : List ℕ) (names : List (List ℕ)) (outside : ColumnsAreOutside stem names) where
  abbrev leaves : Transform → Bool
  leaves = leaves_cells names

  abbrev All : List Transform → Type 0
  All ts = list_all leaves ts ≡ true

  made_leaves : (name source : List ℕ) (ts : List Transform) → All ts → set_leaves names (list_made name source ts) ≡ true
  made_leaves name source ts h = ap (list_all leaves) (transforms_back ts) ∙ h

  one_column : (name : List ℕ) → is_outside names name ≡ true → (is_outside names name && true) ≡ true
  one_column name h = ap (λ b. b && true) h

  -- a transform that leaves them, and others
  and_others : (t : Transform) (ts : List Transform) → leaves t ≡ true → All ts → All (t ∷ ts)
  and_others t ts h k = ap₂ (λ a b. a && b) h k

  cell_leaves : (c : CellOf) → leaves (ranked.cell_formula stem c) ≡ true
  cell_leaves c = one_column (cell_column stem) outside.cell

  column_leaves : (scale : ℕ) (more : List Transform) → All more → (column : ℕ × Column) → set_leaves names (column_list stem scale more column) ≡ true
  column_leaves scale more h column =
      made_leaves (cells_name stem scale column.0) (unit_name stem column.1.unit) (ranked.cell_formula stem column.1.cell ∷ more)
      (and_others (ranked.cell_formula stem column.1.cell) more (cell_leaves column.1.cell) h)

  -- what holds of each data set that leaves them
  module _ (P : DataSet → Type 0) (each : (set : DataSet) → set_leaves names set ≡ true → P set) where
    columns_so : (scale : ℕ) (more : List Transform) → All more → (columns : List (ℕ × Column)) → Every P (map (column_list stem scale more) columns)
    columns_so scale more h [] = All-nil P
    columns_so scale more h (column ∷ columns) =
        All-cons P (column_list stem scale more column) (map (column_list stem scale more) columns)
        (each (column_list stem scale more column) (column_leaves scale more h column)) (columns_so scale more h columns)

    plain_so : (scale place unit : ℕ) (c : CellOf) (sets : List DataSet) → Every P sets → Every P (cons_option (plain_list stem scale place unit c) sets)
    plain_so scale place unit (shows.Field name) sets h = h
    plain_so scale place unit (shows.Written c) sets h =
        let set = list_made (cells_name stem scale place) (unit_name stem unit) (ranked.cell_formula stem (shows.Written c) ∷ []) in
        All-cons P set sets (each set (and_others (ranked.cell_formula stem (shows.Written c)) [] (cell_leaves (shows.Written c)) refl)) h
    plain_so scale place unit (shows.Computed e) sets h =
        let set = list_made (cells_name stem scale place) (unit_name stem unit) (ranked.cell_formula stem (shows.Computed e) ∷ []) in
        All-cons P set sets (each set (and_others (ranked.cell_formula stem (shows.Computed e)) [] (cell_leaves (shows.Computed e)) refl)) h

    plains_so : (scale : ℕ) (columns : List (ℕ × Column)) → Every P (filter_map (list_if_wanted stem scale) columns)
    plains_so scale [] = All-nil P
    plains_so scale (column ∷ columns) =
        plain_so scale column.0 column.1.unit column.1.cell (filter_map (list_if_wanted stem scale) columns) (plains_so scale columns)

  number_leaves : (scale : ℕ) (field : ℕ × List ℕ) → leaves (ranked.number_found stem scale field) ≡ true
  number_leaves scale field = one_column (key_column stem field.0) (outside.keys field.0)

  keys_leave : (scale : ℕ) (facets : List (List ℕ)) (b : Bool) → All (cond b (ranked.steps_to_key stem scale (ranked.told_by stem facets)) [])
  keys_leave scale facets true =
      let fields = ranked.told_by stem facets in
      let last = ranked.formula (key_column stem (length fields)) (ranked.numbers_text stem fields) in
      all_both leaves (map (ranked.number_found stem scale) (enumerate_from 0 fields)) (last ∷ [])
      (all_each leaves (ranked.number_found stem scale) (number_leaves scale) (enumerate_from 0 fields))
      (and_others last [] (one_column (key_column stem (length fields)) (outside.keys (length fields))) refl)
  keys_leave scale facets false = refl

  rank_leaves : (e : Expr) → leaves (ranked.rank_formula stem e) ≡ true
  rank_leaves e = one_column (rank_column stem) outside.rank

  -- behind the cell of a column in an order by rows
  steps_leave : (scale : ℕ) (facets : List (List ℕ)) (by : RowsOrder) → All (ranked.column_steps stem scale facets by)
  steps_leave scale facets by =
      and_others (ranked.rank_formula stem (over_none by.op)) (ranked.key_steps stem scale facets) (rank_leaves (over_none by.op))
      (keys_leave scale facets (ranked.are_some facets))

  -- what holds of the rows by which cells stand too holds of all lists of a scale
  module _ (P : DataSet → Type 0) (each : (set : DataSet) → set_leaves names set ≡ true → P set) (grids : List GridPlan) (scale : ℕ) (holder : Option ℕ)
    where
      abbrev rows_of : RowsOrder → List Column → DataSet
      rows_of by columns = ranked.ranks_list stem scale (names_held grids by.unit holder) (names_of_columns stem scale columns) by

      order_so : (order : CellOrder) (columns : List Column) → ((by : RowsOrder) → tells grids holder names (stands.ByRows by) ≡ tells grids holder names order
          → P (rows_of by columns)) → Every P (lists_in_order stem grids scale holder order columns)
      order_so stands.First columns rows = plains_so P each scale (enumerate_from 0 columns)
      order_so stands.Up columns rows = plains_so P each scale (enumerate_from 0 columns)
      order_so stands.Down columns rows = plains_so P each scale (enumerate_from 0 columns)
      order_so (stands.Listed cells) columns rows =
          let e = listed_rank (expr.Field (cell_column stem)) cells in
          columns_so P each scale (ranked.rank_formula stem e ∷ []) (and_others (ranked.rank_formula stem e) [] (rank_leaves e) refl) (enumerate_from 0 columns)
      order_so (stands.ByRows by) columns rows =
          let facets = names_held grids by.unit holder in
          All-append P (column_lists stem scale facets by columns) (rows_of by columns ∷ [])
          (columns_so P each scale (ranked.column_steps stem scale facets by) (steps_leave scale facets by) (enumerate_from 0 columns))
          (All-cons P (rows_of by columns) [] (rows by refl) (All-nil P))

      domain_so : (d : DomainPlan) → ((by : RowsOrder) (columns : List Column) → tells grids holder names (stands.ByRows by) ≡ domain_tells grids holder names d
          → P (rows_of by columns)) → Every P (lists_of_domain stem grids scale holder d)
      domain_so (plan.Cells cells) rows = All-nil P
      domain_so (plan.Columns of) rows = order_so of.order of.columns (λ by e. rows by of.columns e)

  -- ---- those rows

  abbrev adds : Transform → Bool
  adds = adds_none names

  leaves_add : (t : Transform) → leaves t ≡ true → adds t ≡ true
  leaves_add (vega.Filter f) h = refl
  leaves_add (vega.Formula f) h = h
  leaves_add (vega.Extent e) h = h
  leaves_add (vega.Bin b) h = h
  leaves_add (vega.TimeUnit t) h = h
  leaves_add (vega.Aggregate a) h = absurd (cc)
  leaves_add (vega.JoinAggregate a) h = h
  leaves_add (vega.Stack s) h = h
  leaves_add (vega.Window w) h = h
  leaves_add (vega.Lookup l) h = h
  leaves_add (vega.Fold f) h = h

  all_add : (ts : List Transform) → All ts → list_all adds ts ≡ true
  all_add [] h = refl
  all_add (t ∷ ts) h =
      let both = both_of (leaves t) (list_all leaves ts) h in ap₂ (λ a b. a && b) (leaves_add t both.0) (all_add ts both.1)

  lacks_add : (key : List ℕ) (scale : ℕ) (columns : List (ℕ × Column))
      → list_all adds (map (ranked.lacks_key stem key) (map (name_of_column stem scale) columns)) ≡ true
  lacks_add key scale [] = refl
  lacks_add key scale (column ∷ columns) =
      ap₂ (λ a b. a && b) (one_column (cells_name stem scale column.0) (outside.lists scale column.0)) (lacks_add key scale columns)

  among_more : (facets : List (List ℕ)) (last : List ℕ) (ns : List (List ℕ)) → list_all (is_one_of facets) ns ≡ true
      → list_all (is_one_of (facets ++ last ∷ [])) ns ≡ true
  among_more facets last [] h = refl
  among_more facets last (n ∷ ns) h =
      let both = both_of (is_one_of facets n) (list_all (is_one_of facets) ns) h in
      ap₂ (λ a b. a && b) (any_left (λ other. bytes_eq other n) facets (last ∷ []) both.0) (among_more facets last ns both.1)

  rank_adds : (facets : List (List ℕ)) (by : RowsOrder) (b : Bool) → list_all (is_one_of facets) names ≡ true
      → list_all adds (cond b (vega.Aggregate (ranked.given_in (ranked.told_by stem facets) by (rank_column stem)))
      (ranked.rank_formula stem (field_expr by.field)) ∷ []) ≡ true
  rank_adds facets by true told =
      ap (λ b. b && true) (ap₂ (λ a b. a && b) (among_more facets (cell_column stem) names told) (one_column (rank_column stem) outside.rank))
  rank_adds facets by false told = ap (λ b. b && true) (rank_leaves (field_expr by.field))

  ranks_add : (scale : ℕ) (facets : List (List ℕ)) (by : RowsOrder) (columns : List (ℕ × Column)) → list_all (is_one_of facets) names ≡ true
      → set_adds_none names (ranked.ranks_list stem scale facets (map (name_of_column stem scale) columns) by) ≡ true
  ranks_add scale facets by columns told =
      let name = ranked.key_name stem facets in
      let sets = map (name_of_column stem scale) columns in
      let keys = ranked.key_steps stem scale facets in
      let kept = ranked.kept_in stem name sets in
      ap₂ (λ a b. a && b) (cell_leaves (shows.Field by.cell))
      (all_both adds (keys ++ kept) (ranked.rank_step stem facets by ∷ [])
      (all_both adds keys kept (all_add keys (keys_leave scale facets (ranked.are_some facets)))
      (all_both adds (map (ranked.lacks_key stem name) sets) (vega.Filter (record { expr = ranked.not_all sets }) ∷ []) (lacks_add name scale columns) refl))
      (rank_adds facets by (counts by.op) told))

  -- ---- keys

  module _ (facet unit : ℕ) where
    key_leaves : (place : ℕ) (name : List ℕ) (order : CellOrder) → All (field_keys stem facet unit place name order)
    key_leaves place name stands.First =
        ap₂ (λ a b. a && b) (one_column (key_column stem place) (outside.keys place))
        (ap (λ a. a && true) (one_column (key_column stem place) (outside.keys place)))
    key_leaves place name stands.Up = refl
    key_leaves place name stands.Down = refl
    key_leaves place name (stands.Listed cells) = ap (λ a. a && true) (one_column (key_column stem place) (outside.keys place))
    key_leaves place name (stands.ByRows by) = ap (λ a. a && true) (one_column (key_column stem place) (outside.keys place))

    key_list_leaves : (fields : List FacetField) → set_leaves names (keys_list stem facet fields unit) ≡ true
    key_list_leaves fields =
        made_leaves (keys_name stem facet unit) (unit_name stem unit) (flat_map (steps_for stem facet unit) (placed fields))
        (all_lists leaves (steps_for stem facet unit) (λ field. key_leaves field.0 field.1.name field.1.order) (placed fields))

pub scale_lists_leave : ScaleListsLeave
scale_lists_leave stem names outside grids s =
    domain_so stem names outside (λ (set : DataSet). set.name ≢ ranks_name stem s.0 → set_leaves names set ≡ true) (λ set leaves other. leaves)
    grids s.0 s.1.holder s.1.domain (λ by columns e other. absurd (other refl))

all_pass : (q : DataSet → Bool) (sets : List DataSet) → Every (λ set. q set ≡ true) sets → list_all q sets ≡ true
all_pass q [] h = refl
all_pass q (set ∷ sets) h =
    ap₂ (λ a b. a && b) (All-head (λ s. q s ≡ true) set sets h) (all_pass q sets (All-tail (λ s. q s ≡ true) set sets h))

pub scale_lists_add_none : ScaleListsAddNone
scale_lists_add_none stem names outside grids s told =
    all_pass (set_adds_none names) (lists_of_scale stem grids s)
    (domain_so stem names outside (λ (set : DataSet). set_adds_none names set ≡ true) (λ set leaves. all_add stem names outside (transforms_of set) leaves)
    grids s.0 s.1.holder s.1.domain
    (λ by columns e. ranks_add stem names outside s.0 (names_held grids by.unit s.1.holder) by (enumerate_from 0 columns) (e ∙ told)))

-- ---- the fields of facets round a unit

pub all_among : (whole ns : List (List ℕ)) → ((n : List ℕ) → is_one_of ns n ≡ true → is_one_of whole n ≡ true) → list_all (is_one_of whole) ns ≡ true
all_among whole [] h = refl
all_among whole (n ∷ ns) h =
    ap₂ (λ a b. a && b) (h n (or_left (bytes_eq n n) (is_one_of ns n) ((bytes_eq-Decides n n).1 refl)))
    (all_among whole ns (λ m there. h m (or_right (bytes_eq n m) (is_one_of ns m) there)))

round_has : (unit holder : ℕ) (grids : List GridPlan) (place : ℕ) (grid : GridPlan) (n : List ℕ) → slice_get grids place ≡ Some grid
    → is_one_of (names_round unit holder grid) n ≡ true → is_one_of (names_to grids unit holder) n ≡ true
round_has unit holder [] place grid n at e = absurd (no_value grid at)
round_has unit holder (g ∷ grids) zero grid n at e =
    any_left (λ other. bytes_eq other n) (names_round unit holder g) (names_to grids unit holder)
    (subst (λ x. is_one_of (names_round unit holder x) n ≡ true) (sym (same_value g grid at)) e)
round_has unit holder (g ∷ grids) (suc place) grid n at e =
    any_right (λ other. bytes_eq other n) (names_round unit holder g) (names_to grids unit holder) (round_has unit holder grids place grid n at e)

pub fields_are_told : FieldsAreTold
fields_are_told grids place grid f holder unit at facet low among =
    let own : names_round unit holder grid ≡ names_of f
    = ap (λ o. option_map_or (names_if_round unit holder grid) o []) facet ∙ ap (λ b. cond b (field_names f) []) (ap₂ (λ a b. a && b) low among) in
    all_among (names_held grids unit (Some holder)) (names_of f)
    (λ n there. round_has unit holder grids place grid n at (subst (λ l. is_one_of l n ≡ true) (sym own) there))

pub key_lists_leave : KeyListsLeave
key_lists_leave stem names outside facet fields unit = key_list_leaves stem names outside facet unit fields

pub drag_lists_leave : DragListsLeave
drag_lists_leave stem names selections s =
    all_either (set_leaves names) (is_copied selections s.0) (map (outer_list stem s.0) (enumerate_from 0 (references_of stem s.0 s.1.domain))) []
    (all_each (set_leaves names) (outer_list stem s.0) (λ r. refl) (enumerate_from 0 (references_of stem s.0 s.1.domain))) refl
