-- Of the data sets of a compiled specification only the one without rows asks for an extent.
use Rattle.std.proofs.Common.{filter, length, ◌≡◌, ℕ, Bool, true, false, cond, Option, Some, None, List, [], ◌∷◌, ◌++◌, map, flat_map, unwrap_or, refl, ap, ap₂}
use Rattle.std.proofs.Common.{◌∙◌}
use Rattle.std.specs.Prelude.{filter_map}
use Rattle.std.specs.List.{cons_option, enumerate_from}
use Rattle.std.specs.Option.{option_map_or}
use Rattle.std.proofs.lemmas.Grind.{flat_map-append}
use Rattle.vega_spec.specs.declared.data.DataSet.{DataSet}
use Rattle.vega_spec.specs.declared.transforms.Extent.{Extent}
use Rattle.vega_spec.specs.declared.transforms.Transform.{Transform}
use Rattle.vega_lists.specs.Transforms.{transforms_of}
use Rattle.vega_signals.specs.Extents.{extent_asked}
use Rattle.vl_spec.specs.declared.sources.SourceOf.{SourceOf}
use Rattle.plan_kit.specs.declared.cells.CellOf.{CellOf}
use Rattle.plan_kit.specs.declared.cells.CellOf.TheVariants as shows
use Rattle.plan_kit.specs.declared.plans.UnitPlan.{UnitPlan}
use Rattle.plan_kit.specs.declared.steps.Step.{Step}
use Rattle.plan_kit.specs.declared.steps.Step.TheVariants as step
use Rattle.plan_kit.specs.declared.columns.Column.{Column}
use Rattle.plan_kit.specs.declared.domains.DomainPlan.{DomainPlan}
use Rattle.plan_kit.specs.declared.domains.DomainPlan.TheVariants as plan
use Rattle.plan_kit.specs.declared.grids.FacetField.{FacetField}
use Rattle.plan_kit.specs.declared.grids.FacetPlan.{FacetPlan}
use Rattle.plan_kit.specs.declared.grids.GridPlan.{GridPlan}
use Rattle.plan_kit.specs.declared.orders.CellOrder.{CellOrder}
use Rattle.plan_kit.specs.declared.orders.CellOrder.TheVariants as stands
use Rattle.plan_kit.specs.declared.orders.RowsOrder.{RowsOrder}
use Rattle.plan_kit.specs.declared.plan.Plan.{Plan}
use Rattle.plan_kit.specs.declared.scales.ScalePlan.{ScalePlan}
use Rattle.plan_kit.specs.declared.selections.SelectionPlan.{SelectionPlan}
use Rattle.vega_assemble.specs.Cells.{field_expr}
use Rattle.vega_assemble.specs.Assembled.{unit_list, begun_list, begun_lists, lists_made, is_begun}
use Rattle.vega_assemble.specs.Drags.{is_copied, references_of, outer_list, outer_lists, all_outer}
use Rattle.vega_assemble.specs.Keys.{field_keys, found_somewhere, given_by, has_keys, keys_list, lists_of_facet, lists_of_grid, lists_with_keys, looked_twice}
use Rattle.vega_assemble.specs.Keys.{orders_for, orders_if, orders_steps, placed, steps_for}
use Rattle.vega_assemble.specs.Lists.{column_list, column_lists, names_of_columns, plain_list, list_if_wanted, plain_lists, ranked_lists, lists_in_order}
use Rattle.vega_assemble.specs.Lists.{lists_of_domain, lists_of_scale, beside_order, beside_domain, lists_for_scale, names_held}
use Rattle.vega_assemble.specs.Names.{unit_name, begun_name, cells_name, keys_name, orders_name, cell_column, rank_column, key_column}
use Rattle.vega_assemble.specs.Ranked as ranked
use Rattle.vega_assemble.specs.Ranks.{counts, listed_rank}
use Rattle.expr_syntax.specs.declared.expr.Expr.TheVariants as expr
use Rattle.vega_spec.specs.declared.transforms.Transform.TheVariants as vega
use Rattle.vega_assemble.specs.Sources.{if_any, list_made, source_written}
use Rattle.vega_assemble.specs.Steps.{step_written, steps_written}

-- ---- lists of what elements give

module _ {X A : Type 0} (f : X → Option A) where
  cons_more : (o : Option A) (xs ys : List A) → cons_option o (xs ++ ys) ≡ cons_option o xs ++ ys
  cons_more None xs ys = refl
  cons_more (Some x) xs ys = refl

  given_by_both : (xs ys : List X) → filter_map f (xs ++ ys) ≡ filter_map f xs ++ filter_map f ys
  given_by_both [] ys = refl
  given_by_both (x ∷ xs) ys = ap (cons_option (f x)) (given_by_both xs ys) ∙ cons_more (f x) (filter_map f xs) (filter_map f ys)

  none_of_both : (xs ys : List X) → filter_map f xs ≡ [] → filter_map f ys ≡ [] → filter_map f (xs ++ ys) ≡ []
  none_of_both xs ys a b = given_by_both xs ys ∙ ap₂ (λ p q. p ++ q) a b

module _ {X Y A : Type 0} (f : X → Option A) where
  none_of_each : (g : Y → X) → ((y : Y) → f (g y) ≡ None) → (ys : List Y) → filter_map f (map g ys) ≡ []
  none_of_each g h [] = refl
  none_of_each g h (y ∷ ys) = ap₂ cons_option (h y) (none_of_each g h ys)

  none_of_lists : (g : Y → List X) → ((y : Y) → filter_map f (g y) ≡ []) → (ys : List Y) → filter_map f (flat_map g ys) ≡ []
  none_of_lists g h [] = refl
  none_of_lists g h (y ∷ ys) = none_of_both f (g y) (flat_map g ys) (h y) (none_of_lists g h ys)

module _ {X A : Type 0} (f : X → List A) where
  nothing_of_both : (xs ys : List X) → flat_map f xs ≡ [] → flat_map f ys ≡ [] → flat_map f (xs ++ ys) ≡ []
  nothing_of_both xs ys a b = flat_map-append f xs ys ∙ ap₂ (λ p q. p ++ q) a b

  nothing_of_either : (b : Bool) (xs ys : List X) → flat_map f xs ≡ [] → flat_map f ys ≡ [] → flat_map f (cond b xs ys) ≡ []
  nothing_of_either true xs ys h k = h
  nothing_of_either false xs ys h k = k

  chosen_more : (o : Option X) (xs : List X) → option_map_or f o [] ≡ [] → flat_map f xs ≡ [] → flat_map f (cons_option o xs) ≡ []
  chosen_more None xs h k = k
  chosen_more (Some x) xs h k = ap₂ (λ p q. p ++ q) h k

module _ {X Y A : Type 0} (f : X → List A) where
  nothing_of_each : (g : Y → X) → ((y : Y) → f (g y) ≡ []) → (ys : List Y) → flat_map f (map g ys) ≡ []
  nothing_of_each g h [] = refl
  nothing_of_each g h (y ∷ ys) = ap₂ (λ p q. p ++ q) (h y) (nothing_of_each g h ys)

  nothing_of_lists : (g : Y → List X) → ((y : Y) → flat_map f (g y) ≡ []) → (ys : List Y) → flat_map f (flat_map g ys) ≡ []
  nothing_of_lists g h [] = refl
  nothing_of_lists g h (y ∷ ys) = nothing_of_both f (g y) (flat_map g ys) (h y) (nothing_of_lists g h ys)

  nothing_of_chosen : (g : Y → Option X) → ((y : Y) → option_map_or f (g y) [] ≡ []) → (ys : List Y) → flat_map f (filter_map g ys) ≡ []
  nothing_of_chosen g h [] = refl
  nothing_of_chosen g h (y ∷ ys) = chosen_more f (g y) (filter_map g ys) (h y) (nothing_of_chosen g h ys)

-- ---- extents

-- the extents for which transforms ask, a data set, and data sets
abbrev pub asked : List Transform → List Extent
asked ts = filter_map extent_asked ts

abbrev pub asked_by : DataSet → List Extent
asked_by set = asked (transforms_of set)

abbrev pub asked_by_all : List DataSet → List Extent
asked_by_all sets = flat_map asked_by sets

steps_back : (ts : List Transform) → unwrap_or (if_any ts) [] ≡ ts
steps_back [] = refl
steps_back (t ∷ ts) = refl

made_asks : (name source : List ℕ) (ts : List Transform) → asked ts ≡ [] → asked_by (list_made name source ts) ≡ []
made_asks name source ts e = ap asked (steps_back ts) ∙ e

module _ (stem : List ℕ) where
  step_asks : (s : Step) → extent_asked (step_written stem s) ≡ None
  step_asks (step.Filter e) = refl
  step_asks (step.Calculate e name) = refl
  step_asks (step.Bin b) = refl
  step_asks (step.Unit t) = refl
  step_asks (step.Group g) = refl
  step_asks (step.Join g) = refl
  step_asks (step.Stack s) = refl
  step_asks (step.Window w) = refl
  step_asks (step.Lookup source l) = refl
  step_asks (step.Fold f) = refl

  steps_ask : (steps : List Step) → asked (steps_written stem steps) ≡ []
  steps_ask steps = none_of_each extent_asked (step_written stem) step_asks steps

  unit_asks : (u : UnitPlan) → asked_by (unit_list stem u) ≡ []
  unit_asks u = made_asks (unit_name stem u.number) u.source (steps_written stem (u.before ++ u.after)) (steps_ask (u.before ++ u.after))

  begun_asks : (u : UnitPlan) → asked_by (begun_list stem u) ≡ []
  begun_asks u = made_asks (begun_name stem u.number) u.source (steps_written stem u.before) (steps_ask u.before)

  -- ---- lists of scales

  plain_asks : (scale place unit : ℕ) (c : CellOf) → option_map_or asked_by (plain_list stem scale place unit c) [] ≡ []
  plain_asks scale place unit (shows.Field name) = refl
  plain_asks scale place unit (shows.Written c) = refl
  plain_asks scale place unit (shows.Computed e) = refl

  plains_ask : (scale : ℕ) (columns : List Column) → asked_by_all (plain_lists stem scale columns) ≡ []
  plains_ask scale columns =
      nothing_of_chosen asked_by (list_if_wanted stem scale) (λ column. plain_asks scale column.0 column.1.unit column.1.cell) (enumerate_from 0 columns)

  column_asks : (scale : ℕ) (more : List Transform) → asked more ≡ [] → (column : ℕ × Column) → asked_by (column_list stem scale more column) ≡ []
  column_asks scale more e column =
      made_asks (cells_name stem scale column.0) (unit_name stem column.1.unit) (ranked.cell_formula stem column.1.cell ∷ more) e

  columns_ask : (scale : ℕ) (more : List Transform) → asked more ≡ [] → (columns : List Column)
      → asked_by_all (map (column_list stem scale more) (enumerate_from 0 columns)) ≡ []
  columns_ask scale more e columns = nothing_of_each asked_by (column_list stem scale more) (column_asks scale more e) (enumerate_from 0 columns)

  keys_ask : (scale : ℕ) (facets : List (List ℕ)) (b : Bool)
      → asked (cond b (ranked.steps_to_key stem scale (ranked.told_by stem facets)) []) ≡ []
  keys_ask scale facets true =
      none_of_both extent_asked (map (ranked.number_found stem scale) (enumerate_from 0 (ranked.told_by stem facets)))
      (ranked.formula (key_column stem (length (ranked.told_by stem facets))) (ranked.numbers_text stem (ranked.told_by stem facets)) ∷ [])
      (none_of_each extent_asked (ranked.number_found stem scale) (λ field. refl) (enumerate_from 0 (ranked.told_by stem facets))) refl
  keys_ask scale facets false = refl

  kept_ask : (key : List ℕ) (sets : List (List ℕ)) → asked (ranked.kept_in stem key sets) ≡ []
  kept_ask key sets =
      none_of_both extent_asked (map (ranked.lacks_key stem key) sets) (vega.Filter (record { expr = ranked.not_all sets }) ∷ [])
      (none_of_each extent_asked (ranked.lacks_key stem key) (λ set. refl) sets) refl

  rank_asks : (facets : List (List ℕ)) (by : RowsOrder) (b : Bool)
      → asked (cond b (vega.Aggregate (ranked.given_in (ranked.told_by stem facets) by (rank_column stem)))
      (ranked.rank_formula stem (field_expr by.field)) ∷ []) ≡ []
  rank_asks facets by true = refl
  rank_asks facets by false = refl

  ranks_ask : (scale : ℕ) (facets sets : List (List ℕ)) (by : RowsOrder) → asked_by (ranked.ranks_list stem scale facets sets by) ≡ []
  ranks_ask scale facets sets by =
      let name = ranked.key_name stem facets in
      none_of_both extent_asked (ranked.key_steps stem scale facets ++ ranked.kept_in stem name sets) (ranked.rank_step stem facets by ∷ [])
      (none_of_both extent_asked (ranked.key_steps stem scale facets) (ranked.kept_in stem name sets) (keys_ask scale facets (ranked.are_some facets))
      (kept_ask name sets)) (rank_asks facets by (counts by.op))

  rankeds_ask : (scale : ℕ) (facets : List (List ℕ)) (by : RowsOrder) (columns : List Column)
      → asked_by_all (ranked_lists stem scale facets by columns) ≡ []
  rankeds_ask scale facets by columns =
      nothing_of_both asked_by (column_lists stem scale facets by columns) (ranked.ranks_list stem scale facets (names_of_columns stem scale columns) by ∷ [])
      (columns_ask scale (ranked.column_steps stem scale facets by) (keys_ask scale facets (ranked.are_some facets)) columns)
      (ap (λ l. l ++ []) (ranks_ask scale facets (names_of_columns stem scale columns) by))

  module _ (grids : List GridPlan) (scale : ℕ) (holder : Option ℕ) where
    order_asks : (order : CellOrder) (columns : List Column) → asked_by_all (lists_in_order stem grids scale holder order columns) ≡ []
    order_asks stands.First columns = plains_ask scale columns
    order_asks stands.Up columns = plains_ask scale columns
    order_asks stands.Down columns = plains_ask scale columns
    order_asks (stands.Listed cells) columns =
        columns_ask scale (ranked.rank_formula stem (listed_rank (expr.Field (cell_column stem)) cells) ∷ []) refl columns
    order_asks (stands.ByRows by) columns = rankeds_ask scale (names_held grids by.unit holder) by columns

    domain_asks : (d : DomainPlan) → asked_by_all (lists_of_domain stem grids scale holder d) ≡ []
    domain_asks (plan.Cells cells) = refl
    domain_asks (plan.Columns of) = order_asks of.order of.columns

    codes_ask : (facets : List (List ℕ)) (by : RowsOrder) → asked_by_all (ranked.codes_lists stem scale facets by) ≡ []
    codes_ask facets by =
        nothing_of_either asked_by (ranked.are_some facets) (map (ranked.codes_list stem scale by) (enumerate_from 0 (ranked.told_by stem facets))) []
        (nothing_of_each asked_by (ranked.codes_list stem scale by) (λ field. refl) (enumerate_from 0 (ranked.told_by stem facets))) refl

    beside_asks : (order : CellOrder) → asked_by_all (beside_order stem grids scale holder order) ≡ []
    beside_asks stands.First = refl
    beside_asks stands.Up = refl
    beside_asks stands.Down = refl
    beside_asks (stands.Listed cells) = refl
    beside_asks (stands.ByRows by) = codes_ask (names_held grids by.unit holder) by

    beside_domain_asks : (d : DomainPlan) → asked_by_all (beside_domain stem grids scale holder d) ≡ []
    beside_domain_asks (plan.Cells cells) = refl
    beside_domain_asks (plan.Columns of) = beside_asks of.order

  scale_asks : (grids : List GridPlan) (s : ℕ × ScalePlan) → asked_by_all (lists_for_scale stem grids s) ≡ []
  scale_asks grids s =
      nothing_of_both asked_by (beside_domain stem grids s.0 s.1.holder s.1.domain) (lists_of_scale stem grids s)
      (beside_domain_asks grids s.0 s.1.holder s.1.domain) (domain_asks grids s.0 s.1.holder s.1.domain)

  -- ---- lists of facets

  module _ (facet : ℕ) where
    key_asks : (unit place : ℕ) (name : List ℕ) (order : CellOrder) → asked (field_keys stem facet unit place name order) ≡ []
    key_asks unit place name stands.First = refl
    key_asks unit place name stands.Up = refl
    key_asks unit place name stands.Down = refl
    key_asks unit place name (stands.Listed cells) = refl
    key_asks unit place name (stands.ByRows by) = refl

    keys_list_asks : (fields : List FacetField) (unit : ℕ) → asked_by (keys_list stem facet fields unit) ≡ []
    keys_list_asks fields unit =
        made_asks (keys_name stem facet unit) (unit_name stem unit) (flat_map (steps_for stem facet unit) (placed fields))
        (none_of_lists extent_asked (steps_for stem facet unit) (λ field. key_asks unit field.0 field.1.name field.1.order) (placed fields))

    order_list_asks : (units : List ℕ) (place : ℕ) (name : List ℕ) (order : CellOrder) → asked_by_all (orders_if stem facet units place name order) ≡ []
    order_list_asks units place name stands.First = refl
    order_list_asks units place name stands.Up = refl
    order_list_asks units place name stands.Down = refl
    order_list_asks units place name (stands.Listed cells) = refl
    order_list_asks units place name (stands.ByRows by) =
        ap (λ l. l ++ []) (made_asks (orders_name stem facet place) (begun_name stem by.unit) (orders_steps stem facet units name by)
        (none_of_both extent_asked (flat_map (looked_twice stem facet name by.cell) units)
        (vega.Filter (record { expr = found_somewhere stem facet units }) ∷ vega.Aggregate (given_by stem by) ∷ [])
        (none_of_lists extent_asked (looked_twice stem facet name by.cell) (λ unit. refl) units) refl))

    with_keys_ask : (fields : List FacetField) (units : List ℕ) → asked_by_all (lists_with_keys stem facet fields units) ≡ []
    with_keys_ask fields units =
        nothing_of_both asked_by (flat_map (orders_for stem facet units) (placed fields)) (map (keys_list stem facet fields) units)
        (nothing_of_lists asked_by (orders_for stem facet units) (λ field. order_list_asks units field.0 field.1.name field.1.order) (placed fields))
        (nothing_of_each asked_by (keys_list stem facet fields) (keys_list_asks fields) units)

    facet_asks : (f : FacetPlan) → asked_by_all (lists_of_facet stem facet f) ≡ []
    facet_asks f = nothing_of_either asked_by (has_keys f.fields) (lists_with_keys stem facet f.fields f.units) [] (with_keys_ask f.fields f.units) refl

    if_facet_asks : (f : Option FacetPlan) → asked_by_all (option_map_or (lists_of_facet stem facet) f []) ≡ []
    if_facet_asks None = refl
    if_facet_asks (Some f) = facet_asks f

  grid_asks : (grid : GridPlan) → asked_by_all (lists_of_grid stem grid) ≡ []
  grid_asks grid = if_facet_asks grid.number grid.facet

  -- ---- lists of drags

  outer_asks : (selections : List SelectionPlan) (s : ℕ × ScalePlan) → asked_by_all (outer_lists stem selections s) ≡ []
  outer_asks selections s =
      nothing_of_either asked_by (is_copied selections s.0)
      (map (outer_list stem s.0) (enumerate_from 0 (references_of stem s.0 s.1.domain))) []
      (nothing_of_each asked_by (outer_list stem s.0) (λ r. refl) (enumerate_from 0 (references_of stem s.0 s.1.domain))) refl

  -- ---- all of them

  pub lists_ask : (p : Plan) → asked_by_all (lists_made stem p) ≡ []
  lists_ask p =
      let units = map (unit_list stem) p.units in
      let begun = begun_lists stem p in
      let scales = flat_map (lists_for_scale stem p.grids) (enumerate_from 0 p.scales) in
      let grids = flat_map (lists_of_grid stem) p.grids in
      let outer = all_outer stem p.selections p.scales in
      nothing_of_both asked_by (units ++ begun ++ scales ++ grids) outer
      (nothing_of_both asked_by (units ++ begun ++ scales) grids
      (nothing_of_both asked_by (units ++ begun) scales
      (nothing_of_both asked_by units begun (nothing_of_each asked_by (unit_list stem) unit_asks p.units)
      (nothing_of_each asked_by (begun_list stem) begun_asks (filter (is_begun p) p.units)))
      (nothing_of_lists asked_by (lists_for_scale stem p.grids) (scale_asks p.grids) (enumerate_from 0 p.scales)))
      (nothing_of_lists asked_by (lists_of_grid stem) grid_asks p.grids))
      (nothing_of_lists asked_by (outer_lists stem p.selections) (outer_asks p.selections) (enumerate_from 0 p.scales))

  pub sources_ask : (sources : List SourceOf) → asked_by_all (map source_written sources) ≡ []
  sources_ask sources = nothing_of_each asked_by source_written (λ s. refl) sources
