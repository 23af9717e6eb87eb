-- The names that a specification mentions: of sources and parameters, and of the fields, parameters and selections that its plan reads or makes.
use Rattle.std.specs.Prelude.{ℕ, Option, List, [], ◌∷◌, ◌++◌, map, flat_map}
use Rattle.std.specs.Option.{option_map_or, option_to_list}
use Rattle.expr_syntax.specs.declared.expr.Expr.{Expr, Expr-F, fold-Expr}
use Rattle.expr_syntax.specs.declared.expr.Expr.TheOpen as form
use Rattle.plain_rows.specs.declared.transforms.GroupOf.{GroupOf}
use Rattle.plain_rows.specs.declared.transforms.LookupOf.{LookupOf}
use Rattle.plain_rows.specs.declared.transforms.OpOf.{OpOf}
use Rattle.plain_rows.specs.declared.transforms.SortBy.{SortBy}
use Rattle.plain_rows.specs.declared.transforms.StackOf.{StackOf}
use Rattle.plain_rows.specs.declared.transforms.WindowOf.{WindowOf}
use Rattle.vl_spec.specs.declared.params.ParamKind.{ParamKind}
use Rattle.vl_spec.specs.declared.params.ParamKind.TheVariants as kind
use Rattle.vl_spec.specs.declared.params.ParamOf.{ParamOf}
use Rattle.vl_spec.specs.declared.sources.SourceOf.{SourceOf}
use Rattle.vl_spec.specs.declared.spec.VlSpec.{VlSpec}
use Rattle.selection_events.specs.declared.selection.DragOf.{DragOf}
use Rattle.plan_kit.specs.declared.cells.CellOf.{CellOf}
use Rattle.plan_kit.specs.declared.cells.CellOf.TheVariants as shows
use Rattle.plan_kit.specs.declared.marks.Along.{Along}
use Rattle.plan_kit.specs.declared.marks.Look.{Look}
use Rattle.plan_kit.specs.declared.marks.Look.TheVariants as look
use Rattle.plan_kit.specs.declared.marks.LookWay.{LookWay}
use Rattle.plan_kit.specs.declared.marks.MarkPlan.{MarkPlan}
use Rattle.plan_kit.specs.declared.marks.Spot.{Spot}
use Rattle.plan_kit.specs.declared.marks.Spot.TheVariants as spot
use Rattle.plan_kit.specs.declared.marks.SpotWay.{SpotWay}
use Rattle.plan_kit.specs.declared.marks.WordsWay.{WordsWay}
use Rattle.plan_kit.specs.declared.plans.UnitPlan.{UnitPlan}
use Rattle.plan_kit.specs.declared.steps.Step.{Step}
use Rattle.plan_kit.specs.declared.steps.Step.TheVariants as step
use Rattle.plan_kit.specs.declared.columns.Column.{Column}
use Rattle.plan_kit.specs.declared.domains.DomainPlan.{DomainPlan}
use Rattle.plan_kit.specs.declared.domains.DomainPlan.TheVariants as plan
use Rattle.plan_kit.specs.declared.grids.FacetField.{FacetField}
use Rattle.plan_kit.specs.declared.grids.FacetPlan.{FacetPlan}
use Rattle.plan_kit.specs.declared.grids.GridPlan.{GridPlan}
use Rattle.plan_kit.specs.declared.orders.CellOrder.{CellOrder}
use Rattle.plan_kit.specs.declared.orders.CellOrder.TheVariants as stands
use Rattle.plan_kit.specs.declared.orders.RowsOrder.{RowsOrder}
use Rattle.plan_kit.specs.declared.plan.Plan.{Plan}
use Rattle.plan_kit.specs.declared.scales.ScalePlan.{ScalePlan}
use Rattle.plan_kit.specs.declared.selections.SelectionPlan.{SelectionPlan}

-- names
abbrev pub Names : Type 0
Names = List (List ℕ)

-- ---- expressions and cells

-- the names in a form, from those in its parts
abbrev pub names_here : Expr-F Names → Names
names_here form.Null = []
names_here (form.Flag b) = []
names_here (form.Number n) = []
names_here (form.Text t) = []
names_here (form.Field name) = name ∷ []
names_here (form.Param name) = name ∷ []
names_here (form.Member name field) = name ∷ []
names_here (form.Not a) = a
names_here (form.Minus a) = a
names_here (form.Plus a) = a
names_here (form.Binary op a b) = a ++ b
names_here (form.Choose test first second) = test ++ first ++ second
names_here (form.Pair a b) = a ++ b
names_here (form.Call code args) = flat_map (λ arg. arg) args
names_here (form.Selected selection) = selection ∷ []
names_here (form.Stored selection) = selection ∷ []
names_here (form.DomainLength scale) = []

abbrev pub in_expr : Expr → Names
in_expr = fold-Expr Names names_here

abbrev pub in_test : Option Expr → Names
in_test e = option_map_or in_expr e []

abbrev pub in_cell : CellOf → Names
in_cell (shows.Field name) = name ∷ []
in_cell (shows.Written c) = []
in_cell (shows.Computed e) = in_expr e

abbrev pub if_named : Option (List ℕ) → Names
if_named name = option_to_list name

-- ---- steps

abbrev pub in_op : OpOf → Names
in_op o = if_named o.field ++ o.out ∷ []

abbrev pub in_sort : List SortBy → Names
in_sort by = map (λ (s : SortBy). s.field) by

abbrev pub in_group : GroupOf → Names
in_group g = g.groupby ++ flat_map in_op g.ops

abbrev pub in_stack : StackOf → Names
in_stack s = s.field ∷ s.groupby ++ in_sort s.sort ++ s.out ∷ s.out_end ∷ []

abbrev pub in_window : WindowOf → Names
in_window w = flat_map in_op w.ops ++ w.groupby ++ in_sort w.sort

abbrev pub in_lookup : LookupOf → Names
in_lookup l = l.key_here ∷ l.key_there ∷ l.fields ++ l.outs

abbrev pub in_step : Step → Names
in_step (step.Filter e) = in_expr e
in_step (step.Calculate e name) = name ∷ in_expr e
in_step (step.Bin b) = b.field ∷ b.out ∷ b.out_end ∷ []
in_step (step.Unit t) = t.field ∷ t.out ∷ t.out_end ∷ []
in_step (step.Group g) = in_group g
in_step (step.Join g) = in_group g
in_step (step.Stack s) = in_stack s
in_step (step.Window w) = in_window w
in_step (step.Lookup source l) = source ∷ in_lookup l
in_step (step.Fold f) = f.out_key ∷ f.out_value ∷ f.fields

-- ---- marks

abbrev pub in_spot : Spot → Names
in_spot (spot.Pixels c) = []
in_spot (spot.Place s c) = in_cell c
in_spot (spot.Centre s c) = in_cell c
in_spot (spot.EndOfBand s c) = in_cell c
in_spot (spot.Base s) = []
in_spot spot.Middle = []
in_spot spot.Foot = []
in_spot spot.Nowhere = []

abbrev pub in_spot_way : SpotWay → Names
in_spot_way way = in_test way.test ++ in_spot way.gives

abbrev pub in_along : Along → Names
in_along along = flat_map in_spot_way along.near ++ flat_map in_spot_way along.far

abbrev pub in_look : Look → Names
in_look (look.Written c) = []
in_look (look.OnScale s c) = in_cell c

abbrev pub in_look_way : LookWay → Names
in_look_way way = in_test way.test ++ in_look way.gives

abbrev pub in_words_way : WordsWay → Names
in_words_way way = in_test way.test ++ in_cell way.gives.cell

abbrev pub in_ends : MarkPlan → Names
in_ends m = in_along m.across ++ in_along m.down

abbrev pub in_looks : MarkPlan → Names
in_looks m = flat_map in_look_way m.color ++ flat_map in_look_way m.opacity ++ flat_map in_look_way m.size ++ flat_map in_look_way m.sign

abbrev pub in_mark : MarkPlan → Names
in_mark m = in_ends m ++ in_looks m ++ flat_map in_words_way m.words ++ if_named m.order ++ m.series

abbrev pub in_unit : UnitPlan → Names
in_unit u = u.source ∷ flat_map in_step u.before ++ flat_map in_step u.after ++ in_mark u.mark

-- ---- scales, facets and selections

abbrev pub in_rows_order : RowsOrder → Names
in_rows_order by = by.cell ∷ if_named by.field

abbrev pub in_order : CellOrder → Names
in_order stands.First = []
in_order stands.Up = []
in_order stands.Down = []
in_order (stands.Listed cells) = []
in_order (stands.ByRows by) = in_rows_order by

abbrev pub in_column : Column → Names
in_column column = in_cell column.cell

abbrev pub in_domain : DomainPlan → Names
in_domain (plan.Cells cells) = []
in_domain (plan.Columns of) = flat_map in_column of.columns ++ in_order of.order

abbrev pub in_scale : ScalePlan → Names
in_scale s = in_domain s.domain ++ in_test s.raw

abbrev pub in_field : FacetField → Names
in_field field = field.name ∷ in_order field.order

abbrev pub in_facet : FacetPlan → Names
in_facet f = flat_map in_field f.fields

abbrev pub in_grid : GridPlan → Names
in_grid grid = option_map_or in_facet grid.facet []

abbrev pub in_kept : Option Names → Names
in_kept fields = option_map_or (λ names. names) fields []

abbrev pub in_drag : DragOf → Names
in_drag d = d.field ∷ []

abbrev pub in_selection : SelectionPlan → Names
in_selection s = s.kept.name ∷ in_kept s.kept.click ++ in_kept s.kept.toggle ++ flat_map in_drag s.kept.drag

-- ---- the whole

abbrev pub in_kind : ParamKind → Names
in_kind (kind.Value c) = []
in_kind (kind.Expr e) = in_expr e
in_kind (kind.Select s) = []

abbrev pub in_param : ParamOf → Names
in_param p = p.name ∷ in_kind p.kind

abbrev pub in_plan : Plan → Names
in_plan p = flat_map in_unit p.units ++ flat_map in_scale p.scales ++ flat_map in_grid p.grids ++ flat_map in_selection p.selections

-- the names that a specification with this plan mentions
abbrev pub mentioned : VlSpec → Plan → Names
mentioned s p = map (λ (source : SourceOf). source.name) s.sources ++ flat_map in_param s.params ++ in_plan p
