-- The rules at work: what comes of bars of two names, of circles beside no y, and of a facet with a brush beside a bar that it filters.
use Rattle.std.specs.Prelude.{◌≡◌, refl, ℕ, ◌*◌, ℤ, pos, neg_ℤ, Bool, true, false, Some, None, List, [], ◌∷◌, codes}
use Rattle.std.specs.Fmt.{digits}
use Rattle.fixed_num.specs.Number.{million}
use Rattle.cell_value.specs.declared.cell.Cell.TheVariants as cell
use Rattle.expr_syntax.specs.declared.expr.BinOp.TheVariants.{Or, Like, Mul}
use Rattle.expr_syntax.specs.declared.expr.Expr.{Expr}
use Rattle.expr_syntax.specs.declared.expr.Expr.TheVariants as expr
use Rattle.plain_rows.specs.declared.transforms.GroupOf.{GroupOf}
use Rattle.vega_spec.specs.declared.domains.Domain.TheVariants as domain
use Rattle.vega_spec.specs.declared.domains.DomainOrder.TheVariants as order
use Rattle.vega_spec.specs.declared.guides.Edge.TheVariants.{LastRow}
use Rattle.vega_spec.specs.declared.guides.Side.TheVariants as side
use Rattle.vega_spec.specs.declared.marks.Header.TheVariants as header
use Rattle.vega_spec.specs.declared.orders.Order.TheVariants.{Ascending}
use Rattle.vega_spec.specs.declared.orders.Orders.TheVariants as orders
use Rattle.vega_spec.specs.declared.orders.Texts.TheVariants as texts
use Rattle.vega_spec.specs.declared.scales.Range.TheVariants as range
use Rattle.vega_spec.specs.declared.spec.Size.TheVariants as size
use Rattle.vega_spec.specs.declared.transforms.Transform.TheVariants as vega
use Rattle.vl_normalize.specs.declared.codes.TheConstants.{X, Y}
use Rattle.scale_infer.specs.declared.codes.TheConstants.{LINEAR, BAND, POINT}
use Rattle.guide_kit.specs.declared.axes.AxisOf.{AxisOf}
use Rattle.guide_kit.specs.declared.frames.Side.TheVariants as at
use Rattle.plan_kit.specs.declared.cells.CellOf.TheVariants as shows
use Rattle.plan_kit.specs.declared.marks.Spot.{Spot}
use Rattle.plan_kit.specs.declared.marks.Spot.TheVariants as spot
use Rattle.plan_kit.specs.declared.marks.SpotWay.{SpotWay}
use Rattle.plan_kit.specs.declared.steps.Step.TheVariants as step
use Rattle.plan_kit.specs.declared.columns.Column.{Column}
use Rattle.plan_kit.specs.declared.domains.DomainPlan.{DomainPlan}
use Rattle.plan_kit.specs.declared.domains.DomainPlan.TheVariants as plan
use Rattle.plan_kit.specs.declared.grids.FacetPlan.{FacetPlan}
use Rattle.plan_kit.specs.declared.grids.GridColumns.TheVariants as columns
use Rattle.plan_kit.specs.declared.grids.GridPlan.{GridPlan}
use Rattle.plan_kit.specs.declared.orders.CellOrder.TheVariants as stands
use Rattle.plan_kit.specs.declared.ranges.RangePlan.TheVariants as given
use Rattle.plan_kit.specs.declared.scales.ScalePlan.{ScalePlan}
use Rattle.plan_kit.specs.declared.sizes.SizePlan.TheVariants as sized
use Rattle.vega_assemble.specs.Channels.{spot_way, bare}
use Rattle.vega_assemble.specs.Facets.{facet_over, parts_by}
use Rattle.vega_assemble.specs.Guides.{axis_written}
use Rattle.vega_assemble.specs.Keys.{sort_of}
use Rattle.vega_assemble.specs.Names.{unit_name}
use Rattle.vega_assemble.specs.Scales.{scale_written}
use Rattle.vega_assemble.specs.Sizes.{size_written}
use Rattle.vega_assemble.specs.Sources.{list_made}
use Rattle.vega_assemble.specs.Steps.{steps_written}

-- so many pixels
abbrev pixels : ℕ → ℤ
pixels n = pos (n * million)

-- a scale over a domain, with these paddings
abbrev a_scale : ℕ → ℕ → DomainPlan → Bool → ℤ → ℤ → ScalePlan
a_scale channel kind over flags inner outer = record {
  channel = channel;
  units = 0 ∷ [];
  kind = kind;
  is_time = false;
  holder = None;
  domain = over;
  raw = None;
  range = given.Across;
  reverse = false;
  zero = flags;
  nice = flags;
  inner = inner;
  outer = outer;
  legend = None;
  is_alone = false;
}

-- the cells of a field of the unit 0
abbrev of_field : List ℕ → DomainPlan
of_field name = plan.Columns record { columns = record { unit = 0; cell = shows.Field name } ∷ []; order = stands.Up }

-- ---- bars of two names

abbrev bars : List ScalePlan
bars = a_scale X BAND (of_field (codes "a")) false (pos 100000) (pos 50000) ∷ a_scale Y LINEAR (of_field (codes "b")) true (pos 0) (pos 0) ∷ []

the_bands : scale_written [] bars (0, a_scale X BAND (of_field (codes "a")) false (pos 100000) (pos 50000)) ≡ record {
  name = codes "x_0";
  type_ = BAND;
  domain = domain.Fields record { fields = record { data_ = codes "unit_0"; field = codes "a" } ∷ []; sort = Some order.True };
  domain_raw = None;
  range = range.Width;
  zero = None;
  nice = None;
  reverse = None;
  padding = None;
  padding_inner = Some (pos 100000);
  padding_outer = Some (pos 50000);
}
unfolding digits
the_bands = refl

the_amounts : scale_written [] bars (1, a_scale Y LINEAR (of_field (codes "b")) true (pos 0) (pos 0)) ≡ record {
  name = codes "y_1";
  type_ = LINEAR;
  domain = domain.Fields record { fields = record { data_ = codes "unit_0"; field = codes "b" } ∷ []; sort = None };
  domain_raw = None;
  range = range.Height;
  zero = Some true;
  nice = Some true;
  reverse = None;
  padding = None;
  padding_inner = None;
  padding_outer = None;
}
unfolding digits
the_amounts = refl

-- a bar goes over its band, and from its amount to the base
abbrev always : Spot → SpotWay
always s = record { test = None; gives = s; offset = None }

the_ends_of_a_bar : (spot_way [] bars X (always (spot.Place 0 (shows.Field (codes "a"))))
    ≡ record bare { scale = Some (codes "x_0"); field = Some (codes "a") })
    × (spot_way [] bars X (always (spot.EndOfBand 0 (shows.Field (codes "a"))))
    ≡ record bare { scale = Some (codes "x_0"); field = Some (codes "a"); band = Some (pos million) })
    × (spot_way [] bars Y (always (spot.Place 1 (shows.Field (codes "b")))) ≡ record bare { scale = Some (codes "y_1"); field = Some (codes "b") })
    × (spot_way [] bars Y (always (spot.Base 1)) ≡ record bare { scale = Some (codes "y_1"); value = Some cell.Null })
unfolding digits
the_ends_of_a_bar = (refl, refl, refl, refl)

-- the axis below, whose labels are turned
abbrev below : AxisOf
below = record {
  side = at.Bottom;
  title = Some (codes "a");
  labels = true;
  ticks = true;
  line = true;
  grid = false;
  turned = true;
  count = None;
  values = None;
  format = None;
}

the_axis_below : axis_written [] bars (record { scale = 0; axis = below; edges = [] }) ≡ record {
  scale = codes "x_0";
  orient = side.Bottom;
  title = Some (codes "a");
  labels = Some true;
  ticks = Some true;
  domain = Some true;
  grid = Some false;
  label_angle = Some (neg_ℤ (pixels 90));
  tick_count = None;
  values = None;
  format = None;
  edge = Some LastRow;
}
unfolding digits
the_axis_below = refl

-- 20 * bandspace(domain('x_0').length, 0.1, 0.05)
abbrev space : Expr
space = expr.Call 18 (expr.DomainLength (codes "x_0") ∷ expr.Number (pos 100000) ∷ expr.Number (pos 50000) ∷ [])

two_steps_wide : size_written [] bars (sized.Steps (pixels 20) 0) ≡ size.Signal (expr.Binary Mul (expr.Number (pixels 20)) space)
unfolding digits
two_steps_wide = refl

-- ---- circles beside no y

abbrev circles : List ScalePlan
circles = a_scale X LINEAR (of_field (codes "p")) false (pos 0) (pos 0)
    ∷ record (a_scale Y POINT (plan.Cells (cell.Null ∷ [])) false (pos million) (pos 500000)) { is_alone = true } ∷ []

-- a circle stands in the middle of the band of null
the_places_of_a_circle : (spot_way [] circles X (always (spot.Centre 0 (shows.Field (codes "p"))))
    ≡ record bare { scale = Some (codes "x_0"); field = Some (codes "p"); band = Some (pos 500000) })
    × (spot_way [] circles Y (always (spot.Centre 1 (shows.Written cell.Null)))
    ≡ record bare { scale = Some (codes "y_1"); signal = Some expr.Null; band = Some (pos 500000) })
unfolding digits
the_places_of_a_circle = (refl, refl)

-- ---- a facet with a brush, beside a bar that it filters

abbrev by_c : GridPlan
by_c = record {
  number = 1;
  facet = Some (record { fields = record { name = codes "c"; order = stands.Up; is_beside = false; labels = true } ∷ []; units = 0 ∷ [] });
  columns = columns.OneRow;
  spacing = pixels 20;
  title = None;
}

abbrev its_facet : FacetPlan
its_facet = record { fields = record { name = codes "c"; order = stands.Up; is_beside = false; labels = true } ∷ []; units = 0 ∷ [] }

the_panels_of_a_facet : facet_over (parts_by [] (by_c ∷ []) (by_c ∷ []) [] 1 its_facet) its_facet ≡ record {
  name = texts.Several (codes "unit_0" ∷ []);
  data_ = texts.Several (codes "unit_0" ∷ []);
  groupby = codes "c" ∷ [];
  aggregate = None;
  headers = Some (Some header.Column ∷ []);
}
unfolding digits
the_panels_of_a_facet = refl

their_order : sort_of [] (its_facet.fields)
    ≡ Some (record { field = texts.Several (codes "c" ∷ []); order = Some (orders.Several (Ascending ∷ [])) })
their_order = refl

-- the bar counts the rows that the brush holds
abbrev brushed : Expr
brushed = expr.Binary Or (expr.Binary Like (expr.Stored (codes "brush")) (expr.Number (pos 0))) (expr.Selected (codes "brush"))

abbrev counted_rows : GroupOf
counted_rows = record { groupby = []; ops = record { op = 0; field = None; out = codes "__count" } ∷ [] }

the_rows_of_the_bar : list_made (unit_name [] 1) (codes "t") (steps_written [] (step.Filter brushed ∷ step.Group counted_rows ∷ [])) ≡ record {
  name = codes "unit_1";
  values = None;
  url = None;
  format = None;
  source = Some (codes "t");
  transform = Some (vega.Filter record { expr = brushed }
      ∷ vega.Aggregate record { groupby = Some []; ops = Some (0 ∷ []); fields = Some (None ∷ []); as_ = Some (Some (codes "__count") ∷ []) } ∷ []);
}
unfolding digits
the_rows_of_the_bar = refl
