-- The scales of a form: a band for each category along x, and the nice numbers of its amounts with 0 along y.
use Rattle.std.proofs.Common.{◌≡◌, ℕ, pos, Bool, true, false, List, [], ◌∷◌, ◌++◌, map, Option, Some, None, refl, ap, ◌∙◌}
use Rattle.std.specs.Prelude.{not, flat_map, filter, unwrap_or}
use Rattle.std.specs.Option.{option_and_then}
use Rattle.fixed_num.specs.Number.{rounded, floor_quotient}
use Rattle.json_exact.specs.declared.json.Json.{Json}
use Rattle.vl_spec.specs.declared.definitions.Definition.{Definition}
use Rattle.vl_spec.specs.declared.marks.MarkType.TheVariants as mark_type
use Rattle.vl_normalize.specs.declared.codes.TheConstants.{X, Y, COLOR, OPACITY, SIZE, SHAPE}
use Rattle.vl_compose.specs.declared.views.SharedScale.{SharedScale}
use Rattle.vl_compose.specs.Sharing.{is_filled, has_scale, homed, homed_for, groups_among, shared_by, shared_scales}
use Rattle.vl_compose.specs.Units.{UnitAt}
use Rattle.scale_infer.specs.declared.codes.TheConstants.{LINEAR, BAND}
use Rattle.scale_infer.specs.declared.scales.ScaleOf.{ScaleOf}
use Rattle.scale_infer.specs.declared.sharers.Sharer.{Sharer}
use Rattle.scale_infer.specs.Measures.{x_is_measure}
use Rattle.scale_infer.specs.Said.{said_of}
use Rattle.scale_infer.specs.Scales.{scale_over, scale_of as scale_inferred, scales_of as inferred}
use Rattle.plan_kit.specs.declared.cells.CellOf.TheVariants.{Field}
use Rattle.plan_kit.specs.declared.domains.DomainPlan.{DomainPlan}
use Rattle.plan_kit.specs.declared.domains.DomainPlan.TheVariants as domain
use Rattle.plan_kit.specs.declared.orders.CellOrder.{CellOrder}
use Rattle.plan_kit.specs.declared.orders.CellOrder.TheVariants as order
use Rattle.plan_kit.specs.declared.ranges.RangePlan.TheVariants.{Across}
use Rattle.plan_kit.specs.declared.scales.ScalePlan.{ScalePlan}
use Rattle.chart_plan.specs.Columns.{column, columns_of, of_channel, own_cells, second_cells}
use Rattle.chart_plan.specs.Orders.{order_in, order_of, unit_order}
use Rattle.chart_plan.specs.Plan.{all_scales}
use Rattle.chart_plan.specs.Scales.{scale_of, scale_with}
use Rattle.chart_plan.specs.Shown.{all_shown, alone_for, alone_in, scales_among}
use Rattle.guide_infer.specs.First.{first_given}
use Rattle.first_form.specs.declared.form.FirstForm.{FirstForm}
use Rattle.first_form.specs.Bars.{inner_padding, outer_padding}
use Rattle.chart_meaning.specs.FirstForms.{form_spec}
use Rattle.chart_meaning.proofs.FormUnits.{form_unit_at, units_known}
use Rattle.chart_meaning.proofs.FormShown.{category, amount, definitions_x, definitions_y, first_x, first_y, stack_none}

-- ---- what the scales are

-- the cells of a name in the rows of the one unit
abbrev pub cells_under : List ℕ → DomainPlan
cells_under name = domain.Columns record { columns = record { unit = 0; cell = Field name } ∷ []; order = order.Up }

-- a band for each category, and the nice numbers of the amounts with 0
abbrev pub scale_along : FirstForm → ScalePlan
scale_along form = record {
  channel = X;
  units = 0 ∷ [];
  kind = BAND;
  is_time = false;
  holder = None;
  domain = cells_under form.x;
  raw = None;
  range = Across;
  reverse = false;
  zero = false;
  nice = false;
  inner = inner_padding;
  outer = outer_padding;
  legend = None;
  is_alone = false;
}

abbrev pub scale_upward : FirstForm → ScalePlan
scale_upward form = record {
  channel = Y;
  units = 0 ∷ [];
  kind = LINEAR;
  is_time = false;
  holder = None;
  domain = cells_under form.y;
  raw = None;
  range = Across;
  reverse = false;
  zero = true;
  nice = true;
  inner = pos 0;
  outer = pos 0;
  legend = None;
  is_alone = false;
}

abbrev pub form_scales : FirstForm → List ScalePlan
form_scales form = scale_along form ∷ scale_upward form ∷ []

-- ---- which there are

kept : {A : Type 0} (test : A → Bool) (x : A) → test x ≡ true → filter test (x ∷ []) ≡ x ∷ []
kept test x is = rw is refl

left_out : {A : Type 0} (test : A → Bool) (x : A) → test x ≡ false → filter test (x ∷ []) ≡ []
left_out test x is = rw is refl

-- other channels have none
other_channels : (y_first : Bool) (form : FirstForm)
    → flat_map (shared_by (form_unit_at y_first form ∷ [])) (COLOR ∷ OPACITY ∷ SIZE ∷ SHAPE ∷ []) ≡ []
other_channels false form = refl
other_channels true form = refl

-- x2 has no cells, and neither has y2
second_x : (y_first : Bool) (form : FirstForm) → second_cells X (form_unit_at y_first form) ≡ []
second_x false form = refl
second_x true form = refl

second_y : (y_first : Bool) (form : FirstForm) → second_cells Y (form_unit_at y_first form) ≡ []
second_y false form = refl
second_y true form = refl

abbrev shared_of : ℕ → SharedScale
shared_of channel = record { channel = channel; units = 0 ∷ [] }

abbrev two_shared : List SharedScale
two_shared = shared_of X ∷ shared_of Y ∷ []

abbrev inferred_x : ScaleOf
inferred_x = record { channel = X; units = 0 ∷ []; kind = BAND; zero = false; nice = false; inner = pos 100000; outer = pos 50000 }

abbrev inferred_y : ScaleOf
inferred_y = record { channel = Y; units = 0 ∷ []; kind = LINEAR; zero = true; nice = true; inner = pos 0; outer = pos 0 }

first_unsaid : (order_at : UnitAt → Option CellOrder) (u : UnitAt) → order_at u ≡ None → unwrap_or (first_given order_at (u ∷ [])) order.Up ≡ order.Up
first_unsaid order_at u is = rw is refl

module _ (y_first : Bool) (form : FirstForm) where
  abbrev unit : UnitAt
  unit = form_unit_at y_first form

  has_x : has_scale X unit ≡ true
  has_x = ap is_filled (definitions_x y_first form)

  has_y : has_scale Y unit ≡ true
  has_y = ap is_filled (definitions_y y_first form)

  homed_x : homed_for X (unit ∷ []) ≡ homed X unit ∷ []
  homed_x = ap (map (homed X)) (kept (has_scale X) unit has_x)

  homed_y : homed_for Y (unit ∷ []) ≡ homed Y unit ∷ []
  homed_y = ap (map (homed Y)) (kept (has_scale Y) unit has_y)

  alone_x : alone_for (unit ∷ []) X ≡ []
  alone_x = ap (map (alone_in X)) (left_out (λ (u : UnitAt). not (has_scale X u)) unit (ap not has_x))

  alone_y : alone_for (unit ∷ []) Y ≡ []
  alone_y = ap (map (alone_in Y)) (left_out (λ (u : UnitAt). not (has_scale Y u)) unit (ap not has_y))

  shared_known : shared_scales (unit ∷ []) ≡ two_shared
  shared_known = λ i. groups_among X (homed_x i) ++ (groups_among Y (homed_y i) ++ other_channels y_first form i)

  all_known : scales_among (unit ∷ []) ≡ two_shared
  all_known = λ i. shared_known i ++ alone_x i ++ alone_y i

  -- ---- what is inferred of them

  abbrev sharer_by : Option Definition → Option Definition → List Definition → Sharer
  sharer_by x y shown = record { mark = Some mark_type.Bar; x_is_measure = x_is_measure x y; says = map said_of shown }

  scales_inferred : map (scale_inferred (unit ∷ [])) two_shared ≡ inferred_x ∷ inferred_y ∷ []
  unfolding rounded floor_quotient
  scales_inferred = λ i. scale_over X (0 ∷ []) (sharer_by (first_x y_first form i) (first_y y_first form i) (definitions_x y_first form i) ∷ [])
      ∷ scale_over Y (0 ∷ []) (sharer_by (first_x y_first form i) (first_y y_first form i) (definitions_y y_first form i) ∷ []) ∷ []

  -- ---- their domains

  shown_x : all_shown (unit ∷ []) X (0 ∷ []) ≡ category form ∷ []
  shown_x = λ i. definitions_x y_first form i ++ []

  shown_y : all_shown (unit ∷ []) Y (0 ∷ []) ≡ amount form ∷ []
  shown_y = λ i. definitions_y y_first form i ++ []

  columns_x : columns_of X BAND (unit ∷ []) (0 ∷ []) ≡ record { unit = 0; cell = Field form.x } ∷ []
  columns_x = λ i. map (column 0) (own_cells false X (option_and_then (of_channel X) (stack_none y_first form i)) (definitions_x y_first form i)
      ++ second_x y_first form i) ++ []

  columns_y : columns_of Y LINEAR (unit ∷ []) (0 ∷ []) ≡ record { unit = 0; cell = Field form.y } ∷ []
  columns_y = λ i. map (column 0) (own_cells true Y (option_and_then (of_channel Y) (stack_none y_first form i)) (definitions_y y_first form i)
      ++ second_y y_first form i) ++ []

  order_unsaid : unit_order X (0 ∷ []) unit ≡ None
  order_unsaid = ap (first_given (order_in unit X)) (definitions_x y_first form)

  order_x : order_of X (unit ∷ []) (0 ∷ []) ≡ order.Up
  order_x = first_unsaid (unit_order X (0 ∷ [])) unit order_unsaid

  -- ---- the scales

  scale_x : scale_with [] (unit ∷ []) inferred_x (category form ∷ []) ≡ scale_along form
  scale_x = λ i. record (scale_along form) { domain = domain.Columns (record { columns = columns_x i; order = order_x i }) }

  scale_y : scale_with [] (unit ∷ []) inferred_y (amount form ∷ []) ≡ scale_upward form
  scale_y = λ i. record (scale_upward form) { domain = domain.Columns (record { columns = columns_y i; order = order.Up }) }

  pub scales_known : (values : Option Json) → all_scales (form_spec y_first values form) (unit ∷ []) ≡ form_scales form
  scales_known values =
      ap (λ (shared : List SharedScale). map (scale_of [] (unit ∷ [])) (inferred (form_spec y_first values form) shared)) all_known
      ∙ ap (λ (units : List UnitAt). map (scale_of [] (unit ∷ [])) (map (scale_inferred units) two_shared)) (units_known y_first values form)
      ∙ ap (map (scale_of [] (unit ∷ []))) scales_inferred
      ∙ (λ i. scale_with [] (unit ∷ []) inferred_x (shown_x i) ∷ scale_with [] (unit ∷ []) inferred_y (shown_y i) ∷ [])
      ∙ (λ i. scale_x i ∷ scale_y i ∷ [])
