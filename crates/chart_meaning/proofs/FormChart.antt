-- Why the chart of the specification of a form is the form's chart.
use Rattle.std.proofs.Common.{◌≡◌, ◌≤◌, ◌*◌, ℕ, ℤ, pos, ◌*ℤ◌, List, [], ◌∷◌, ◌++◌}
use Rattle.std.proofs.Common.{map, length, Option, Some, None, refl, sym, ap, ◌∙◌, arith}
use Rattle.std.specs.Prelude.{flat_map, slice_get}
use Rattle.std.specs.Int.{int_min}
use Rattle.std.specs.Option.{option_map}
use Rattle.std.specs.List.{filter_map}
use Rattle.std.proofs.lemmas.Int.{ints, clamps}
use Rattle.std.proofs.lemmas.List.{append-nil}
use Rattle.std.proofs.lemmas.Slice.Eq.{bytes_eq-Decides}
use Rattle.fixed_num.specs.Number.{million, IsNumber, rounded}
use Rattle.fixed_num.specs.Ranges.{◌>>=◌, in_range, all_found}
use Rattle.cell_value.specs.declared.cell.Cell.{Cell}
use Rattle.cell_value.specs.Cell.{cell_cmp}
use Rattle.cell_value.specs.Datum.{Datum, datum_of}
use Rattle.cell_value.specs.State.{State, Dataset, state_of}
use Rattle.expr_eval.specs.Values.{Values}
use Rattle.tick_kit.specs.Domains.{ascending, extent_of, with_zero}
use Rattle.tick_kit.specs.Steps.{nice_of}
use Rattle.scale_kit.specs.Places.{the_number}
use Rattle.scale_kit.specs.Scale.{IsPixel}
use Rattle.scene_tree.specs.declared.scene.Item.{Item}
use Rattle.scene_tree.specs.declared.scene.Scene.{Scene}
use Rattle.scene_tree.specs.Outcome.{Outcome, outcome_map, in_reach}
use Rattle.svg_text.specs.SceneText.{svg_of}
use Rattle.plot_scenes.specs.declared.axes.Axes.{Axes}
use Rattle.plot_scenes.specs.declared.scenes.Drawing.{Drawing}
use Rattle.plot_scenes.specs.declared.views.Placed.{Placed}
use Rattle.plot_scenes.specs.declared.views.Plot.{Plot}
use Rattle.plot_scenes.specs.Axes.{and_then, no_axes}
use Rattle.plot_scenes.specs.Extents.{no_extents}
use Rattle.plot_scenes.specs.OnePlot.{plain_scene}
use Rattle.plot_scenes.specs.Scenes.{drawing_with}
use Rattle.plot_scenes.specs.Views.{placed_plot}
use Rattle.plot_scenes.proofs.OnePlotLaw.{alone, bare}
use Rattle.param_flow.specs.Semantics.{text_of}
use Rattle.plan_kit.specs.declared.cells.CellOf.TheVariants.{Field}
use Rattle.plan_kit.specs.declared.plan.Plan.{Plan}
use Rattle.plan_kit.specs.declared.views.ViewPlan.{fold-ViewPlan, fold-roll-ViewPlan}
use Rattle.plan_kit.specs.declared.views.ViewPlan.TheOpen as level
use Rattle.plan_kit.specs.declared.views.ViewPlan.TheVariants as view
use Rattle.first_form.specs.declared.form.FirstForm.{FirstForm}
use Rattle.first_form.specs.declared.form.Value.{Value}
use Rattle.first_form.specs.Bars.{with_ids, Reading, readings_of, categories_of, x_scale, y_scale, scene_of}
use Rattle.first_form.specs.Bars.{step_width, plot_width, plot_height}
use Rattle.first_form.specs.Drawable.{IsDrawable}
use Rattle.first_form.specs.Opening.{value_row, opening_of}
use Rattle.first_form.proofs.DrawableLemmas.{form_scene, bars_drawn, scene_from}
use Rattle.first_form.proofs.PlaceLemmas.{space_usual, width_usual}
use Rattle.first_form.proofs.RangeLemmas.{in_range_at_number, rounded_multiple}
use Rattle.chart_meaning.specs.Charts.{drawn, picture_over}
use Rattle.chart_meaning.specs.Domains.{cells_counted, domain_in, numbers_between}
use Rattle.chart_meaning.specs.Items.{InPlot, item_at}
use Rattle.chart_meaning.specs.Laws.{FirstFormIsSpecialCase}
use Rattle.chart_meaning.specs.Parameters.{settled, values_in}
use Rattle.chart_meaning.specs.Parts.{Copy, Domain, OfCells, OfNumbers, copy_over, whole_copy}
use Rattle.chart_meaning.specs.Plots.{plot_drawn, plot_here, plot_in, plot_with}
use Rattle.chart_meaning.specs.Rows.{rows_named}
use Rattle.chart_meaning.specs.Scales.{greatest_size, size_of_steps}
use Rattle.chart_meaning.specs.Views.{Views, NoViews, APlot, Before, view_here, views_of, placed, with_legends, legends_in, drawing_of, drawing_over}
use Rattle.chart_meaning.proofs.FormOutcomes.{after_lists, drawn_opened, mapped, unbrushed}
use Rattle.chart_meaning.proofs.FormItems.{column, categories, amounts, items_known}
use Rattle.chart_meaning.proofs.FormPlan.{form_mark, form_plot, form_plan, plan_known}
use Rattle.chart_meaning.proofs.FormScales.{scale_along, scale_upward}

-- ---- the width of the plot

width_known : (form : FirstForm) (n : ℕ) → n ≤ 1000 → size_of_steps step_width (scale_along form) n ≡ Some (plot_width n)
width_known form n few =
    let wide : IsNumber (pos (20 * (n * million))) = (omega (arith, ints), omega (arith, ints)) in
    let product : step_width *ℤ pos (n * million) ≡ pos (20 * (n * million) * million) = omega (arith, ints) in
    let uncut : int_min greatest_size (pos (20 * (n * million))) ≡ pos (20 * (n * million)) = omega (arith, ints, clamps) in
    ap (λ z. option_map (int_min greatest_size) (in_range (rounded (step_width *ℤ z) million))) (space_usual n)
    ∙ ap (λ z. option_map (int_min greatest_size) (in_range z)) (rounded_multiple (20 * (n * million)) million _ (omega arith) product)
    ∙ ap (option_map (int_min greatest_size)) (in_range_at_number (pos (20 * (n * million))) wide)
    ∙ ap Some (uncut ∙ sym (width_usual n few))

pixel_width : (n : ℕ) → n ≤ 1000 → IsPixel (plot_width n)
pixel_width n few = rw (width_usual n few) (omega (arith, ints), omega (arith, ints))

-- ---- the cells of columns

found_all : (f : Datum → Cell) (rows : List Datum) → all_found (map (λ row. Some (f row)) rows) ≡ Some (map f rows)
found_all f [] = refl
found_all f (row ∷ rows) = ap (λ o. o >>= λ cells. Some (f row ∷ cells)) (found_all f rows)

module _ (form : FirstForm) (values : Values) (rows : List Datum) where
  -- the whole chart over these rows
  abbrev copy : Copy
  copy = copy_over (rows ∷ []) (rows ∷ [])

  abbrev cells_of : List ℕ → List Cell
  cells_of name = column name rows ++ []

  -- one column of each row's cell of a name
  counted : (name : List ℕ)
      → cells_counted values copy (record { unit = 0; cell = Field name } ∷ []) ≡ Some (cells_of name)
  counted name = ap (λ (found : Option (List Cell)). option_map (flat_map (λ cells. cells)) (found >>= λ cells. Some (cells ∷ [])))
      (found_all (λ row. row.cell name) rows)

  -- ---- the domains

  along_known : domain_in values copy (scale_along form) ≡ Some (OfCells (ascending cell_cmp (cells_of form.x)))
  along_known = ap (λ (found : Option (List Cell)). found >>= λ cells. Some (OfCells (ascending cell_cmp cells))) (counted form.x)

  -- the nice domain of some numbers with 0
  abbrev ends_by : Option (List Cell) → Option Domain
  ends_by found = found >>= λ cells. option_map numbers_between (nice_of 10 (with_zero (extent_of (filter_map the_number cells))))

  upward_known : domain_in values copy (scale_upward form)
      ≡ option_map numbers_between (nice_of 10 (with_zero (extent_of (filter_map the_number (cells_of form.y)))))
  upward_known = ap ends_by (counted form.y)

-- ---- the one plot

module _ (form : FirstForm) (values : Values) (rows : List Datum) (cells : List Cell) (n : ℕ) (few : length cells ≤ 1000)
    (bars : List (Option Item)) where
  abbrev p : Plan
  p = form_plan form

  -- the whole chart with the domains of its two scales
  abbrev whole : Copy
  whole = record (copy_over (rows ∷ []) (rows ∷ [])) { domains = (0, OfCells cells) ∷ (1, OfNumbers (pos 0) (pos n)) ∷ [] }

  abbrev here : InPlot
  here = plot_here p values whole (plot_width (length cells)) plot_height

  abbrev bare_axes : Axes
  bare_axes = and_then (no_axes no_extents) (no_axes no_extents)

  abbrev items : List Item
  items = filter_map (λ bar. bar) bars ++ []

  abbrev plot : Plot
  plot = plot_with p whole form_plot here bare_axes items

  -- its scales are those of the form
  scales_are : (here.scale 0 ≡ x_scale cells) × (here.scale 1 ≡ y_scale (pos 0, pos n))
  scales_are = (refl, refl)

  -- by the bars that are found of its rows
  abbrev plot_by : Option (List (Option Item)) → Option Plot
  plot_by found =
      option_map (flat_map (λ items. items)) (option_map (filter_map (λ bar. bar)) found >>= λ items. Some (items ∷ []))
      >>= λ items. Some (plot_with p whole form_plot here bare_axes items)

  drawn_by : plot_drawn p whole form_plot here ≡ plot_by (all_found (map (item_at here 0 (form_mark form)) rows))
  drawn_by = refl

  plot_known : all_found (map (item_at here 0 (form_mark form)) rows) ≡ Some bars → plot_in p values whole form_plot ≡ Some plot
  plot_known found =
      ap (λ o. o >>= λ width. plot_drawn p whole form_plot (plot_here p values whole width plot_height)) (width_known form (length cells) few)
      ∙ drawn_by
      ∙ ap plot_by found

  -- ---- the view

  views_known : views_of p ≡ APlot form_plot NoViews
  views_known =
      ap (λ v. fold-ViewPlan Before (view_here p) v NoViews) (sym (view.rolls-Plot 0))
      ∙ ap (λ (f : Before). f NoViews) (fold-roll-ViewPlan Before (view_here p) (level.Plot 0))

  -- by how its views stand
  abbrev drawing_by : Option (List Placed) → Option Drawing
  drawing_by views =
      views >>= λ views. slice_get views 0 >>= λ top. drawing_with p.padding [] (with_legends (legends_in p None whole) top)

  drawing_opened : drawing_of p values whole ≡ drawing_by (placed p values (views_of p) whole)
  drawing_opened = refl

  drawing_known : all_found (map (item_at here 0 (form_mark form)) rows) ≡ Some bars
      → drawing_of p values whole ≡ drawing_with p.padding [] (placed_plot plot)
  drawing_known found =
      drawing_opened
      ∙ ap (λ views. drawing_by (placed p values views whole)) views_known
      ∙ ap (λ (o : Option Plot). drawing_by (o >>= λ first. Some (placed_plot first ∷ []))) (plot_known found)

  scene_known : IsPixel (plot_width (length cells))
      → option_map (λ (d : Drawing). d.scene) (drawing_with p.padding [] (placed_plot plot))
      ≡ Some (plain_scene p.padding (plot_width (length cells)) plot_height (Some 0) items)
  scene_known wide =
      alone p.padding [] plot refl refl
      ∙ bare p.padding (plot_width (length cells)) plot_height (Some 0) items (omega (arith, ints), omega (arith, ints)) wide
      (omega (arith, ints), omega (arith, ints))

-- ---- the lists

module _ (form : FirstForm) (rows : List Datum) where
  abbrev sources : List Dataset
  sources = record { name = form.name; rows = rows } ∷ []

  rows_known : rows_named sources form.name ≡ rows
  rows_known = rw ((bytes_eq-Decides form.name form.name).1 refl) refl

  -- by the rows of its name
  lists_opened : (values : Values) → whole_copy values sources (form_plan form)
      ≡ Some (copy_over (rows_named sources form.name ∷ []) (rows_named sources form.name ∷ []))
  lists_opened values = refl

  lists_known : (values : Values) → whole_copy values sources (form_plan form) ≡ Some (copy_over (rows ∷ []) (rows ∷ []))
  lists_known values = lists_opened values ∙ ap (λ rows. Some (copy_over (rows ∷ []) (rows ∷ []))) rows_known

-- ---- the chart

module _ (form : FirstForm) (drawable : IsDrawable form) where
  abbrev vs : List (ℕ × Value)
  vs = with_ids 1 form.values

  abbrev rows : List Datum
  rows = map datum_of (map (value_row form.x form.y) vs)

  abbrev st : State
  st = state_of (opening_of form)

  abbrev values : Values
  values = values_in [] st

  abbrev rs : List Reading
  rs = readings_of form

  abbrev cells : List Cell
  cells = categories_of rs

  -- what is drawn of the whole chart, by its domains
  abbrev over_domains : Option Domain → Option Domain → Option Drawing
  over_domains x y =
      (option_map (λ found. record (copy_over (rows ∷ []) (rows ∷ [])) { domains = found ++ [] })
      (option_map (λ x. (0, x)) x >>= λ x. (option_map (λ y. (1, y)) y >>= λ y. Some (y ∷ [])) >>= λ others. Some (x ∷ others)))
      >>= drawing_of (form_plan form) values

  over_opened : drawing_over (form_plan form) (settled [] st) values (copy_over (rows ∷ []) (rows ∷ []))
      ≡ over_domains (domain_in values (copy_over (rows ∷ []) (rows ∷ [])) (scale_along form))
      (domain_in values (copy_over (rows ∷ []) (rows ∷ [])) (scale_upward form))
  over_opened = refl

  -- what comes of these lists
  abbrev outcome : Views → Option Copy → Outcome Scene
  outcome views found = outcome_map (λ (d : Drawing). d.scene) (after_lists (form_plan form) (settled [] st) values views found)

  same_scene : outcome_map (λ (d : Drawing). d.scene) (drawn (form_plan form) [] st) ≡ in_reach (scene_of rs)
  same_scene =
      let known = form_scene form drawable in
      let n = known.end in
      let bars = bars_drawn cells n rs known.bars in
      let is = scales_are form values rows cells n known.few bars.0 in
      let found : all_found (map (item_at (here form values rows cells n known.few bars.0) 0 (form_mark form)) rows) ≡ Some bars.0 =
      ap all_found (items_known form cells n known.few (here form values rows cells n known.few bars.0) is.0 is.1 drawable.apart vs known.bars)
      ∙ bars.1 in
      let along : ascending cell_cmp (column form.x rows ++ []) ≡ cells =
      ap (ascending cell_cmp) (append-nil (column form.x rows) ∙ categories form.x form.y drawable.apart vs) in
      let upward : nice_of 10 (with_zero (extent_of (filter_map the_number (column form.y rows ++ []))))
      ≡ Some (pos 0, pos n) =
      ap (λ (ns : List ℤ). nice_of 10 (with_zero (extent_of ns)))
      (ap (filter_map the_number) (append-nil (column form.y rows)) ∙ amounts form.x form.y drawable.apart vs)
      ∙ known.domain in
      let domain_x = along_known form values rows ∙ ap (λ cells. Some (OfCells cells)) along in
      let domain_y = upward_known form values rows ∙ ap (option_map numbers_between) upward in
      ap (outcome_map (λ (d : Drawing). d.scene)) (drawn_opened (form_plan form) [] st)
      ∙ ap (outcome (views_of (form_plan form))) (lists_known form rows values)
      ∙ ap (λ views. outcome views (Some (copy_over (rows ∷ []) (rows ∷ [])))) (views_known form values rows cells n known.few bars.0)
      ∙ ap (λ drawing. outcome_map (λ (d : Drawing). d.scene) (in_reach drawing)) over_opened
      ∙ (λ i. outcome_map (λ (d : Drawing). d.scene) (in_reach (over_domains (domain_x i) (domain_y i))))
      ∙ ap (λ drawing. outcome_map (λ (d : Drawing). d.scene) (in_reach drawing)) (drawing_known form values rows cells n known.few bars.0 found)
      ∙ mapped (λ (d : Drawing). d.scene) (drawing_with (form_plan form).padding [] (placed_plot (plot form values rows cells n known.few bars.0)))
      ∙ ap in_reach (scene_known form values rows cells n known.few bars.0 (pixel_width (length cells) known.few))
      ∙ ap (λ items. in_reach (Some (plain_scene (form_plan form).padding (plot_width (length cells)) plot_height (Some 0) items)))
      (append-nil (filter_map (λ bar. bar) bars.0))
      ∙ ap in_reach (sym (scene_from rs known bars.0 bars.1))

pub first_form_is_special_case : FirstFormIsSpecialCase
first_form_is_special_case y_first values form drawable =
    ap (λ p. outcome_map text_of (picture_over p [] (state_of (opening_of form)))) (plan_known y_first values form)
    ∙ unbrushed (form_plan form) [] (state_of (opening_of form)) refl
    ∙ ap (outcome_map svg_of) (same_scene form drawable)
