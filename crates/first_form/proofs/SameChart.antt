-- Why the Vega chart of a form in its opening state is the form's chart.
use Rattle.std.proofs.Common.{◌≡◌, ◌≢◌, ◌≤◌, ◌*◌, ◌^◌, ℕ, ℤ, pos, negsuc, ◌*ℤ◌, ◌+ℤ◌, ◌-ℤ◌, ◌≤ℤ◌, int_lt, Bool, true, false, if◌then◌else◌, List, [], ◌∷◌, ◌++◌}
use Rattle.std.proofs.Common.{map, length, Option, Some, None, refl, sym}
use Rattle.std.proofs.Common.{ap, ◌∙◌, arith, unsigned_abs, codes}
use Rattle.std.specs.Prelude.{unwrap_or}
use Rattle.std.specs.Int.{int_min}
use Rattle.std.specs.Option.{option_map, ok_or}
use Rattle.std.specs.Result.{result_ok}
use Rattle.std.specs.List.{All, filter_map}
use Rattle.std.specs.Str.{bytes_eq}
use Rattle.std.specs.FinMap.{insert, empty}
use Rattle.std.proofs.lemmas.Int.{ints, clamps}
use Rattle.std.proofs.lemmas.List.{append-nil}
use Rattle.std.proofs.lemmas.List.Elements.{All-head, All-tail}
use Rattle.std.proofs.lemmas.Slice.Eq.{bytes_eq-Decides}
use Rattle.fixed_num.specs.Number.{million, IsNumber, rounded}
use Rattle.fixed_num.specs.Ranges.{◌>>=◌, in_range, all_found}
use Rattle.fixed_num.specs.Bands.{space_of, steps_of}
use Rattle.std.specs.Ordering.{int_eq}
use Rattle.std.proofs.lemmas.Bool.{cond_both, false≢true}
use Rattle.scale_kit.specs.Scale.{IsPixel}
use Rattle.cell_value.specs.declared.cell.Cell.{Cell}
use Rattle.cell_value.specs.declared.cell.Cell.TheVariants.{Null, Number, Text}
use Rattle.cell_value.specs.declared.state.Key.{Key}
use Rattle.cell_value.specs.Cell.{cell_cmp}
use Rattle.cell_value.specs.Row.{cell_of}
use Rattle.cell_value.specs.Datum.{Datum, datum_of, id_name}
use Rattle.cell_value.proofs.LawLemmas.{what_is_set_is_read, other_names_stay}
use Rattle.expr_syntax.specs.declared.expr.Expr.{Expr, fold-roll-Expr}
use Rattle.expr_syntax.specs.declared.expr.Expr.TheVariants as expr
use Rattle.expr_syntax.specs.declared.expr.Expr.TheOpen as node
use Rattle.expr_syntax.specs.declared.expr.BinOp.{BinOp}
use Rattle.expr_syntax.specs.declared.expr.BinOp.TheVariants.{Mul}
use Rattle.expr_eval.specs.Values.{Values}
use Rattle.expr_eval.specs.Plain.{null_row, no_values}
use Rattle.expr_eval.specs.Ranges.{number_cell}
use Rattle.expr_eval.specs.Numbers.{the_number}
use Rattle.expr_eval.specs.Operations.{binary_of}
use Rattle.expr_eval.specs.Table.{builtin_table, called}
use Rattle.expr_eval.specs.Value.{value_here, value_of}
use Rattle.plain_groups.specs.Aggregates.{numbers_among}
use Rattle.tick_kit.specs.Domains.{ascending, extent_of, with_zero}
use Rattle.tick_kit.specs.Steps.{nice_of}
use Rattle.scale_kit.specs.declared.scale.Overflow.{Overflow}
use Rattle.scale_kit.specs.declared.scale.Scale.TheVariants.{Band}
use Rattle.scale_kit.specs.declared.scale.ScaleSet.{ScaleSet}
use Rattle.scale_kit.specs.Places.{place_of}
use Rattle.scene_tree.specs.declared.scene.Item.{Item}
use Rattle.scene_tree.specs.Outcome.{outcome_map, in_reach}
use Rattle.svg_text.specs.SceneText.{svg_of}
use Rattle.vega_spec.specs.declared.marks.MarkType.TheVariants as mark
use Rattle.vega_spec.specs.declared.spec.Size.TheVariants as size
use Rattle.vega_lists.specs.Scopes.{Scope, no_lists, with_list}
use Rattle.vega_scales.specs.Domains.{column_of}
use Rattle.vega_scales.specs.declared.scaled.Scaled.{Scaled}
use Rattle.vega_scales.specs.declared.scaled.Scaled.TheVariants.{Cells}
use Rattle.vega_scales.specs.Scales.{between, domain_of}
use Rattle.mark_shapes.specs.declared.looks.Look.{Look}
use Rattle.mark_shapes.specs.declared.shown.Shown.TheVariants.{Absent}
use Rattle.mark_shapes.specs.declared.spans.Span.{Span}
use Rattle.mark_shapes.specs.Shown.{shown}
use Rattle.mark_shapes.specs.Spans.{span_of}
use Rattle.mark_shapes.specs.Rects.{rect_over}
use Rattle.mark_shapes.specs.Items.{item_with}
use Rattle.mark_encode.specs.Channels.{channel_values}
use Rattle.mark_encode.specs.Values.{share_of_band, moved}
use Rattle.mark_encode.specs.Items.{item_for, items_for}
use Rattle.vega_signals.specs.Settling.{values_inside}
use Rattle.plot_scenes.specs.declared.scenes.Drawing.{Drawing}
use Rattle.vega_drawing.specs.Sizes.{size_in, size_of}
use Rattle.vega_copies.specs.Scopes.{Names, names_at_top}
use Rattle.vega_drawing.specs.Scales.{ScaleHere, with_domains}
use Rattle.vega_copies.specs.Facts.{facts_here}
use Rattle.vega_drawing.specs.Frames.{Frame}
use Rattle.vega_drawing.specs.Tops.{round_top, top_frame}
use Rattle.vega_charts.specs.Charts.{drawing_of}
use Rattle.vega_charts.specs.OnePlotLaws.{items_of_marks}
use Rattle.vega_charts.proofs.OnePlotLaw.{laws}
use Rattle.first_form.specs.declared.form.FirstForm.{FirstForm}
use Rattle.first_form.specs.declared.form.Value.{Value}
use Rattle.first_form.specs.Bars.{with_ids, Reading, category_of, amount_of, reading_of, readings_of, amounts_of, categories_of}
use Rattle.first_form.specs.Bars.{default_color}
use Rattle.first_form.specs.Bars.{inner_padding, outer_padding, step_width, plot_width, plot_height, x_scale, y_scale, bar_of, scene_of}
use Rattle.first_form.specs.Opening.{space_expr, width_expr, x_scale_of, y_scale_of, encode_of, bars_of, value_row}
use Rattle.first_form.specs.Drawable.{IsDrawable}
use Rattle.first_form.specs.Laws.{VegaChartIsTheChart}
use Rattle.first_form.proofs.RangeLemmas.{in_range_at_number, rounded_multiple}
use Rattle.first_form.proofs.PlaceLemmas.{space_usual, width_usual, width_known, IsPlace, place_to, base_within, place_in_range}
use Rattle.first_form.proofs.DrawableLemmas.{bar_at, IsBar, height_known, width, base, bar_drawn, bars_drawn, form_scene, scene_from}
use Rattle.first_form.proofs.BarCharts.{bars_object, the_bars, outlined}
use Rattle.first_form.proofs.Unbrushed.{unbrushed}

-- ---- the width of the plot

module _ (values : Values) where
  abbrev value : Expr → Option Cell
  value = value_of null_row values

  value-Number : (n : ℤ) → value (expr.Number n) ≡ Some (Number n)
  value-Number n = ap value (sym (expr.rolls-Number n)) ∙ fold-roll-Expr (Option Cell) (value_here null_row values) (node.Number n)

  value-DomainLength : (s : List ℕ) → value (expr.DomainLength s) ≡ number_cell (in_range (pos (values.domain_length s * million)))
  value-DomainLength s =
      ap value (sym (expr.rolls-DomainLength s)) ∙ fold-roll-Expr (Option Cell) (value_here null_row values) (node.DomainLength s)

  value-Call : (code : ℕ) (args : List Expr) → value (expr.Call code args) ≡ called code (map value args)
  value-Call code args =
      ap value (sym (expr.rolls-Call code args)) ∙ fold-roll-Expr (Option Cell) (value_here null_row values) (node.Call code args)

  value-Binary : (op : BinOp) (a b : Expr) → value (expr.Binary op a b) ≡ binary_of op (value a) (value b)
  value-Binary op a b =
      ap value (sym (expr.rolls-Binary op a b)) ∙ fold-roll-Expr (Option Cell) (value_here null_row values) (node.Binary op a b)

-- the space of so many bands is called
space_called : (n : ℕ) → called 18 (Some (Number (pos (n * million))) ∷ Some (Number inner_padding) ∷ Some (Number outer_padding) ∷ [])
    ≡ number_cell (in_range (space_of (pos (n * million)) inner_padding outer_padding))
unfolding builtin_table
space_called n = refl

whole_in_range : (n : ℕ) → n ≤ 1000 → in_range (pos (n * million)) ≡ Some (pos (n * million))
whole_in_range n few =
    let within : IsNumber (pos (n * million)) = (omega (arith, ints), omega (arith, ints)) in in_range_at_number (pos (n * million)) within

width_in_range : (n : ℕ) → n ≤ 1000 → in_range (pos (20 * (n * million))) ≡ Some (pos (20 * (n * million)))
width_in_range n few =
    let within : IsNumber (pos (20 * (n * million))) = (omega (arith, ints), omega (arith, ints)) in
    in_range_at_number (pos (20 * (n * million))) within

-- the space of the bands, by what becomes of their count
abbrev space_by : Option Cell → Option Cell
space_by count = called 18 (count ∷ Some (Number inner_padding) ∷ Some (Number outer_padding) ∷ [])

module _ (values : Values) (n : ℕ) (long : values.domain_length (codes "x") ≡ n) (few : n ≤ 1000) where
  space_value : value values space_expr ≡ Some (Number (pos (n * million)))
  space_value =
      value-Call values 18 (expr.DomainLength (codes "x") ∷ expr.Number inner_padding ∷ expr.Number outer_padding ∷ [])
      ∙ (λ i. called 18
      (value-DomainLength values (codes "x") i ∷ value-Number values inner_padding i ∷ value-Number values outer_padding i ∷ []))
      ∙ ap (λ k. space_by (number_cell (in_range (pos (k * million))))) long
      ∙ ap (λ o. space_by (number_cell o)) (whole_in_range n few)
      ∙ space_called n
      ∙ ap (λ z. number_cell (in_range z)) (space_usual n)
      ∙ ap number_cell (whole_in_range n few)

  width_value : value values width_expr ≡ Some (Number (pos (20 * (n * million))))
  width_value =
      let product : step_width *ℤ pos (n * million) ≡ pos (20 * (n * million) * million) = omega (arith, ints) in
      value-Binary values Mul (expr.Number step_width) space_expr
      ∙ (λ i. binary_of Mul (value-Number values step_width i) (space_value i))
      ∙ ap (λ z. number_cell (in_range z)) (rounded_multiple (20 * (n * million)) million _ (omega arith) product)
      ∙ ap number_cell (width_in_range n few)

  width_size : size_of values (Some (size.Signal width_expr)) ≡ Some (plot_width n)
  width_size =
      let same : size_in (Number (pos (20 * (n * million)))) ≡ pos (20 * (n * million)) = omega (arith, ints, clamps) in
      ap (λ o. option_map size_in o) width_value ∙ ap Some (same ∙ sym (width_usual n few))

-- ---- the item of a row

abbrev bar_look : Look
bar_look = record { fill = Some default_color; stroke = None; stroke_width = pos million; opacity = pos million }

abbrev item_over : Key → Option (Option Span) → Option (Option Span) → Option (Option Item)
item_over key across down =
    (across >>= (λ x. down >>= (λ y. Some (rect_over x y)))) >>= (λ shape. Some (item_with 0 (Some key) shape (Some bar_look)))

-- where a bar stands across, by what its place and its width show, and down, by its height and its base
abbrev across_by : Option (Option ℤ) → Option (Option ℤ) → Option (Option Span)
across_by x size =
    option_map shown (x >>= moved None) >>= (λ n. option_map shown (size >>= moved None) >>= (λ s. span_of n Absent Absent s))

abbrev down_by : Option (Option ℤ) → Option (Option ℤ) → Option (Option Span)
down_by y far = option_map shown (y >>= moved None) >>= (λ n. option_map shown (far >>= moved None) >>= (λ f. span_of n f Absent Absent))

across_known : (x : Option ℤ) (w : ℤ) → across_by (Some x) (Some (Some w)) ≡ Some (option_map (λ x. record { from = x; size = w }) x)
across_known None w = refl
across_known (Some x) w = refl

-- from a height to the base, in either order
abbrev span_down : ℤ → ℤ → Span
span_down end b = record { from = int_min end b; size = pos (unsigned_abs (b -ℤ end)) }

down_known : (end b : ℤ) → IsPlace b → IsPlace end → down_by (Some (Some end)) (Some (Some b)) ≡ Some (Some (span_down end b))
down_known end b low high =
    ap (λ o. option_map (λ size. Some (record { from = int_min end b; size = size })) o) (height_known b end low high)

-- the scales of a plot
abbrev scales_over : List Cell → ℤ → ℤ × ℤ → ScaleSet
scales_over cells width domain = record {
  scales = record { panel = None; name = codes "x"; scale = Band cells inner_padding outer_padding (pos 0) width }
      ∷ record { panel = None; name = codes "y"; scale = y_scale domain } ∷ [];
}

-- the values where there are no signals
abbrev no_params : Values
no_params = values_inside [] no_values

module _ (form : FirstForm) (cells : List Cell) (n : ℕ) (few : length cells ≤ 1000) where
  abbrev item : Datum → Option (Option Item)
  item =
      item_for mark.Rect 0 (plot_width (length cells)) plot_height
      (channel_values (scales_over cells (plot_width (length cells)) (pos 0, pos n)) (Some (encode_of form))) no_params

  item_shown : (d : Datum) → item d ≡ item_over d.key
      (across_by (result_ok (place_of (x_scale cells) (d.cell form.x)))
      (option_map Some (in_range (share_of_band (x_scale cells) (pos million)))))
      (down_by (result_ok (place_of (y_scale (pos 0, pos n)) (d.cell form.y))) (option_map Some (in_range (base cells n +ℤ pos 0))))
  item_shown d = refl

  share_known : in_range (share_of_band (x_scale cells) (pos million)) ≡ Some (width cells n)
  share_known =
      let w = width_known (length cells) few in
      let product : pos million *ℤ pos w.width ≡ pos (w.width * million) = omega (arith, ints) in
      let within : IsNumber (pos w.width) = (omega (arith, ints, w.small), omega (arith, ints, w.small)) in
      ap (λ z. in_range (rounded (pos million *ℤ z) million)) w.is
      ∙ ap in_range (rounded_multiple w.width million _ (omega arith) product)
      ∙ in_range_at_number (pos w.width) within
      ∙ ap Some (sym w.is)

  base_known : in_range (base cells n +ℤ pos 0) ≡ Some (base cells n)
  base_known =
      let b = base cells n in
      let same : b +ℤ pos 0 ≡ b = omega (arith, ints) in
      ap in_range same ∙ place_in_range b (base_within n)

  height_at : (r : Reading) → IsPlace (place_to n r.amount)
      → result_ok (place_of (y_scale (pos 0, pos n)) (Number r.amount)) ≡ Some (Some (place_to n r.amount))
  height_at r is = ap (λ o. result_ok {E = Overflow} (ok_or (option_map Some o) (record {}))) (place_in_range (place_to n r.amount) is)

  same_item : (key : Key) (id : ℕ) (x : Option ℤ) (w end b : ℤ) → key ≡ record { id = id; branch = 0 }
      → item_over key (Some (option_map (λ x. record { from = x; size = w }) x)) (Some (Some (span_down end b)))
      ≡ Some (bar_at id w b end x)
  same_item key id None w end b e = refl
  same_item key id (Some x) w end b e =
      ap (λ k. item_over k (Some (Some (record { from = x; size = w }))) (Some (Some (span_down end b)))) e

  item_known : (d : Datum) (r : Reading) → d.key ≡ record { id = r.id; branch = 0 } → d.cell form.x ≡ r.category
      → d.cell form.y ≡ Number r.amount → IsBar cells n r → item d ≡ bar_of (x_scale cells) (pos 0, pos n) r
  item_known d r key category amount is =
      let end = place_to n r.amount in
      let b = base cells n in
      let w = width cells n in
      let x : result_ok (place_of (x_scale cells) (d.cell form.x)) ≡ Some is.x =
      ap (λ c. result_ok (place_of (x_scale cells) c)) category ∙ is.x_known in
      let y : result_ok (place_of (y_scale (pos 0, pos n)) (d.cell form.y)) ≡ Some (Some end) =
      ap (λ c. result_ok (place_of (y_scale (pos 0, pos n)) c)) amount ∙ height_at r is.end_known in
      item_shown d
      ∙ (λ i. item_over d.key (across_by (x i) (option_map Some (share_known i))) (down_by (y i) (option_map Some (base_known i))))
      ∙ (λ i. item_over d.key (across_known is.x w i) (down_known end b (base_within n) is.end_known i))
      ∙ same_item d.key r.id is.x w end b key
      ∙ sym (bar_drawn cells n r is)

-- ---- the rows of values

module _ (x y : List ℕ) (apart : x ≢ y) where
  -- the row of a value as it is read
  abbrev datum : ℕ × Value → Datum
  datum v = datum_of (value_row x y v)

  category_is : (v : ℕ × Value) → (datum v).cell x ≡ category_of x v
  category_is v = by_names (bytes_eq x id_name) (bytes_eq y id_name) refl refl
    where
      by_names : (b c : Bool) → bytes_eq x id_name ≡ b → bytes_eq y id_name ≡ c → (datum v).cell x ≡ category_of x v
      by_names true c p q = rw p refl
      by_names false true p q = rw (p, q) (what_is_set_is_read empty x (Text v.1.category))
      by_names false false p q =
          let set = insert empty x (Text v.1.category) in
          let read : cell_of (insert set y (Number v.1.amount)) x ≡ Text v.1.category =
          ap (λ o. unwrap_or o Null) (other_names_stay set y (Number v.1.amount) x apart)
          ∙ what_is_set_is_read empty x (Text v.1.category) in
          rw (p, q) read

  amount_is : (v : ℕ × Value) → (datum v).cell y ≡ Number (amount_of y v)
  amount_is v = by_names (bytes_eq x id_name) (bytes_eq y id_name) refl refl
    where
      by_names : (b c : Bool) → bytes_eq x id_name ≡ b → bytes_eq y id_name ≡ c → (datum v).cell y ≡ Number (amount_of y v)
      by_names b true p q = rw q refl
      by_names true false p q = rw (p, q) (what_is_set_is_read empty y (Number v.1.amount))
      by_names false false p q = rw (p, q) (what_is_set_is_read (insert empty x (Text v.1.category)) y (Number v.1.amount))

  abbrev rows : List (ℕ × Value) → List Datum
  rows vs = map datum_of (map (value_row x y) vs)

  abbrev readings : List (ℕ × Value) → List Reading
  readings vs = map (reading_of x y) vs

  categories : (vs : List (ℕ × Value)) → column_of x (rows vs) ≡ map (λ (r : Reading). r.category) (readings vs)
  categories [] = refl
  categories (v ∷ vs) = λ i. category_is v i ∷ categories vs i

  amounts : (vs : List (ℕ × Value)) → numbers_among (column_of y (rows vs)) ≡ amounts_of (readings vs)
  amounts [] = refl
  amounts (v ∷ vs) =
      ap (λ c. filter_map the_number (c ∷ column_of y (rows vs))) (amount_is v) ∙ ap (λ ns. amount_of y v ∷ ns) (amounts vs)

-- ---- what names stand for

module _ (form : FirstForm) where
  -- where the name of the values stands for rows
  abbrev scope_over : List Datum → Scope
  scope_over rows = with_list form.name (with_list form.name rows no_lists form.name) no_lists

  abbrev names_over : List Datum → Names
  names_over rows = record { lists = scope_over rows; values = no_params }

  named : (rows : List Datum)
      → names_at_top no_values [] (record { name = form.name; rows = rows } ∷ []) (bars_object form) ≡ Some (names_over rows)
  named rows = refl

  -- the name stands for the rows of the one source
  abbrev rows_where : Bool → List Datum → List Datum
  rows_where b rows = if b then rows else []

  the_rows : (rows : List Datum) → scope_over rows form.name ≡ rows
  the_rows rows =
      let same = (bytes_eq-Decides form.name form.name).1 refl in
      λ i. rows_where (same i) (rows_where (same i) rows)

  -- ---- the scales

  -- the cells of the one reference of a domain
  abbrev cells_under : List ℕ → List Datum → List Cell
  cells_under name rows = column_of name rows ++ []

  abbrev cells_along : List Datum → List Cell
  cells_along rows = ascending cell_cmp (cells_under form.x rows)

  abbrev domain_up : List Datum → Option (ℤ × ℤ)
  domain_up rows = nice_of 10 (with_zero (extent_of (numbers_among (cells_under form.y rows))))

  abbrev scale_along : List Cell → ScaleHere
  scale_along cells = record { scale = x_scale_of form; domain = Cells cells; is_of_chart = true; passed = [] }

  abbrev scale_up : Scaled → ScaleHere
  scale_up domain = record { scale = y_scale_of form; domain = domain; is_of_chart = true; passed = [] }

  abbrev scales_here : List Cell → ℤ × ℤ → List ScaleHere
  scales_here cells domain = scale_along cells ∷ scale_up (between domain) ∷ []

  abbrev domains_here : List Cell → ℤ × ℤ → List Scaled
  domains_here cells domain = Cells cells ∷ between domain ∷ []

  abbrev domains_by : List Datum → Option (ℤ × ℤ) → Option (List Scaled)
  domains_by rows domain = all_found (Some (Cells (cells_along rows)) ∷ option_map between domain ∷ [])

  abbrev domains_over : List Datum → Option (List Scaled)
  domains_over rows = all_found (map (domain_of no_params (scope_over rows)) (x_scale_of form ∷ y_scale_of form ∷ []))

  domains_opened : (rows : List Datum) → domains_over rows ≡ domains_by (scope_over rows form.name) (domain_up (scope_over rows form.name))
  domains_opened rows = refl

  domains_known : (rows : List Datum) (cells : List Cell) (domain : ℤ × ℤ) → cells_along rows ≡ cells → domain_up rows ≡ Some domain
      → domains_over rows ≡ Some (domains_here cells domain)
  domains_known rows cells domain along up =
      domains_opened rows
      ∙ ap (λ rows. domains_by rows (domain_up rows)) (the_rows rows)
      ∙ ap (domains_by rows) up
      ∙ ap (λ cells. Some (domains_here cells domain)) along

  -- ---- the frame

  abbrev frame_over : List Datum → List ScaleHere → ℤ → Frame
  frame_over rows scales width = record (round_top (names_over rows)) { scales = scales; width = width; height = plot_height }

  abbrev frame_with : List Datum → Option (List Scaled) → Option Frame
  frame_with rows domains =
      option_map (λ domains. record { cells = None; names = names_over rows; domains = domains }) domains
      >>= top_frame (Some (size.Signal width_expr)) (Some (size.Number plot_height)) (bars_object form)

  framed : (rows : List Datum) (cells : List Cell) (domain : ℤ × ℤ) → length cells ≤ 1000 → cells_along rows ≡ cells
      → domain_up rows ≡ Some domain
      → (facts_here None (bars_object form) (names_over rows) >>= top_frame (bars_of form).width (bars_of form).height (bars_object form))
      ≡ Some (frame_over rows (scales_here cells domain) (plot_width (length cells)))
  framed rows cells domain few along up =
      let values = with_domains (scales_here cells domain) no_params in
      ap (frame_with rows) (domains_known rows cells domain along up)
      ∙ ap (λ o. o >>= λ width. Some (frame_over rows (scales_here cells domain) width)) (width_size values (length cells) refl few)

  -- ---- the bars

  abbrev bars_over : List Cell → ℤ × ℤ → ℤ → List Datum → Option (List Item)
  bars_over cells domain width rows =
      items_for mark.Rect 0 width plot_height (channel_values (scales_over cells width domain) (Some (encode_of form))) no_params rows

  bars_opened : (rows : List Datum) (cells : List Cell) (domain : ℤ × ℤ) (wide : ℤ)
      → items_of_marks (frame_over rows (scales_here cells domain) wide) (the_bars form)
      ≡ (bars_over cells domain wide (scope_over rows form.name) >>= λ own. Some (own ++ []))
  bars_opened rows cells domain wide = refl

  items_known : (cells : List Cell) (n : ℕ) (few : length cells ≤ 1000) → form.x ≢ form.y → (vs : List (ℕ × Value))
      → All (IsBar cells n) (map (reading_of form.x form.y) vs)
      → map (item form cells n few) (map datum_of (map (value_row form.x form.y) vs))
      ≡ map (bar_of (x_scale cells) (pos 0, pos n)) (map (reading_of form.x form.y) vs)
  items_known cells n few apart [] all = refl
  items_known cells n few apart (v ∷ vs) all =
      let r = reading_of form.x form.y v in
      let others = map (reading_of form.x form.y) vs in
      let first = item_known form cells n few (datum form.x form.y apart v) r refl (category_is form.x form.y apart v)
      (amount_is form.x form.y apart v)
      (All-head (IsBar cells n) r others all) in
      let rest = items_known cells n few apart vs (All-tail (IsBar cells n) r others all) in
      λ i. first i ∷ rest i

  bars_found : (cells : List Cell) (n : ℕ) → length cells ≤ 1000 → form.x ≢ form.y → (vs : List (ℕ × Value))
      → All (IsBar cells n) (map (reading_of form.x form.y) vs) → (bars : List (Option Item))
      → all_found (map (bar_of (x_scale cells) (pos 0, pos n)) (map (reading_of form.x form.y) vs)) ≡ Some bars
      → (let rows = map datum_of (map (value_row form.x form.y) vs) in
      items_of_marks (frame_over rows (scales_here cells (pos 0, pos n)) (plot_width (length cells))) (the_bars form)
      ≡ Some (filter_map (λ bar. bar) bars))
  bars_found cells n few apart vs all bars drawn =
      let rows = map datum_of (map (value_row form.x form.y) vs) in
      bars_opened rows cells (pos 0, pos n) (plot_width (length cells))
      ∙ ap (λ rows. bars_over cells (pos 0, pos n) (plot_width (length cells)) rows >>= λ own. Some (own ++ [])) (the_rows rows)
      ∙ ap (λ found. option_map (filter_map (λ bar. bar)) (all_found found) >>= λ own. Some (own ++ [])) (items_known cells n few apart vs all)
      ∙ ap (λ found. option_map (filter_map (λ bar. bar)) found >>= λ own. Some (own ++ [])) drawn
      ∙ ap Some (append-nil (filter_map (λ bar. bar) bars))

-- a number above 0, twenty times
twenty_times : (s : ℤ) → int_lt (pos 0) s ≡ true → pos 0 ≤ℤ (pos 20 *ℤ s)
twenty_times (pos n) e = omega (arith, ints)
twenty_times (negsuc n) e = absurd (false≢true e)

-- the space of bands is not below 0
space_above : (n : ℕ) → pos 0 ≤ℤ (pos 20 *ℤ space_of (pos (n * million)) inner_padding outer_padding)
space_above n =
    let steps = steps_of (pos (n * million)) inner_padding outer_padding in
    cond_both (int_eq (pos (n * million)) (pos 0)) (pos 0) (if int_lt (pos 0) steps then steps else pos million)
    (λ (x : ℤ). pos 0 ≤ℤ (pos 20 *ℤ x)) (λ _. omega (arith, ints))
    (λ _. cond_both (int_lt (pos 0) steps) steps (pos million) (λ (x : ℤ). pos 0 ≤ℤ (pos 20 *ℤ x)) (twenty_times steps)
    (λ _. omega (arith, ints)))

-- the width of a plot is from 0 to 10^11 pixels
cut_width : (w : ℤ) → pos 0 ≤ℤ w → IsPixel (int_min w (pos (10 ^ 11 * million)))
cut_width w above = omega (arith, ints, clamps, above)

-- the specification has the scene of the form
same_scene : (form : FirstForm) → IsDrawable form
    → outcome_map (λ (d : Drawing). d.scene) (drawing_of (bars_of form) no_values [] (record {
      name = form.name;
      rows = map datum_of (map (value_row form.x form.y) (with_ids 1 form.values));
    } ∷ [])) ≡ in_reach (scene_of (readings_of form))
same_scene form drawable =
    let vs = with_ids 1 form.values in
    let rows = map datum_of (map (value_row form.x form.y) vs) in
    let rs = readings_of form in
    let known = form_scene form drawable in
    let cells = categories_of rs in
    let along : cells_along form rows ≡ cells =
    ap (ascending cell_cmp) (append-nil (column_of form.x rows) ∙ categories form.x form.y drawable.apart vs) in
    let up : domain_up form rows ≡ Some (pos 0, pos known.end) =
    ap (λ ns. nice_of 10 (with_zero (extent_of ns)))
    (ap numbers_among (append-nil (column_of form.y rows)) ∙ amounts form.x form.y drawable.apart vs) ∙ known.domain in
    let bars = bars_drawn cells known.end rs known.bars in
    let items : List Item = filter_map (λ bar. bar) bars.0 in
    laws.alone (bars_of form) no_values [] (record { name = form.name; rows = rows } ∷ []) (bars_object form) (the_bars form) (names_over form rows)
    (frame_over form rows (scales_here form cells (pos 0, pos known.end)) (plot_width (length cells))) items (record {
      outline = outlined form;
      layout = refl;
      no_groups = refl;
      named = named form rows;
      framed = framed form rows cells (pos 0, pos known.end) known.few along up;
      found = bars_found form cells known.end known.few drawable.apart vs known.bars bars.0 bars.1;
    }) (record { axes = refl; legends = refl; title = refl }) (omega (arith, ints), omega (arith, ints))
    (cut_width _ (space_above (length cells))) (omega (arith, ints), omega (arith, ints))
    ∙ ap in_reach (sym (scene_from rs known bars.0 bars.1))

pub vega_chart_is : VegaChartIsTheChart
vega_chart_is form drawable =
    unbrushed (bars_of form) (drawing_of (bars_of form) no_values [] (record {
      name = form.name;
      rows = map datum_of (map (value_row form.x form.y) (with_ids 1 form.values));
    } ∷ []))
    ∙ ap (outcome_map svg_of) (same_scene form drawable)
