-- The item of a row in the plot of a form is the form's bar.
use Rattle.std.proofs.Common.{◌≡◌, ◌≢◌, ℕ, ◌*◌, ◌≤◌, ℤ, pos, ◌+ℤ◌, ◌-ℤ◌, ◌≤ℤ◌, Bool, true, false, List, [], ◌∷◌, map, length, Option, Some, None}
use Rattle.std.proofs.Common.{unsigned_abs, arith, refl, sym, ap, ◌∙◌}
use Rattle.std.specs.Prelude.{IfSome, unwrap_or}
use Rattle.std.specs.Int.{int_min}
use Rattle.std.specs.Option.{option_map, ok_or}
use Rattle.std.specs.Result.{result_ok}
use Rattle.std.specs.List.{All, filter_map}
use Rattle.std.specs.Str.{bytes_eq}
use Rattle.std.specs.FinMap.{insert, empty}
use Rattle.std.proofs.lemmas.Int.{ints, clamps}
use Rattle.std.proofs.lemmas.List.Elements.{All-head, All-tail}
use Rattle.fixed_num.specs.Number.{million, IsNumber}
use Rattle.fixed_num.specs.Ranges.{◌>>=◌, in_range}
use Rattle.cell_value.specs.declared.cell.Cell.{Cell}
use Rattle.cell_value.specs.declared.cell.Cell.TheVariants.{Null, Number, Text}
use Rattle.cell_value.specs.declared.state.Key.{Key}
use Rattle.cell_value.specs.Datum.{Datum, datum_of, id_name}
use Rattle.cell_value.specs.Row.{cell_of}
use Rattle.cell_value.proofs.LawLemmas.{what_is_set_is_read, other_names_stay}
use Rattle.scale_kit.specs.declared.scale.Overflow.{Overflow}
use Rattle.scale_kit.specs.declared.scale.Scale.{Scale}
use Rattle.scale_kit.specs.Places.{the_number, place_of, place_in_band_of, base_of}
use Rattle.scene_tree.specs.declared.scene.Item.{Item}
use Rattle.mark_shapes.specs.declared.shown.Shown.TheVariants.{Absent}
use Rattle.mark_shapes.specs.declared.spans.Span.{Span}
use Rattle.mark_shapes.specs.Items.{item_with}
use Rattle.mark_shapes.specs.Looks.{bar_look}
use Rattle.mark_shapes.specs.Rects.{rect_over}
use Rattle.mark_shapes.specs.Shown.{shown}
use Rattle.mark_shapes.specs.Spans.{span_of}
use Rattle.first_form.specs.declared.form.FirstForm.{FirstForm}
use Rattle.first_form.specs.declared.form.Value.{Value}
use Rattle.first_form.specs.Bars.{Reading, category_of, amount_of, reading_of, amounts_of, x_scale, y_scale, bar_of}
use Rattle.first_form.specs.Opening.{value_row}
use Rattle.first_form.proofs.PlaceLemmas.{IsPlace, place_to, base_within, place_in_range, width_known}
use Rattle.first_form.proofs.DrawableLemmas.{bar_at, IsBar, height_known, width, base, bar_drawn}
use Rattle.first_form.proofs.RangeLemmas.{in_range_at_number}
use Rattle.chart_meaning.specs.Items.{InPlot, moved_by, item_at, whole}
use Rattle.chart_meaning.proofs.FormBands.{ends_of}
use Rattle.chart_meaning.proofs.FormPlan.{form_mark}

-- ---- spans

-- from a near end to a far one, by what becomes of both
abbrev pub span_by : Option (Option ℤ) → Option (Option ℤ) → Option (Option Span)
span_by near far = option_map shown (near >>= moved_by None) >>= λ n. option_map shown (far >>= moved_by None) >>= λ f. span_of n f Absent Absent

-- a band of a width from its beginning on
abbrev span_on : ℤ → ℤ → Span
span_on w x = record { from = x; size = w }

sized : (from x size w : ℤ) → from ≡ x → size ≡ w → IsNumber w
    → option_map (λ size. Some (span_on size from)) (in_range size) ≡ Some (Some (span_on w x))
sized from x size w from_is size_is within =
    (λ i. option_map (λ size. Some (span_on size (from_is i))) (in_range (size_is i)))
    ∙ ap (λ o. option_map (λ size. Some (span_on size x)) o) (in_range_at_number w within)

band_span : (x w : ℤ) → pos 0 ≤ℤ x → x ≤ℤ pos (20 * (1001 * million)) → pos 0 ≤ℤ w → w ≤ℤ pos (18 * million)
    → span_by (Some (Some x)) (Some (Some (x +ℤ w))) ≡ Some (Some (span_on w x))
band_span x w low high some small =
    let far : int_min x (x +ℤ w) ≡ x = omega (arith, ints, clamps, some) in
    let size : pos (unsigned_abs ((x +ℤ w) -ℤ x)) ≡ w = omega (arith, ints, some) in
    let within : IsNumber w = (omega (arith, ints, some), omega (arith, ints, small)) in
    sized (int_min x (x +ℤ w)) x (pos (unsigned_abs ((x +ℤ w) -ℤ x))) w far size within

across_known : (x : Option ℤ) (w : ℤ) → IfSome x (λ x. (pos 0 ≤ℤ x) × (x ≤ℤ pos (20 * (1001 * million)))) → pos 0 ≤ℤ w → w ≤ℤ pos (18 * million)
    → span_by (Some x) (Some (option_map (λ x. x +ℤ w) x)) ≡ Some (option_map (span_on w) x)
across_known None w inside some small = refl
across_known (Some x) w inside some small = band_span x w inside.0 inside.1 some small

-- from a height to the base, in either order
abbrev span_down : ℤ → ℤ → Span
span_down end b = record { from = int_min end b; size = pos (unsigned_abs (b -ℤ end)) }

down_known : (end b : ℤ) → IsPlace b → IsPlace end → span_by (Some (Some end)) (Some (Some b)) ≡ Some (Some (span_down end b))
down_known end b low high =
    ap (λ o. option_map (λ size. Some (record { from = int_min end b; size = size })) o) (height_known b end low high)

-- ---- the item of a row

abbrev item_over : Key → Option (Option Span) → Option (Option Span) → Option (Option Item)
item_over key across down =
    (across >>= (λ x. down >>= (λ y. Some (rect_over x y)))) >>= (λ shape. Some (item_with 0 (Some key) shape (Some bar_look)))

module _ (form : FirstForm) (cells : List Cell) (n : ℕ) (few : length cells ≤ 1000) (plot : InPlot) where
  abbrev item : Datum → Option (Option Item)
  item d = item_at plot 0 (form_mark form) d

  module _ (along : plot.scale 0 ≡ x_scale cells) (upward : plot.scale 1 ≡ y_scale (pos 0, pos n)) where
    -- by the scales of the plot, and by those of the form
    abbrev item_by : Scale → Scale → Datum → Option (Option Item)
    item_by x y d = item_over d.key
        (span_by (result_ok (place_of x (d.cell form.x))) (result_ok (place_in_band_of x (d.cell form.x) whole)))
        (span_by (result_ok (place_of y (d.cell form.y))) (Some (Some (base_of y))))

    item_shown : (d : Datum) → item d ≡ item_by (plot.scale 0) (plot.scale 1) d
    item_shown d = refl

    height_at : (r : Reading) → IsPlace (place_to n r.amount)
        → result_ok (place_of (y_scale (pos 0, pos n)) (Number r.amount)) ≡ Some (Some (place_to n r.amount))
    height_at r is = ap (λ o. result_ok {E = Overflow} (ok_or (option_map Some o) (record {}))) (place_in_range (place_to n r.amount) is)

    same_item : (key : Key) (id : ℕ) (x : Option ℤ) (w end b : ℤ) → key ≡ record { id = id; branch = 0 }
        → item_over key (Some (option_map (span_on w) x)) (Some (Some (span_down end b))) ≡ Some (bar_at id w b end x)
    same_item key id None w end b e = refl
    same_item key id (Some x) w end b e = ap (λ k. item_over k (Some (Some (span_on w x))) (Some (Some (span_down end b)))) e

    item_known : (d : Datum) (r : Reading) → d.key ≡ record { id = r.id; branch = 0 } → d.cell form.x ≡ r.category
        → d.cell form.y ≡ Number r.amount → IsBar cells n r → item d ≡ bar_of (x_scale cells) (pos 0, pos n) r
    item_known d r key category amount is =
        let ends = ends_of cells r.category few in
        let end = place_to n r.amount in
        let b = base cells n in
        let w = width cells n in
        let wide = width_known (length cells) few in
        let some : pos 0 ≤ℤ w = rw wide.is (omega (arith, ints)) in
        let small : w ≤ℤ pos (18 * million) = rw wide.is (omega (arith, ints, wide.small)) in
        let x : result_ok (place_of (x_scale cells) (d.cell form.x)) ≡ Some ends.x =
        ap (λ c. result_ok (place_of (x_scale cells) c)) category ∙ ends.near in
        let far : result_ok (place_in_band_of (x_scale cells) (d.cell form.x) whole) ≡ Some (option_map (λ x. x +ℤ w) ends.x) =
        ap (λ c. result_ok (place_in_band_of (x_scale cells) c whole)) category ∙ ends.far in
        let y : result_ok (place_of (y_scale (pos 0, pos n)) (d.cell form.y)) ≡ Some (Some end) =
        ap (λ c. result_ok (place_of (y_scale (pos 0, pos n)) c)) amount ∙ height_at r is.end_known in
        let bar : IsBar cells n r = record { x = ends.x; x_known = ends.near; end_known = is.end_known } in
        item_shown d
        ∙ (λ i. item_by (along i) (upward i) d)
        ∙ (λ i. item_over d.key (span_by (x i) (far i)) (span_by (y i) (Some (Some b))))
        ∙ (λ i. item_over d.key (across_known ends.x w ends.inside some small i) (down_known end b (base_within n) is.end_known i))
        ∙ same_item d.key r.id ends.x w end b key
        ∙ sym (bar_drawn cells n r bar)

-- ---- rows as they are read

-- the cells of a name
abbrev pub column : List ℕ → List Datum → List Cell
column name rows = map (λ (row : Datum). row.cell name) rows

module _ (x y : List ℕ) (apart : x ≢ y) where
  -- the row of a value
  abbrev datum : ℕ × Value → Datum
  datum v = datum_of (value_row x y v)

  category_is : (v : ℕ × Value) → (datum v).cell x ≡ category_of x v
  category_is v = by_names (bytes_eq x id_name) (bytes_eq y id_name) refl refl
    where
      by_names : (b c : Bool) → bytes_eq x id_name ≡ b → bytes_eq y id_name ≡ c → (datum v).cell x ≡ category_of x v
      by_names true c p q = rw p refl
      by_names false true p q = rw (p, q) (what_is_set_is_read empty x (Text v.1.category))
      by_names false false p q =
          let set = insert empty x (Text v.1.category) in
          let read : cell_of (insert set y (Number v.1.amount)) x ≡ Text v.1.category =
          ap (λ o. unwrap_or o Null) (other_names_stay set y (Number v.1.amount) x apart)
          ∙ what_is_set_is_read empty x (Text v.1.category) in
          rw (p, q) read

  amount_is : (v : ℕ × Value) → (datum v).cell y ≡ Number (amount_of y v)
  amount_is v = by_names (bytes_eq x id_name) (bytes_eq y id_name) refl refl
    where
      by_names : (b c : Bool) → bytes_eq x id_name ≡ b → bytes_eq y id_name ≡ c → (datum v).cell y ≡ Number (amount_of y v)
      by_names b true p q = rw q refl
      by_names true false p q = rw (p, q) (what_is_set_is_read empty y (Number v.1.amount))
      by_names false false p q = rw (p, q) (what_is_set_is_read (insert empty x (Text v.1.category)) y (Number v.1.amount))

  abbrev pub rows : List (ℕ × Value) → List Datum
  rows vs = map datum_of (map (value_row x y) vs)

  abbrev pub readings : List (ℕ × Value) → List Reading
  readings vs = map (reading_of x y) vs

  pub categories : (vs : List (ℕ × Value)) → column x (rows vs) ≡ map (λ (r : Reading). r.category) (readings vs)
  categories [] = refl
  categories (v ∷ vs) = λ i. category_is v i ∷ categories vs i

  pub amounts : (vs : List (ℕ × Value)) → filter_map the_number (column y (rows vs)) ≡ amounts_of (readings vs)
  amounts [] = refl
  amounts (v ∷ vs) =
      ap (λ c. filter_map the_number (c ∷ column y (rows vs))) (amount_is v) ∙ ap (λ ns. amount_of y v ∷ ns) (amounts vs)

-- ---- the items of all rows

pub items_known : (form : FirstForm) (cells : List Cell) (n : ℕ) → length cells ≤ 1000 → (plot : InPlot) → plot.scale 0 ≡ x_scale cells
    → plot.scale 1 ≡ y_scale (pos 0, pos n) → form.x ≢ form.y → (vs : List (ℕ × Value)) → All (IsBar cells n) (map (reading_of form.x form.y) vs)
    → map (item_at plot 0 (form_mark form)) (map datum_of (map (value_row form.x form.y) vs))
    ≡ map (bar_of (x_scale cells) (pos 0, pos n)) (map (reading_of form.x form.y) vs)
items_known form cells n few plot along upward apart [] all = refl
items_known form cells n few plot along upward apart (v ∷ vs) all =
    let r = reading_of form.x form.y v in
    let others = map (reading_of form.x form.y) vs in
    let first = item_known form cells n few plot along upward (datum form.x form.y apart v) r refl (category_is form.x form.y apart v)
    (amount_is form.x form.y apart v) (All-head (IsBar cells n) r others all) in
    let rest = items_known form cells n few plot along upward apart vs (All-tail (IsBar cells n) r others all) in
    λ i. first i ∷ rest i
