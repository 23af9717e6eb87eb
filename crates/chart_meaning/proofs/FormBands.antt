-- Where the band of a cell begins and ends in the plot of a form.
use Rattle.std.proofs.Common.{◌≡◌, ℕ, ◌+◌, ◌*◌, ◌<◌, ◌≤◌, ℤ, pos, ◌+ℤ◌, ◌-ℤ◌, ◌*ℤ◌, ◌≤ℤ◌, int_lt, Bool, true, false, if◌then◌else◌, Option}
use Rattle.std.proofs.Common.{Some, None, List, length}
use Rattle.std.proofs.Common.{unsigned_abs, arith, refl, sym, ap, ◌∙◌}
use Rattle.std.specs.Prelude.{IfSome}
use Rattle.std.specs.List.{position_or_len}
use Rattle.std.specs.Option.{option_map, ok_or}
use Rattle.std.specs.Result.{result_ok}
use Rattle.std.proofs.lemmas.Int.{ints}
use Rattle.std.proofs.lemmas.Bool.Decides.{nat_tests}
use Rattle.fixed_num.specs.Number.{million, IsNumber, rounded}
use Rattle.fixed_num.specs.Ranges.{◌>>=◌, in_range}
use Rattle.fixed_num.specs.Bands.{steps_of}
use Rattle.cell_value.specs.declared.cell.Cell.{Cell}
use Rattle.cell_value.specs.Cell.{same_cells}
use Rattle.scale_kit.specs.declared.scale.Overflow.{Overflow}
use Rattle.scale_kit.specs.Bands.{place_of_band, width_of_band, widths_of_band}
use Rattle.scale_kit.specs.Places.{domain_index, place_of, place_in_band_of, reached_place, reached_on_band}
use Rattle.first_form.specs.Bars.{plot_width, x_scale}
use Rattle.first_form.proofs.RangeLemmas.{in_range_at_number, rounded_multiple}
use Rattle.first_form.proofs.PlaceLemmas.{usual_bands, width_usual, width_known}

-- ---- where a band begins

-- in the plot of a form a band takes one step, and the first begins half a tenth of one behind the left end
abbrev beginning : ℕ → ℕ
beginning index = 20 * (50000 + index * million)

steps_usual : (n : ℕ) → steps_of (pos (n * million)) (pos 100000) (pos 50000) ≡ pos (n * million)
steps_usual n = omega (arith, ints)

begins_at : (z w p : ℤ) (s j : ℕ) (other middle : ℤ) → z ≡ pos s → 0 < s → w ≡ pos (20 * s) → p ≡ pos j
    → (if int_lt (pos 0) z then pos 0 +ℤ rounded ((w -ℤ pos 0) *ℤ (if int_lt w (pos 0) then other else p)) (unsigned_abs z) else middle)
    ≡ pos (20 * j)
begins_at z w p s j other middle steps some wide part =
    let yes : int_lt (pos 0) (pos s) ≡ true = grind (arith, ints) in
    let no : int_lt (pos (20 * s)) (pos 0) ≡ false = grind (arith, ints) in
    let product : (pos (20 * s) -ℤ pos 0) *ℤ pos j ≡ pos (20 * j * s) = omega (arith, ints) in
    let same : pos 0 +ℤ pos (20 * j) ≡ pos (20 * j) = omega (arith, ints) in
    rw (steps, wide, part, yes, no) (ap (λ x. pos 0 +ℤ x) (rounded_multiple (20 * j) s _ some product) ∙ same)

begins : (n index : ℕ) → index < n → n ≤ 1000 → place_of_band (usual_bands n) index ≡ pos (beginning index)
begins n index h few =
    let part : pos 50000 +ℤ pos (index * million) ≡ pos (50000 + index * million) = omega (arith, ints) in
    begins_at (steps_of (pos (n * million)) (pos 100000) (pos 50000)) (plot_width n) (pos 50000 +ℤ pos (index * million)) (n * million)
    (50000 + index * million) _ _ (steps_usual n) (omega arith) (width_usual n few) part

-- ---- where it ends

-- the width of the bands of so many categories
abbrev pub width_for : ℕ → ℤ
width_for n = width_of_band (usual_bands n)

one_width : (n : ℕ) → n ≤ 1000 → widths_of_band (usual_bands n) (pos million) ≡ width_for n
one_width n few =
    let w = width_known n few in
    let product : pos million *ℤ pos w.width ≡ pos (w.width * million) = omega (arith, ints) in
    ap (λ z. rounded (pos million *ℤ z) million) w.is ∙ rounded_multiple w.width million _ (omega arith) product ∙ sym w.is

-- a place that is reached
reached : (z : ℤ) → IsNumber z → result_ok {E = Overflow} (ok_or (option_map Some (in_range z)) (record {})) ≡ Some (Some z)
reached z within = ap (λ o. result_ok {E = Overflow} (ok_or (option_map Some o) (record {}))) (in_range_at_number z within)

-- from its beginning on, by its width
abbrev far_of : ℕ → ℤ → ℤ
far_of n x = x +ℤ width_for n

-- What is known of the band of an index: both ends, and that its beginning is in the plot.
pub record Ends (n : ℕ) (index : Option ℕ) : Type 0 where
  pub x : Option ℤ
  pub near : result_ok (reached_place (option_map (place_of_band (usual_bands n)) index)) ≡ Some x
  pub far : result_ok (reached_on_band (usual_bands n) (pos million) index) ≡ Some (option_map (far_of n) x)
  pub inside : IfSome x (λ x. (pos 0 ≤ℤ x) × (x ≤ℤ pos (20 * (1001 * million))))

-- the end of a band that begins there
abbrev end_from : ℤ → Option ℤ → Option (Option ℤ)
end_from x way = result_ok {E = Overflow} (ok_or (option_map Some (way >>= λ way. in_range (x +ℤ way))) (record {}))

ends_from : (n index : ℕ) → index < n → n ≤ 1000 → Ends n (Some index)
ends_from n index below few =
    let w = width_known n few in
    let x = pos (beginning index) in
    let begun : IsNumber x = (omega (arith, ints), omega (arith, ints, below)) in
    let wide : IsNumber (width_for n) = rw w.is (omega (arith, ints, w.small), omega (arith, ints, w.small)) in
    let ended : IsNumber (far_of n x) = rw w.is (omega (arith, ints, w.small, below), omega (arith, ints, w.small, below)) in
    record {
      x = Some x;
      near = ap (λ z. result_ok {E = Overflow} (reached_place (Some z))) (begins n index below few) ∙ reached x begun;
      far = ap (λ z. end_from z (in_range (widths_of_band (usual_bands n) (pos million)))) (begins n index below few)
          ∙ ap (λ z. end_from x (in_range z)) (one_width n few)
          ∙ ap (end_from x) (in_range_at_number (width_for n) wide)
          ∙ reached (far_of n x) ended;
      inside = (omega (arith, ints), omega (arith, ints, below));
    }

ends_if : (n index : ℕ) (b : Bool) → (b ≡ true → index < n) → n ≤ 1000 → Ends n (if b then Some index else None)
ends_if n index true below few = ends_from n index (below refl) few
ends_if n index false below few = record { x = None; near = refl; far = refl; inside = tt }

-- Of a cell of the domain, or one that isn't there.
pub record CellEnds (cells : List Cell) (cell : Cell) : Type 0 where
  pub x : Option ℤ
  pub near : result_ok (place_of (x_scale cells) cell) ≡ Some x
  pub far : result_ok (place_in_band_of (x_scale cells) cell (pos million)) ≡ Some (option_map (far_of (length cells)) x)
  pub inside : IfSome x (λ x. (pos 0 ≤ℤ x) × (x ≤ℤ pos (20 * (1001 * million))))

pub ends_of : (cells : List Cell) (cell : Cell) → length cells ≤ 1000 → CellEnds cells cell
ends_of cells cell few =
    let ends : Ends (length cells) (domain_index (x_scale cells) cell) =
    ends_if (length cells) (position_or_len (same_cells cell) cells) _ (λ test. grind (arith, nat_tests)) few in
    record { x = ends.x; near = ends.near; far = ends.far; inside = ends.inside }
