-- Why the places of bars are in range.
use Rattle.std.proofs.Common.{◌≡◌, ℕ, zero, suc, ◌+◌, ◌*◌, ◌<◌, ◌≤◌, ◌==◌, ℤ, pos, ◌+ℤ◌, ◌-ℤ◌, ◌*ℤ◌, ◌≤ℤ◌, int_lt, Bool, true, false}
use Rattle.std.proofs.Common.{if◌then◌else◌, Option, Some, None, List, length, unsigned_abs, arith, refl, ap, subst, ◌∙◌}
use Rattle.std.specs.Prelude.{IfSome}
use Rattle.std.specs.Option.{option_map, ok_or}
use Rattle.std.specs.Result.{result_ok}
use Rattle.std.specs.Ordering.{int_eq}
use Rattle.std.specs.List.{position_or_len}
use Rattle.std.proofs.lemmas.Int.{ints}
use Rattle.std.proofs.lemmas.Bool.Decides.{nat_tests}
use Rattle.fixed_num.specs.Number.{million, IsNumber, rounded, floor_quotient}
use Rattle.fixed_num.specs.Ranges.{in_range}
use Rattle.fixed_num.specs.Bands.{steps_of, space_of}
use Rattle.cell_value.specs.declared.cell.Cell.{Cell}
use Rattle.cell_value.specs.Cell.{same_cells}
use Rattle.scale_kit.specs.declared.scale.Overflow.{Overflow}
use Rattle.scale_kit.specs.declared.bands.Bands.{Bands}
use Rattle.scale_kit.specs.Bands.{place_of_band, width_of_band}
use Rattle.scale_kit.specs.Lines.{place_of_number}
use Rattle.scale_kit.specs.Places.{place_of, reached_place, base_of}
use Rattle.first_form.specs.Bars.{plot_width, plot_height, x_scale, y_scale}
use Rattle.first_form.proofs.RangeLemmas.{in_range_at_number, rounded_multiple, rounded_within}

-- with these paddings a band takes one step
steps_usual : (n : ℕ) → steps_of (pos (n * million)) (pos 100000) (pos 50000) ≡ pos (n * million)
steps_usual n = omega (arith, ints)

pub space_usual : (n : ℕ) → space_of (pos (n * million)) (pos 100000) (pos 50000) ≡ pos (n * million)
space_usual zero = refl
space_usual (suc n) =
    let some : int_eq (pos (suc n * million)) (pos 0) ≡ false = grind (arith, ints) in
    let yes : int_lt (pos 0) (pos (suc n * million)) ≡ true = grind (arith, ints) in
    rw (some, steps_usual (suc n), yes) refl

-- the width of a plot of bands that are not too many
pub width_usual : (n : ℕ) → n ≤ 1000 → plot_width n ≡ pos (20 * (n * million))
width_usual n few = rw (space_usual n) (grind (arith, ints))

-- a number in range is reached
reached : (z : ℤ) → IsNumber z → result_ok (reached_place (Some z)) ≡ Some (Some z)
reached z within = ap (λ o. result_ok {E = Overflow} (ok_or (option_map Some o) (record {}))) (in_range_at_number z within)

-- the bands of so many categories
abbrev pub usual_bands : ℕ → Bands
usual_bands n = record { count = n; inner = pos 100000; outer = pos 50000; r0 = pos 0; r1 = plot_width n }

band_place_at : (z w p : ℤ) (s j : ℕ) (other middle : ℤ) → z ≡ pos s → 0 < s → w ≡ pos (20 * s) → p ≡ pos j
    → (if int_lt (pos 0) z then pos 0 +ℤ rounded ((w -ℤ pos 0) *ℤ (if int_lt w (pos 0) then other else p)) (unsigned_abs z) else middle)
    ≡ pos (20 * j)
band_place_at z w p s j other middle steps some wide part =
    let yes : int_lt (pos 0) (pos s) ≡ true = grind (arith, ints) in
    let no : int_lt (pos (20 * s)) (pos 0) ≡ false = grind (arith, ints) in
    let product : (pos (20 * s) -ℤ pos 0) *ℤ pos j ≡ pos (20 * j * s) = omega (arith, ints) in
    let same : pos 0 +ℤ pos (20 * j) ≡ pos (20 * j) = omega (arith, ints) in
    rw (steps, wide, part, yes, no) (ap (λ x. pos 0 +ℤ x) (rounded_multiple (20 * j) s _ some product) ∙ same)

-- each band has its place
band_place : (n index : ℕ) → index < n → n ≤ 1000 → place_of_band (usual_bands n) index ≡ pos (20 * (50000 + index * million))
band_place n index h few =
    let part : pos 50000 +ℤ pos (index * million) ≡ pos (50000 + index * million) = omega (arith, ints) in
    band_place_at (steps_of (pos (n * million)) (pos 100000) (pos 50000)) (plot_width n) (pos 50000 +ℤ pos (index * million)) (n * million)
    (50000 + index * million) _ _ (steps_usual n) (omega arith) (width_usual n few) part

-- a band of a plot has a width
pub record IsWidth (z : ℤ) : Type 0 where
  pub width : ℕ
  pub is : z ≡ pos width
  pub small : width ≤ 18 * million

band_width_at : (z w : ℤ) (s : ℕ) → z ≡ pos s → 0 < s → w ≡ pos (20 * s)
    → (if int_lt (pos 0) z then rounded (pos (unsigned_abs (w -ℤ pos 0)) *ℤ (pos million -ℤ pos 100000)) (unsigned_abs z) else pos 0)
    ≡ pos (18 * million)
band_width_at z w s steps some wide =
    let yes : int_lt (pos 0) (pos s) ≡ true = grind (arith, ints) in
    let size : unsigned_abs (pos (20 * s) -ℤ pos 0) ≡ 20 * s = omega (arith, ints) in
    let product : pos (20 * s) *ℤ (pos million -ℤ pos 100000) ≡ pos (18 * million * s) = omega (arith, ints) in
    rw (steps, wide, yes, size) (rounded_multiple (18 * million) s _ some product)

pub width_known : (n : ℕ) → n ≤ 1000 → IsWidth (width_of_band (usual_bands n))
width_known zero few = record { width = 0; is = refl; small = omega arith }
width_known (suc n) few =
    let some : (suc n == 0) ≡ false = grind (arith, nat_tests) in
    let known = band_width_at (steps_of (pos (suc n * million)) (pos 100000) (pos 50000)) (plot_width (suc n)) (suc n * million)
    (steps_usual (suc n)) (omega arith) (width_usual (suc n) few) in
    record { width = 18 * million; is = rw some known; small = omega arith }

-- a cell has its place, if any, and that is in range
entry_placed : (n index : ℕ) (b : Bool) → (b ≡ true → index < n) → n ≤ 1000
    → (x : Option ℤ) × (result_ok (reached_place (option_map (place_of_band (usual_bands n)) (if b then Some index else None))) ≡ Some x)
    × IfSome x IsNumber
entry_placed n index true below few =
    let within : IsNumber (pos (20 * (50000 + index * million))) = (omega (arith, ints), omega (arith, ints, below refl)) in (
      Some (pos (20 * (50000 + index * million))),
      ap (λ z. result_ok (reached_place (Some z))) (band_place n index (below refl) few)
          ∙ reached (pos (20 * (50000 + index * million))) within,
      within,
    )
entry_placed n index false below few = (None, refl, tt)

pub placed : (domain : List Cell) (cell : Cell) → length domain ≤ 1000
    → (x : Option ℤ) × (result_ok (place_of (x_scale domain) cell) ≡ Some x) × IfSome x IsNumber
placed domain cell few =
    entry_placed (length domain) (position_or_len (same_cells cell) domain) _ (λ test. grind (arith, nat_tests)) few

-- a place within the height of the plot
pub record IsPlace (z : ℤ) : Type 0 where
  pub low : pos 0 ≤ℤ z
  pub high : z ≤ℤ plot_height

-- the place of an amount over a nice domain that ends at n
abbrev pub place_to : ℕ → ℤ → ℤ
place_to n amount = place_of_number (pos 0, pos n) (plot_height, pos 0) amount

middle_within : IsPlace (place_to 0 (pos 0))
unfolding rounded floor_quotient
middle_within = record { low = omega (arith, ints); high = omega (arith, ints) }

pub place_within : (n v : ℕ) → v ≤ n → IsPlace (place_to n (pos v))
place_within zero v h = let none : 0 ≡ v = omega arith in subst (λ k. IsPlace (place_to 0 (pos k))) none middle_within
place_within (suc n) v h =
    let down = (pos v -ℤ pos 0) *ℤ (pos 0 -ℤ plot_height) in
    let span = unsigned_abs (pos (suc n) -ℤ pos 0) in
    let bounds = rounded_within down 200000000 span (omega (arith, ints)) (omega (arith, ints)) (omega (arith, ints)) in
    let yes : int_lt (pos 0) (pos (suc n)) ≡ true = grind (arith, ints) in
    let place : IsPlace (plot_height +ℤ rounded down span) = record { low = omega (arith, ints); high = omega (arith, ints) } in
    rw yes place

pub base_within : (n : ℕ) → IsPlace (base_of (y_scale (pos 0, pos n)))
base_within n = either _
  where
    either : (b : Bool) → IsPlace (if b then place_to n (pos 0) else plot_height)
    either true = place_within n 0 (omega arith)
    either false = record { low = omega (arith, ints); high = omega (arith, ints) }

-- a place is in range
pub place_in_range : (z : ℤ) → IsPlace z → in_range z ≡ Some z
place_in_range z is = let within : IsNumber z = (omega (arith, ints), omega (arith, ints)) in in_range_at_number z within
