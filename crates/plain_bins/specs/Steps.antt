-- How wide bins are. Numbers, spans and widths are counts of millionths.
use Rattle.std.specs.Prelude.{◌≡◌, refl, ℕ, ◌+◌, ◌*◌, ◌^◌, nat_lt, nat_le, ℤ, pos, neg_ℤ, ◌-ℤ◌, unsigned_abs, Option, Some, None}
use Rattle.std.specs.Prelude.{List, [], ◌∷◌, ◌++◌, find, flat_map, if◌then◌else◌}
use Rattle.std.specs.List.{range_with_len}
use Rattle.std.specs.Option.{option_map}
use Rattle.fixed_num.specs.Number.{limit, million}
use Rattle.plain_rows.specs.declared.transforms.BinOf.{BinOf}

-- a count, or another where it is 0
abbrev pub positive_or : ℕ → ℕ → ℕ
positive_or count other = if nat_lt 0 count then count else other

-- how far bins have to reach: from the least number to the greatest, or where that is 0 as far as it is from 0, or 1
abbrev pub span_of : ℤ → ℤ → ℕ
span_of low high = positive_or (unsigned_abs (high -ℤ low)) (positive_or (unsigned_abs low) million)

-- 1, 2 and 5 times a power of ten
abbrev pub steps_at : ℕ → List ℕ
steps_at k = 10 ^ k ∷ 2 * 10 ^ k ∷ 5 * 10 ^ k ∷ []

-- the widths in range: 1, 2, 5, 10, 20, 50, .. up to the greatest number
abbrev pub bin_steps : List ℕ
bin_steps = flat_map steps_at (range_with_len 0 21) ++ limit ∷ []

-- the least width of which so many bins reach over a span; none where it is out of range
abbrev pub step_for : ℕ → ℕ → Option ℕ
step_for span maxbins = find (λ step. nat_le span (maxbins * step)) bin_steps

-- the width of bins: the given one, or else the least
abbrev pub step_or : Option ℤ → ℕ → ℕ → Option ℤ
step_or (Some step) span maxbins = Some step
step_or None span maxbins = option_map pos (step_for span maxbins)

abbrev pub step_of : BinOf → ℤ → ℤ → Option ℤ
step_of b low high = step_or b.step (span_of low high) b.maxbins

-- The rules at work.

ten_bins_of_one : step_for (10 * million) 10 ≡ Some million
ten_bins_of_one = refl

ten_bins_of_two : step_for (10 * million + 1) 10 ≡ Some (2 * million)
ten_bins_of_two = refl

at_least_a_millionth : step_for 1 10 ≡ Some 1
at_least_a_millionth = refl

one_bin_that_is_too_wide : step_for (limit + 1) 1 ≡ None
one_bin_that_is_too_wide = refl

two_bins_of_the_greatest_width : step_for (2 * limit) 2 ≡ Some limit
two_bins_of_the_greatest_width = refl

one_number_is_as_far_as_it_is_from_zero : span_of (neg_ℤ (pos 7)) (neg_ℤ (pos 7)) ≡ 7
one_number_is_as_far_as_it_is_from_zero = refl

zero_alone_is_one_wide : span_of (pos 0) (pos 0) ≡ million
zero_alone_is_one_wide = refl
