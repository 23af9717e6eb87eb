-- Lengths: whole counts of millionths of a pixel, from 0.
use Rattle.std.specs.Prelude.{◌≡◌, refl, ℕ, ◌+◌, ◌-◌, ◌*◌, min, ℤ, pos, negsuc, Bool, true, if◌then◌else◌}
use Rattle.fixed_num.specs.Number.{limit, million}

-- a sum of lengths, which is cut at 10^15 pixels
abbrev pub plus : ℕ → ℕ → ℕ
plus a b = min (a + b) limit

-- a number as a length; below 0 there is none
abbrev pub length_of : ℤ → ℕ
length_of (pos n) = n
length_of (negsuc n) = 0

-- a length as a number, which is cut at 10^15 pixels
abbrev pub number_of : ℕ → ℤ
number_of n = pos (min n limit)

-- how high the title of a grid is
abbrev pub title_height : Bool → ℕ
title_height title = if title then 23 * million else 0

-- The rules at work.

a_sum_of_lengths : plus 50 40 ≡ 90
a_sum_of_lengths = refl

a_sum_that_is_cut : plus (limit - 1) 2 ≡ limit
a_sum_that_is_cut = refl

the_title_is_high : title_height true ≡ 23000000
the_title_is_high = refl
