-- Sums of places, in millionths of a pixel.
use Rattle.std.specs.Prelude.{◌≡◌, refl, ℕ, ◌*◌, ◌^◌, ℤ, pos, neg_ℤ, ◌+ℤ◌, ◌-ℤ◌}
use Rattle.std.specs.Int.{int_min, int_max}
use Rattle.fixed_num.specs.Number.{limit, million, rounded, floor_quotient}

-- so many pixels
abbrev pub pixels : ℕ → ℤ
pixels n = pos (n * million)

-- the farthest place from zero, in whole pixels
abbrev pub farthest : ℕ
farthest = 10 ^ 15

-- a place cut to 10^15 pixels on both sides of zero
abbrev pub cut_place : ℤ → ℤ
cut_place z = int_max (neg_ℤ (pos limit)) (int_min z (pos limit))

-- the sum of two places
unfoldable pub plus : ℤ → ℤ → ℤ
plus a b = cut_place (a +ℤ b)

-- the difference of two places
unfoldable pub minus : ℤ → ℤ → ℤ
minus a b = cut_place (a -ℤ b)

-- the middle of a size
unfoldable pub half : ℤ → ℤ
half size = rounded size 2

-- ---- worked examples

sums_are_cut : (plus (pixels 8) (pixels 3) ≡ pixels 11) × (plus (pos limit) (pixels 3) ≡ pos limit)
    × (minus (neg_ℤ (pos limit)) (pixels 3) ≡ neg_ℤ (pos limit))
unfolding plus minus
sums_are_cut = (refl, refl, refl)

the_half_of_a_millionth : half (pos 1) ≡ pos 1
unfolding half rounded floor_quotient
the_half_of_a_millionth = refl
