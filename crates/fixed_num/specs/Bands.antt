-- The steps and the space of bands, in millionths of a step. The number of bands and the paddings are such millionths too.
use Rattle.std.specs.Prelude.{◌≡◌, refl, ℤ, pos, ◌+ℤ◌, ◌-ℤ◌, ◌*ℤ◌, int_lt, if◌then◌else◌}
use Rattle.std.specs.Ordering.{int_eq}
use Rattle.fixed_num.specs.Number.{million}

-- one step for each band, less the padding between bands, and with the outer one at both ends
abbrev pub steps_of : ℤ → ℤ → ℤ → ℤ
steps_of count inner outer = count -ℤ inner +ℤ pos 2 *ℤ outer

-- the space that so many bands take: none without a band, and else their steps, or one step where those aren't positive
abbrev pub space_of : ℤ → ℤ → ℤ → ℤ
space_of count inner outer =
    if int_eq count (pos 0) then pos 0
    else (if int_lt (pos 0) (steps_of count inner outer) then steps_of count inner outer else pos million)

-- The rules at work.

three_bands : space_of (pos 3000000) (pos 100000) (pos 50000) ≡ pos 3000000
three_bands = refl

no_band : space_of (pos 0) (pos 100000) (pos 50000) ≡ pos 0
no_band = refl

one_band_that_is_all_padding : space_of (pos 1000000) (pos 1000000) (pos 0) ≡ pos 1000000
one_band_that_is_all_padding = refl
