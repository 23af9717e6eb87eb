-- Bands: steps of equal size along a range, each with a band and inner padding, and outer padding at both ends.
use Rattle.std.specs.Prelude.{◌≡◌, refl, ℕ, ◌+◌, ◌*◌, ◌==◌, ℤ, pos, neg_ℤ, ◌+ℤ◌, ◌-ℤ◌, ◌*ℤ◌, int_lt, unsigned_abs, Option, Some, None}
use Rattle.std.specs.Prelude.{if◌then◌else◌}
use Rattle.std.specs.Ordering.{int_eq}
use Rattle.fixed_num.specs.Number.{million, rounded, floor_quotient}
use Rattle.fixed_num.specs.Ranges.{◌>>=◌, in_range}
use Rattle.fixed_num.specs.Bands.{steps_of}
use Rattle.scale_kit.specs.declared.bands.Bands.{Bands}
use Rattle.scale_kit.specs.Scale.{IsPadding, IsRange}
use Rattle.scale_kit.specs.Lines.{middle}

-- what is asked of bands: paddings from 0 to 1, and a range from 0 to 10^11
abbrev pub AreBands : Bands → Type 0
AreBands b = IsPadding b.inner × IsPadding b.outer × IsRange (b.r0, b.r1)

-- the steps of the bands, in millionths of one
abbrev pub band_steps : Bands → ℤ
band_steps b = steps_of (pos (b.count * million)) b.inner b.outer

-- as far along the range as `part` is along `whole`; the middle where the steps aren't positive
abbrev pub along_bands : Bands → ℤ → ℤ → ℤ
along_bands b part whole =
    if int_lt (pos 0) (band_steps b)
    then b.r0 +ℤ rounded ((b.r1 -ℤ b.r0) *ℤ part) (unsigned_abs whole)
    else middle (b.r0, b.r1)

-- how many millionths of a step a band begins, and ends, after the beginning of the range
abbrev pub band_beginning : Bands → ℕ → ℤ
band_beginning b index = b.outer +ℤ pos (index * million)

abbrev pub band_end : Bands → ℕ → ℤ
band_end b index = b.outer +ℤ pos ((index + 1) * million) -ℤ b.inner

-- the place of a band, its lesser end: it begins there, or it ends there where the range goes down
abbrev pub place_of_band : Bands → ℕ → ℤ
place_of_band b index = along_bands b (if int_lt b.r1 b.r0 then band_end b index else band_beginning b index) (band_steps b)

-- the centre of a band, halfway from its beginning to its end
abbrev pub centre_of_band : Bands → ℕ → ℤ
centre_of_band b index = along_bands b (band_beginning b index +ℤ band_end b index) (pos 2 *ℤ band_steps b)

-- the width of a band; nothing without a band, or where the steps aren't positive
abbrev pub width_of_band : Bands → ℤ
width_of_band b =
    if b.count == 0 then pos 0
    else (if int_lt (pos 0) (band_steps b)
    then rounded (pos (unsigned_abs (b.r1 -ℤ b.r0)) *ℤ (pos million -ℤ b.inner)) (unsigned_abs (band_steps b))
    else pos 0)

-- how far so many widths of a band are
abbrev pub widths_of_band : Bands → ℤ → ℤ
widths_of_band b share = rounded (share *ℤ width_of_band b) million

-- The place on a band: its centre for one half; else so many widths from its lesser end. It is None where those widths are out of range by
-- themselves, and where the place is.
abbrev pub place_on_band : Bands → ℕ → ℤ → Option ℤ
place_on_band b index share =
    if int_eq share (pos 500000) then Some (centre_of_band b index)
    else (in_range (widths_of_band b share) >>= λ way. in_range (place_of_band b index +ℤ way))

-- The rules at work.

-- three bands over 60 pixels, and the same over 60 pixels down to 0
abbrev three_bands : Bands
three_bands = record { count = 3; inner = pos 100000; outer = pos 50000; r0 = pos 0; r1 = pos (60 * million) }

abbrev three_bands_down : Bands
three_bands_down = record { count = 3; inner = pos 100000; outer = pos 50000; r0 = pos (60 * million); r1 = pos 0 }

the_third_band : (place_of_band three_bands 2 ≡ pos (41 * million)) × (centre_of_band three_bands 2 ≡ pos (50 * million))
unfolding rounded floor_quotient
the_third_band = (refl, refl)

the_third_band_down : (place_of_band three_bands_down 2 ≡ pos (1 * million)) × (centre_of_band three_bands_down 2 ≡ pos (10 * million))
unfolding rounded floor_quotient
the_third_band_down = (refl, refl)

the_width : (width_of_band three_bands ≡ pos (18 * million)) × (width_of_band three_bands_down ≡ pos (18 * million))
unfolding rounded floor_quotient
the_width = (refl, refl)

-- one band that is all padding
abbrev all_padding : Bands
all_padding = record { count = 1; inner = pos million; outer = pos 0; r0 = pos (20 * million); r1 = pos (60 * million) }

all_padding_is_in_the_middle : (place_of_band all_padding 0 ≡ pos (40 * million)) × (centre_of_band all_padding 0 ≡ pos (40 * million))
    × (width_of_band all_padding ≡ pos 0)
unfolding rounded floor_quotient
all_padding_is_in_the_middle = (refl, refl, refl)

-- no band has no width, whatever its padding
no_band : width_of_band (record { count = 0; inner = pos 0; outer = pos 500000; r0 = pos 0; r1 = pos (60 * million) }) ≡ pos 0
no_band = refl

-- on a band: its lesser end, its centre and a quarter of its width
on_the_first_band : (place_on_band three_bands 0 (pos 0) ≡ Some (pos (1 * million)))
    × (place_on_band three_bands 0 (pos 500000) ≡ Some (pos (10 * million)))
    × (place_on_band three_bands 0 (pos 250000) ≡ Some (pos 5500000))
unfolding rounded floor_quotient
on_the_first_band = (refl, refl, refl)

-- two bands of 10 pixels each
abbrev two_wide_bands : Bands
two_wide_bands = record { count = 2; inner = pos 0; outer = pos 0; r0 = pos 0; r1 = pos (20 * million) }

-- From the second band 10^14 widths back lead to a number. Half a width further the widths are out of range, though the place is not.
far_from_the_second_band : (place_on_band two_wide_bands 1 (neg_ℤ (pos 100000000000000000000)) ≡ Some (neg_ℤ (pos 999999999999990000000)))
    × (place_on_band two_wide_bands 1 (neg_ℤ (pos 100000000000000500000)) ≡ None)
unfolding rounded floor_quotient
far_from_the_second_band = (refl, refl)
