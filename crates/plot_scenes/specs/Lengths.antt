-- Lengths at plots, in millionths of a pixel.
use Rattle.std.specs.Prelude.{◌≡◌, refl, ◌-◌, ℤ}
use Rattle.std.specs.Int.{int_min}
use Rattle.guide_text.specs.Widths.{greatest_size}
use Rattle.guide_kit.specs.Measures.{pixels, plus}

-- the sum of two extents at one side of a plot, cut to 10^11 pixels
abbrev pub beyond : ℤ → ℤ → ℤ
beyond a b = int_min (plus a b) (pixels greatest_size)

-- the space between the content and its legends, and between legends
abbrev pub gap : ℤ
gap = pixels 18

-- the space that a title takes above
abbrev pub title_space : ℤ
title_space = pixels 23

-- ---- worked examples

extents_are_cut : (beyond (pixels 28) (pixels 23) ≡ pixels 51)
    × (beyond (pixels (greatest_size - 1)) (pixels 2) ≡ pixels greatest_size)
unfolding plus
extents_are_cut = (refl, refl)
