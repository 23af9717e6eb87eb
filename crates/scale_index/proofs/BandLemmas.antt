-- Places on bands, by the places of their ends.
use Rattle.std.proofs.Common.{◌≡◌, ℕ, ℤ, pos, ◌+ℤ◌, Bool, true, false, cond, length, Option, Some, None, Result, Ok, ok_or, option_map, refl, sym, ap, ◌∙◌}
use Rattle.std.specs.Ordering.{int_eq}
use Rattle.std.specs.Cmp.{signed_Decides}
use Rattle.std.specs.Prelude.{neg_ℤ, int_lt, position}
use Rattle.fixed_num.specs.Number.{limit, million}
use Rattle.fixed_num.specs.Ranges.{◌>>=◌, in_range}
use Rattle.cell_value.specs.declared.cell.Cell.{Cell}
use Rattle.cell_value.specs.Cell.{same_cells}
use Rattle.scale_kit.specs.declared.bands.Bands.{Bands}
use Rattle.scale_kit.specs.declared.scale.Overflow.{Overflow}
use Rattle.scale_kit.specs.declared.scale.Scale.{Scale}
use Rattle.scale_kit.specs.declared.scale.Scale.TheVariants.{Linear, Time, Band, Point, Ordinal, Ramp}
use Rattle.scale_kit.specs.Scale.{HasBands}
use Rattle.scale_kit.specs.Bands.{place_of_band, centre_of_band, width_of_band, widths_of_band, place_on_band}
use Rattle.scale_kit.specs.Places.{reached_place, reached_on_band, place_of, place_in_band_of, band_width_of}
use Rattle.scale_index.specs.inner.Known.{place_after}

-- a place as an answer
abbrev pub answered : Option ℤ → Result (Option ℤ) Overflow
answered place = ok_or (option_map Some place) (record {})

-- a number that is in range is the one that was asked
in_range_is : (z p : ℤ) → in_range z ≡ Some p → z ≡ p
in_range_is z p = by_tests (int_lt z (neg_ℤ (pos limit))) (int_lt (pos limit) z)
  where
    by_tests : (below above : Bool) → cond below None (cond above None (Some z)) ≡ Some p → z ≡ p
    by_tests true above e = absurd (cc)
    by_tests false true e = absurd (cc)
    by_tests false false e = cc

place_is : (found : Option ℤ) (z p : ℤ) → (found ≡ Some p → z ≡ p) → answered found ≡ Ok (Some p) → z ≡ p
place_is None z p h e = absurd (cc)
place_is (Some q) z p h e = h (cc)

-- a place that is reached is the one that was asked
reached_is : (z p : ℤ) → reached_place (Some z) ≡ Ok (Some p) → z ≡ p
reached_is z p e = place_is (in_range z) z p (in_range_is z p) e

-- the place on a band, from that of its end
from_end : (b : Bands) (index : Option ℕ) (end share : ℤ) → reached_place (option_map (place_of_band b) index) ≡ Ok (Some end)
    → int_eq share (pos 500000) ≡ false
    → answered (place_after end (width_of_band b) share) ≡ reached_on_band b share index
from_end b None end share e aside = absurd (cc)
from_end b (Some k) end share e aside =
    let after : Option ℤ = in_range (widths_of_band b share) >>= λ way. in_range (place_of_band b k +ℤ way) in
    let moved : place_after end (width_of_band b) share ≡ after =
    ap (λ z. in_range (widths_of_band b share) >>= λ way. in_range (z +ℤ way)) (sym (reached_is (place_of_band b k) end e)) in
    let aside_is : after ≡ place_on_band b k share = ap (λ t. cond t (Some (centre_of_band b k)) after) (sym aside) in
    ap answered (moved ∙ aside_is)

-- the place of a cell on its band, from its place
pub from_place : (s : Scale) (v : Cell) (end width share : ℤ) → HasBands s → Ok (Some end) ≡ place_of s v → width ≡ band_width_of s
    → int_eq share (pos 500000) ≡ false
    → answered (place_after end width share) ≡ place_in_band_of s v share
from_place (Linear d0 d1 r0 r1) v end width share has e w aside = absurd has
from_place (Time d0 d1 r0 r1) v end width share has e w aside = absurd has
from_place (Band domain inner outer r0 r1) v end width share has e w aside =
    ap (λ n. answered (place_after end n share)) w
    ∙ from_end (record { count = length domain; inner = inner; outer = outer; r0 = r0; r1 = r1 }) (position (same_cells v) domain) end share
    (sym e) aside
from_place (Point domain outer r0 r1) v end width share has e w aside =
    ap (λ n. answered (place_after end n share)) w
    ∙ from_end (record { count = length domain; inner = pos million; outer = outer; r0 = r0; r1 = r1 }) (position (same_cells v) domain) end
    share (sym e) aside
from_place (Ordinal domain range) v end width share has e w aside = absurd has
from_place (Ramp time d0 d1 from to) v end width share has e w aside = absurd has

-- a scale without bands gives the place of a cell, whatever the share
pub without_bands : (s : Scale) (v : Cell) (share : ℤ) → (HasBands s → ⊥) → place_of s v ≡ place_in_band_of s v share
without_bands (Linear d0 d1 r0 r1) v share h = refl
without_bands (Time d0 d1 r0 r1) v share h = refl
without_bands (Band domain inner outer r0 r1) v share h = absurd (h tt)
without_bands (Point domain outer r0 r1) v share h = absurd (h tt)
without_bands (Ordinal domain range) v share h = refl
without_bands (Ramp time d0 d1 from to) v share h = refl

-- a share that is one half
pub half_is : (share : ℤ) → int_eq share (pos 500000) ≡ true → share ≡ pos 500000
half_is share e = (signed_Decides share (pos 500000)).0 e
