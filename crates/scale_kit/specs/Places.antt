-- Places on scales, in millionths of a pixel.
use Rattle.std.specs.Prelude.{◌≡◌, refl, ℕ, ◌*◌, ◌%◌, ℤ, pos, Option, Some, None, List, [], ◌∷◌, length, position}
use Rattle.std.specs.Prelude.{slice_get, unwrap_or, codes, Result, Ok, Err, if◌then◌else◌}
use Rattle.std.specs.Option.{option_map, option_map_or, ok_or}
use Rattle.fixed_num.specs.Number.{million, limit, rounded, rounded_ratio, floor_quotient}
use Rattle.fixed_num.specs.Ranges.{◌>>=◌, in_range, is_within}
use Rattle.time_calc.specs.Instants.{stands_for_instant}
use Rattle.cell_value.specs.declared.cell.Cell.{Cell}
use Rattle.cell_value.specs.declared.cell.Cell.TheVariants.{Null, Flag, Number, Text, Pair}
use Rattle.cell_value.specs.Cell.{same_cells}
use Rattle.scale_kit.specs.declared.scale.Overflow.{Overflow}
use Rattle.scale_kit.specs.declared.scale.Scale.{Scale}
use Rattle.scale_kit.specs.declared.scale.Scale.TheVariants.{Linear, Time, Band, Point, Ordinal, Ramp}
use Rattle.scale_kit.specs.declared.bands.Bands.{Bands}
use Rattle.scale_kit.specs.Lines.{place_of_number, number_at_place, cut_to}
use Rattle.scale_kit.specs.Bands.{place_of_band, width_of_band, place_on_band}

-- the number in a cell, if it is one
abbrev pub the_number : Cell → Option ℤ
the_number Null = None
the_number (Flag b) = None
the_number (Number n) = Some n
the_number (Text t) = None
the_number (Pair a b) = None

-- the number of an instant in range
abbrev pub in_time : ℤ → Option ℤ
in_time n = if stands_for_instant n then Some n else None

-- the instant in range for which a cell stands, if it is one
abbrev pub the_instant : Cell → Option ℤ
the_instant v = the_number v >>= in_time

-- the cells of a discrete domain; a continuous one lists none
abbrev pub domain_cells : Scale → List Cell
domain_cells (Linear d0 d1 r0 r1) = []
domain_cells (Time d0 d1 r0 r1) = []
domain_cells (Band domain inner outer r0 r1) = domain
domain_cells (Point domain outer r0 r1) = domain
domain_cells (Ordinal domain range) = domain
domain_cells (Ramp time d0 d1 from to) = []

-- where a cell stands first in the domain, counted from 0; None where it isn't there
abbrev pub domain_index : Scale → Cell → Option ℕ
domain_index s v = position (same_cells v) (domain_cells s)

-- the bands of a band scale; those of a point scale are all padding, each a point
abbrev pub bands_of : Scale → Option Bands
bands_of (Linear d0 d1 r0 r1) = None
bands_of (Time d0 d1 r0 r1) = None
bands_of (Band domain inner outer r0 r1) = Some (record { count = length domain; inner = inner; outer = outer; r0 = r0; r1 = r1 })
bands_of (Point domain outer r0 r1) = Some (record { count = length domain; inner = pos million; outer = outer; r0 = r0; r1 = r1 })
bands_of (Ordinal domain range) = None
bands_of (Ramp time d0 d1 from to) = None

-- the entry of a range for an index; past its end the range begins again
abbrev pub entry_at : List Cell → ℕ → Option Cell
entry_at range index = slice_get range (index % length range)

-- the number that a range has for an index, if it has one
abbrev pub entry_number : List Cell → Option ℕ → Option ℤ
entry_number range index = index >>= λ k. entry_at range k >>= the_number

-- The place of a cell, by where it stands in the domain. On a continuous scale a cell that isn't a number, or on a time scale isn't an
-- instant in range, has none; on a discrete one a cell outside the domain has none. The place on an ordinal scale is the number that the
-- range has for the cell, if it has one. A ramp has no places.
abbrev pub exact_place_at : Scale → Cell → Option ℕ → Option ℤ
exact_place_at (Linear d0 d1 r0 r1) v index = option_map (place_of_number (d0, d1) (r0, r1)) (the_number v)
exact_place_at (Time d0 d1 r0 r1) v index = option_map (place_of_number (d0, d1) (r0, r1)) (the_instant v)
exact_place_at (Band domain inner outer r0 r1) v index =
    option_map (place_of_band (record { count = length domain; inner = inner; outer = outer; r0 = r0; r1 = r1 })) index
exact_place_at (Point domain outer r0 r1) v index =
    option_map (place_of_band (record { count = length domain; inner = pos million; outer = outer; r0 = r0; r1 = r1 })) index
exact_place_at (Ordinal domain range) v index = entry_number range index
exact_place_at (Ramp time d0 d1 from to) v index = None

-- the place of a cell, however far away it is
abbrev pub exact_place : Scale → Cell → Option ℤ
exact_place s v = exact_place_at s v (domain_index s v)

-- a number as an answer: out of range it is an overflow
abbrev pub reached : ℤ → Result ℤ Overflow
reached z = ok_or (in_range z) (record {})

-- a place as an answer, if there is one
abbrev pub reached_place : Option ℤ → Result (Option ℤ) Overflow
reached_place None = Ok None
reached_place (Some z) = ok_or (option_map Some (in_range z)) (record {})

-- the place of a cell as an answer
abbrev pub place_of : Scale → Cell → Result (Option ℤ) Overflow
place_of s v = reached_place (exact_place s v)

-- the place on the band of an index as an answer, if there is one
abbrev pub reached_on_band : Bands → ℤ → Option ℕ → Result (Option ℤ) Overflow
reached_on_band b share None = Ok None
reached_on_band b share (Some index) = ok_or (option_map Some (place_on_band b index share)) (record {})

-- The place of a cell on its band as an answer, by where it stands in the domain: its centre for a share of one half, else so many widths
-- from its lesser end. Scales without bands give the place of the cell, whatever the share.
abbrev pub band_place_at : Scale → Cell → ℤ → Option ℕ → Result (Option ℤ) Overflow
band_place_at s v share index = option_map_or (λ b. reached_on_band b share index) (bands_of s) (reached_place (exact_place_at s v index))

-- the place of a cell on its band
abbrev pub place_in_band_of : Scale → Cell → ℤ → Result (Option ℤ) Overflow
place_in_band_of s v share = band_place_at s v share (domain_index s v)

-- the width of the bands of a scale
abbrev pub band_width_of : Scale → ℤ
band_width_of s = option_map_or width_of_band (bands_of s) (pos 0)

-- where bars begin: at the place of 0 where the domain holds it, else at the beginning of the range
abbrev pub base_of : Scale → ℤ
base_of (Linear d0 d1 r0 r1) = if is_within d0 d1 (pos 0) then place_of_number (d0, d1) (r0, r1) (pos 0) else r0
base_of (Time d0 d1 r0 r1) = if is_within d0 d1 (pos 0) then place_of_number (d0, d1) (r0, r1) (pos 0) else r0
base_of (Band domain inner outer r0 r1) = unwrap_or (exact_place (Band domain inner outer r0 r1) (Number (pos 0))) r0
base_of (Point domain outer r0 r1) = unwrap_or (exact_place (Point domain outer r0 r1) (Number (pos 0))) r0
base_of (Ordinal domain range) = pos 0
base_of (Ramp time d0 d1 from to) = pos 0

-- the number at a place, however far away it is
abbrev pub exact_inverse : Scale → ℤ → ℤ
exact_inverse (Linear d0 d1 r0 r1) p = number_at_place (d0, d1) (r0, r1) p
exact_inverse (Time d0 d1 r0 r1) p = number_at_place (d0, d1) (r0, r1) p
exact_inverse (Band domain inner outer r0 r1) p = pos 0
exact_inverse (Point domain outer r0 r1) p = pos 0
exact_inverse (Ordinal domain range) p = pos 0
exact_inverse (Ramp time d0 d1 from to) p = pos 0

-- the number at a place as an answer
abbrev pub inverse_of : Scale → ℤ → Result ℤ Overflow
inverse_of s p = reached (exact_inverse s p)

-- the number at a place, cut to the domain
abbrev pub inverse_within : Scale → ℤ → ℤ
inverse_within (Linear d0 d1 r0 r1) p = cut_to (d0, d1) (exact_inverse (Linear d0 d1 r0 r1) p)
inverse_within (Time d0 d1 r0 r1) p = cut_to (d0, d1) (exact_inverse (Time d0 d1 r0 r1) p)
inverse_within (Band domain inner outer r0 r1) p = pos 0
inverse_within (Point domain outer r0 r1) p = pos 0
inverse_within (Ordinal domain range) p = pos 0
inverse_within (Ramp time d0 d1 from to) p = pos 0

-- The rules at work.

abbrev letter : List ℕ → Cell
letter = Text

-- A and B, and A again, over 60 pixels down to 0, without padding
abbrev letters : Scale
letters = Band (letter (codes "A") ∷ letter (codes "B") ∷ letter (codes "A") ∷ []) (pos 0) (pos 0) (pos (60 * million)) (pos 0)

the_first_place_holds : (place_of letters (letter (codes "A")) ≡ Ok (Some (pos (40 * million))))
    × (place_of letters (letter (codes "B")) ≡ Ok (Some (pos (20 * million)))) × (place_of letters (letter (codes "C")) ≡ Ok None)
unfolding rounded floor_quotient
the_first_place_holds = (refl, refl, refl)

-- 0 to 10^15, over 0 to 2 pixels
abbrev wide : Scale
wide = Linear (pos 0) (pos limit) (pos 0) (pos (2 * million))

-- 0 to a millionth, over 0 to 10 pixels
abbrev narrow : Scale
narrow = Linear (pos 0) (pos 1) (pos 0) (pos (10 * million))

out_of_range : (place_of narrow (Number (pos limit)) ≡ Err (record {}))
    × (place_of wide (Number (pos limit)) ≡ Ok (Some (pos (2 * million))))
    × (inverse_of wide (pos (3 * million)) ≡ Err (record {})) × (inverse_within wide (pos (3 * million)) ≡ pos limit)
unfolding rounded rounded_ratio floor_quotient
out_of_range = (refl, refl, refl, refl)

-- bars on a domain that doesn't hold 0 begin where the range does
where_bars_begin : (base_of (Linear (pos 1) (pos 2) (pos (200 * million)) (pos 0)) ≡ pos (200 * million))
    × (base_of (Linear (pos 0) (pos 2) (pos 0) (pos (200 * million))) ≡ pos 0)
    × (base_of (Band (Null ∷ Number (pos 0) ∷ []) (pos 0) (pos 0) (pos 0) (pos (60 * million))) ≡ pos (30 * million))
unfolding rounded floor_quotient
where_bars_begin = (refl, refl, refl)
