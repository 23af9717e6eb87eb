-- Colours and signs of scales.
use Rattle.std.specs.Prelude.{◌≡◌, refl, ℕ, ◌+◌, ◌*◌, ◌/◌, ◌%◌, ◌++◌, nat_lt, true, false, ℤ, pos, negsuc, unsigned_abs, Option}
use Rattle.std.specs.Prelude.{Some, None, List, [], ◌∷◌}
use Rattle.std.specs.Prelude.{slice_index, codes, if◌then◌else◌}
use Rattle.std.specs.Option.{option_map}
use Rattle.fixed_num.specs.Number.{million, rounded, floor_quotient}
use Rattle.fixed_num.specs.Ranges.{◌>>=◌}
use Rattle.cell_value.specs.declared.cell.Cell.{Cell}
use Rattle.cell_value.specs.declared.cell.Cell.TheVariants.{Null, Flag, Number, Text, Pair}
use Rattle.scale_kit.specs.declared.scale.Scale.{Scale}
use Rattle.scale_kit.specs.declared.scale.Scale.TheVariants.{Linear, Time, Band, Point, Ordinal, Ramp}
use Rattle.scale_kit.specs.Lines.{place_of_number, cut_to}
use Rattle.scale_kit.specs.Places.{the_number, the_instant, domain_index, entry_at}

-- the text in a cell, if it is one
abbrev pub the_text : Cell → Option (List ℕ)
the_text Null = None
the_text (Flag b) = None
the_text (Number n) = None
the_text (Text t) = Some t
the_text (Pair a b) = None

-- a digit in base sixteen, in lower case
abbrev pub hex_digit : ℕ → ℕ
hex_digit n = if nat_lt n 10 then 48 + n else 87 + n

-- a byte as two digits
abbrev pub hex_byte : ℕ → List ℕ
hex_byte n = hex_digit (n / 16) ∷ hex_digit (n % 16) ∷ []

-- a colour by its red, green and blue
abbrev pub color_text : ℕ → ℕ → ℕ → List ℕ
color_text red green blue = 35 ∷ hex_byte red ++ hex_byte green ++ hex_byte blue

-- one channel of a ramp: as far from the first colour to the last as the number, cut to the domain, is along it
abbrev pub channel_of : ℤ × ℤ → ℤ → ℕ → ℕ → ℕ
channel_of domain v from to = unsigned_abs (place_of_number domain (pos from, pos to) (cut_to domain v))

-- the colour of a number on a ramp
abbrev pub ramp_color : ℤ × ℤ → List ℕ → List ℕ → ℤ → List ℕ
ramp_color domain from to v =
    color_text (channel_of domain v (slice_index from 0) (slice_index to 0)) (channel_of domain v (slice_index from 1) (slice_index to 1))
    (channel_of domain v (slice_index from 2) (slice_index to 2))

-- the text that a range has for an index, if it has one
abbrev pub entry_text : List Cell → Option ℕ → Option (List ℕ)
entry_text range index = index >>= λ k. entry_at range k >>= the_text

-- The colour or sign of a cell, by where it stands in the domain: on an ordinal scale the text that the range has for the cell, if it has
-- one; on a ramp the colour of a number, or of an instant in range. Other scales have none.
abbrev pub paint_at : Scale → Cell → Option ℕ → Option (List ℕ)
paint_at (Linear d0 d1 r0 r1) v index = None
paint_at (Time d0 d1 r0 r1) v index = None
paint_at (Band domain inner outer r0 r1) v index = None
paint_at (Point domain outer r0 r1) v index = None
paint_at (Ordinal domain range) v index = entry_text range index
paint_at (Ramp time d0 d1 from to) v index = option_map (ramp_color (d0, d1) from to) (if time then the_instant v else the_number v)

-- the colour or sign of a cell
abbrev pub paint_of : Scale → Cell → Option (List ℕ)
paint_of s v = paint_at s v (domain_index s v)

-- The rules at work.

-- from #deebf7 to #08519c over 0 to 10
abbrev blues : Scale
blues = Ramp false (pos 0) (pos (10 * million)) (222 ∷ 235 ∷ 247 ∷ []) (8 ∷ 81 ∷ 156 ∷ [])

the_ends_of_a_ramp : (paint_of blues (Number (pos 0)) ≡ Some (codes "#deebf7"))
    × (paint_of blues (Number (pos (10 * million))) ≡ Some (codes "#08519c"))
unfolding rounded floor_quotient
the_ends_of_a_ramp = (refl, refl)

a_third_of_a_ramp : paint_of blues (Number (pos (3 * million))) ≡ Some (codes "#9ebddc")
unfolding rounded floor_quotient
a_third_of_a_ramp = refl

outside_a_ramp : (paint_of blues (Number (negsuc 0)) ≡ Some (codes "#deebf7"))
    × (paint_of blues (Number (pos (99 * million))) ≡ Some (codes "#08519c"))
    × (paint_of blues Null ≡ None)
unfolding rounded floor_quotient
outside_a_ramp = (refl, refl, refl)

-- three cells and two colours
abbrev two_colors : Scale
two_colors = Ordinal (Number (pos 1) ∷ Null ∷ Flag true ∷ []) (Text (codes "#4c78a8") ∷ Text (codes "#f58518") ∷ [])

the_colors_begin_again : (paint_of two_colors Null ≡ Some (codes "#f58518")) × (paint_of two_colors (Flag true) ≡ Some (codes "#4c78a8"))
    × (paint_of two_colors (Flag false) ≡ None)
the_colors_begin_again = (refl, refl, refl)
