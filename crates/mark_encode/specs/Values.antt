-- What channels show of a row. An outer None stands for a number out of range.
use Rattle.std.specs.Prelude.{◌≡◌, refl, ℕ, Bool, true, false, not, ◌&&◌, ◌||◌, ℤ, pos, ◌*◌, ◌+ℤ◌, Option, Some, None, List, [], ◌∷◌, codes}
use Rattle.std.specs.Prelude.{if◌then◌else◌}
use Rattle.std.specs.Option.{option_map, option_map_or, is_some}
use Rattle.std.specs.Result.{result_ok}
use Rattle.std.specs.Str.{bytes_eq}
use Rattle.fixed_num.specs.Number.{million, limit, rounded, floor_quotient}
use Rattle.fixed_num.specs.Ranges.{◌>>=◌, in_range}
use Rattle.cell_value.specs.declared.cell.Cell.{Cell}
use Rattle.cell_value.specs.declared.cell.Cell.TheVariants.{Null, Flag, Number, Text, Pair}
use Rattle.cell_value.specs.Datum.{CellAt}
use Rattle.expr_syntax.specs.declared.expr.Expr.{Expr}
use Rattle.expr_eval.specs.Values.{Values}
use Rattle.expr_eval.specs.Plain.{no_values}
use Rattle.expr_eval.specs.Value.{value_of, truth_of}
use Rattle.scale_kit.specs.declared.scale.Scale.{Scale}
use Rattle.scale_kit.specs.declared.scale.Scale.TheVariants.{Linear, Time, Band, Point, Ordinal, Ramp}
use Rattle.scale_kit.specs.Places.{the_number, place_of, place_in_band_of, bands_of, base_of}
use Rattle.scale_kit.specs.Bands.{widths_of_band}
use Rattle.scale_kit.specs.Colors.{the_text, paint_of}
use Rattle.vega_spec.specs.declared.encode.ChannelValue.{ChannelValue}
use Rattle.mark_shapes.specs.declared.shown.Shown.{Shown}
use Rattle.mark_shapes.specs.declared.shown.Shown.TheVariants.{Absent, Lacking, Given}
use Rattle.mark_shapes.specs.Shown.{shown}
use Rattle.mark_encode.specs.Channels.{ScaledValue}

-- whether a value counts for a row: its test is met, or it has none
abbrev pub is_met : CellAt → Values → ChannelValue → Option Bool
is_met cells values v = option_map_or (truth_of cells values) v.test (Some true)

-- the first value that counts for a row, if one does; the tests after it aren't evaluated
abbrev pub first_met : CellAt → Values → List ScaledValue → Option (Option ScaledValue)
first_met cells values [] = Some None
first_met cells values (v ∷ vs) = is_met cells values v.value >>= λ met. if met then Some (Some v) else first_met cells values vs

-- the cell that a value has for a row: of its signal, else of its field, else its own; none without these
abbrev pub cell_from : CellAt → Values → Option Expr → Option (List ℕ) → Option Cell → Option (Option Cell)
cell_from cells values (Some signal) field own = option_map Some (value_of cells values signal)
cell_from cells values None (Some field) own = Some (Some (cells field))
cell_from cells values None None own = Some own

abbrev pub cell_for : CellAt → Values → ChannelValue → Option (Option Cell)
cell_for cells values v = cell_from cells values v.signal v.field v.value

-- how much a share of the bands of a scale is; nothing on a scale without bands
abbrev pub share_of_band : Scale → ℤ → ℤ
share_of_band s share = option_map_or (λ bands. widths_of_band bands share) (bands_of s) (pos 0)

-- how much the share is that is given, if one is
abbrev pub share_given : Scale → Option ℤ → Option ℤ
share_given s None = Some (pos 0)
share_given s (Some share) = in_range (share_of_band s share)

-- The number on a scale: the place of the cell, on its band where a share is given, which is out of range by itself where so much of a
-- band is. Without a cell so much of a band, or else the place of null.
abbrev pub number_on : Scale → Option Cell → Option ℤ → Option (Option ℤ)
number_on s (Some cell) (Some share) = result_ok (place_in_band_of s cell share)
number_on s (Some cell) None = result_ok (place_of s cell)
number_on s None (Some share) = option_map Some (in_range (share_of_band s share))
number_on s None None = result_ok (place_of s Null)

-- whether a cell is null
abbrev pub is_null : Cell → Bool
is_null Null = true
is_null (Flag b) = false
is_null (Number n) = false
is_null (Text t) = false
is_null (Pair a b) = false

-- whether what counts of a value is a written null: there is no signal and no field
abbrev pub is_written_null : ChannelValue → Bool
is_written_null v = not (is_some v.signal || is_some v.field) && option_map_or is_null v.value false

-- the base of a scale that lays its domain over a range of places
abbrev pub base_for : Scale → Option ℤ
base_for (Linear d0 d1 r0 r1) = Some (base_of (Linear d0 d1 r0 r1))
base_for (Time d0 d1 r0 r1) = Some (base_of (Time d0 d1 r0 r1))
base_for (Band domain inner outer r0 r1) = Some (base_of (Band domain inner outer r0 r1))
base_for (Point domain outer r0 r1) = Some (base_of (Point domain outer r0 r1))
base_for (Ordinal domain range) = None
base_for (Ramp time d0 d1 from to) = None

-- a written null in the channel of a far end stands for the base of its scale, if that has one
abbrev pub base_meant : Bool → Scale → ChannelValue → Option ℤ
base_meant far s v = if far && is_written_null v then base_for s else None

-- the base with so much of a band
abbrev pub number_from_base : Scale → Option ℤ → ℤ → Option (Option ℤ)
number_from_base s band base = share_given s band >>= λ share. option_map Some (in_range (base +ℤ share))

-- the number of a cell, if there is one
abbrev pub number_of_cell : Option Cell → Option ℤ
number_of_cell cell = cell >>= the_number

-- the number of a value with this cell: on its scale from the base that is meant, or else of the cell; without a scale the cell's own
abbrev pub number_at : Bool → Option Scale → ChannelValue → Option Cell → Option (Option ℤ)
number_at far None v cell = Some (number_of_cell cell)
number_at far (Some s) v cell = option_map_or (number_from_base s v.band) (base_meant far s v) (number_on s cell v.band)

-- a number moved by an offset
abbrev pub moved : Option ℤ → Option ℤ → Option (Option ℤ)
moved None n = Some n
moved (Some offset) None = Some None
moved (Some offset) (Some n) = option_map Some (in_range (n +ℤ offset))

-- the number of a value with this cell, moved
abbrev pub number_by : Bool → ScaledValue → Option Cell → Option (Option ℤ)
number_by far v cell = number_at far v.scale v.value cell >>= moved v.value.offset

-- the number of a value for a row, in the channel of a far end or in another
abbrev pub number_for : Bool → CellAt → Values → ScaledValue → Option (Option ℤ)
number_for far cells values v = cell_for cells values v.value >>= number_by far v

-- the colour on a scale; so much of a band is none
abbrev pub color_on : Scale → Option Cell → Option ℤ → Option (List ℕ)
color_on s (Some cell) band = paint_of s cell
color_on s None (Some share) = None
color_on s None None = paint_of s Null

-- the text of a cell, if there is one
abbrev pub text_of_cell : Option Cell → Option (List ℕ)
text_of_cell cell = cell >>= the_text

-- the colour of a value with this cell: on its scale, or the cell's own
abbrev pub color_at : Option Scale → Option ℤ → Option Cell → Option (List ℕ)
color_at None band cell = text_of_cell cell
color_at (Some s) band cell = color_on s cell band

-- the colour of a value for a row
abbrev pub color_for : CellAt → Values → ScaledValue → Option (Option (List ℕ))
color_for cells values v = option_map (color_at v.scale v.value.band) (cell_for cells values v.value)

-- what is shown by the value that counts, if one does
abbrev pub shown_by : {X : Type 0} → (ScaledValue → Option (Option X)) → Option ScaledValue → Option (Shown X)
shown_by gives None = Some Absent
shown_by gives (Some v) = option_map shown (gives v)

-- the number that a channel shows of a row
abbrev pub number_shown : Bool → CellAt → Values → List ScaledValue → Option (Shown ℤ)
number_shown far cells values vs = first_met cells values vs >>= shown_by (number_for far cells values)

-- the colour that a channel shows of a row
abbrev pub color_shown : CellAt → Values → List ScaledValue → Option (Shown (List ℕ))
color_shown cells values vs = first_met cells values vs >>= shown_by (color_for cells values)

-- The rules at work, in millionths.

-- a value without members
abbrev pub bare : ChannelValue
bare = record { value = None; field = None; scale = None; band = None; offset = None; signal = None; test = None; format = None }

-- a row with 28 as its amount, and null under each other name
abbrev pub amount_of_28 : CellAt
amount_of_28 n = if bytes_eq n (codes "amount") then Number (pos (28 * million)) else Null

-- 0 to 55 over 200 pixels down to 0, and two bands over 40 pixels
abbrev pub amounts : Scale
amounts = Linear (pos 0) (pos (55 * million)) (pos (200 * million)) (pos 0)

abbrev two_bands : Scale
two_bands = Band (Text (codes "A") ∷ Text (codes "B") ∷ []) (pos 100000) (pos 50000) (pos 0) (pos (40 * million))

abbrev pub the_amount : ChannelValue
the_amount = record bare { field = Some (codes "amount") }

abbrev a_null : ChannelValue
a_null = record bare { value = Some Null }

abbrev pub on : Option Scale → ChannelValue → ScaledValue
on s v = record { value = v; scale = s }

the_place_of_the_amount : number_for false amount_of_28 no_values (on (Some amounts) the_amount) ≡ Some (Some (pos 98181818))
unfolding rounded floor_quotient
the_place_of_the_amount = refl

-- without a scale a number is its own place, moved by an offset; a text and a null have none
numbers_without_a_scale : (number_for false amount_of_28 no_values (on None (record the_amount { offset = Some (pos (2 * million)) }))
    ≡ Some (Some (pos (30 * million))))
    × (number_for false amount_of_28 no_values (on None (record bare { value = Some (Text (codes "red")) })) ≡ Some None)
    × (number_for true amount_of_28 no_values (on None a_null) ≡ Some None)
numbers_without_a_scale = (refl, refl, refl)

-- a written null is the base in the channel of a far end alone
the_base : (number_for true amount_of_28 no_values (on (Some amounts) a_null) ≡ Some (Some (pos (200 * million))))
    × (number_for false amount_of_28 no_values (on (Some amounts) a_null) ≡ Some None)
    × (number_for true amount_of_28 no_values (on (Some amounts) (record bare { field = Some (codes "other") })) ≡ Some None)
unfolding rounded floor_quotient
the_base = (refl, refl, refl)

-- a band alone, the centre of the second band, and a share of a scale without bands
shares_of_bands : (number_for false amount_of_28 no_values (on (Some two_bands) (record bare { band = Some (pos million) })) ≡ Some (Some (pos (18 * million))))
    × (number_for false amount_of_28 no_values (on (Some two_bands) (record bare { value = Some (Text (codes "B")); band = Some (pos 500000) }))
    ≡ Some (Some (pos (30 * million))))
    × (number_for false amount_of_28 no_values (on (Some amounts) (record bare { band = Some (pos million) })) ≡ Some (Some (pos 0)))
unfolding rounded floor_quotient
shares_of_bands = (refl, refl, refl)

-- a number out of range
too_far : number_for false amount_of_28 no_values (on None (record bare { value = Some (Number (pos limit)); offset = Some (pos 1) })) ≡ None
too_far = refl

-- a text is a colour; a number isn't, and neither is a band alone
the_colors : (color_shown amount_of_28 no_values (on None (record bare { value = Some (Text (codes "red")) }) ∷ []) ≡ Some (Given (codes "red")))
    × (color_shown amount_of_28 no_values (on None the_amount ∷ []) ≡ Some Lacking)
    × (color_shown amount_of_28 no_values (on (Some two_bands) (record bare { band = Some (pos million) }) ∷ []) ≡ Some Lacking)
    × (color_shown amount_of_28 no_values [] ≡ Some Absent)
the_colors = (refl, refl, refl, refl)
