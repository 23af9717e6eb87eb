-- What a scale may say, by its own definition.
use Rattle.std.specs.Prelude.{◌≡◌, refl, ℕ, ◌==◌, Bool, true, false, not, ◌||◌, ◌&&◌, Option, Some, None, List, [], ◌∷◌, pos, if◌then◌else◌}
use Rattle.std.specs.Option.{option_map_or}
use Rattle.cell_value.specs.declared.cell.Cell.{Cell}
use Rattle.cell_value.specs.declared.cell.Cell.TheVariants as cell
use Rattle.vl_spec.specs.declared.definitions.FieldType.{FieldType}
use Rattle.vl_spec.specs.declared.definitions.FieldType.TheVariants.{Quantitative, Temporal, Ordinal, Nominal}
use Rattle.vl_spec.specs.declared.scales.Scale.{Scale}
use Rattle.vl_spec.specs.declared.scales.Scheme.{Scheme}
use Rattle.vl_spec.specs.declared.scales.Scheme.TheVariants as scheme
use Rattle.vl_normalize.specs.declared.codes.TheConstants.{X, Y, COLOR, OPACITY, SIZE, SHAPE}
use Rattle.scale_infer.specs.declared.codes.TheConstants.{LINEAR, TIME, BAND, POINT, ORDINAL}
use Rattle.scale_infer.specs.Types.{is_continuous}

-- whether cells that stand apart have a scale of this type: places a band or point scale, color and shape an ordinal one, opacity a point or an ordinal
-- one, and size a point scale
abbrev pub apart_fits : ℕ → ℕ → Bool
apart_fits channel kind =
    if channel == X || channel == Y then kind == BAND || kind == POINT
    else (if channel == COLOR || channel == SHAPE then kind == ORDINAL
    else (if channel == OPACITY then kind == POINT || kind == ORDINAL
    else kind == POINT))

-- whether a channel of such cells has a scale of this type: numbers a linear one, instants one of time
abbrev pub kind_fits : ℕ → FieldType → ℕ → Bool
kind_fits channel Quantitative kind = kind == LINEAR
kind_fits channel Temporal kind = kind == TIME
kind_fits channel Ordinal kind = apart_fits channel kind
kind_fits channel Nominal kind = apart_fits channel kind

-- whether a scale says a type that fits the kind of its cells, and whether it says one that doesn't
abbrev pub has_fit_type : ℕ → FieldType → Scale → Bool
has_fit_type channel type_ s = option_map_or (kind_fits channel type_) s.type_ false

abbrev pub has_unfit_type : ℕ → FieldType → Scale → Bool
has_unfit_type channel type_ s = option_map_or (λ kind. not (kind_fits channel type_ kind)) s.type_ false

-- whether the colours of a scale run from one to another
abbrev pub is_ramp : ℕ → FieldType → Bool
is_ramp channel type_ = channel == COLOR && is_continuous type_

-- whether a scale is ordinal: of cells that stand apart those of color and shape are, and of opacity the one that says so
abbrev pub is_ordinal : ℕ → FieldType → Option ℕ → Bool
is_ordinal channel type_ kind =
    not (is_continuous type_) && (channel == COLOR || channel == SHAPE || channel == OPACITY && option_map_or (λ k. k == ORDINAL) kind false)

-- whether a list is two numbers
abbrev pub is_number : Cell → Bool
is_number (cell.Number n) = true
is_number other = false

abbrev pub are_two_numbers : List Cell → Bool
are_two_numbers (a ∷ b ∷ []) = is_number a && is_number b
are_two_numbers others = false

-- whether a scale gives what a list says
abbrev pub range_fits : ℕ → FieldType → Option ℕ → List Cell → Bool
range_fits channel type_ kind cells = not (is_ramp channel type_) && (is_ordinal channel type_ kind || are_two_numbers cells)

abbrev pub has_unfit_range : ℕ → FieldType → Scale → Bool
has_unfit_range channel type_ s = option_map_or (λ cells. not (range_fits channel type_ s.type_ cells)) s.range false

abbrev pub is_tableau : Scheme → Bool
is_tableau scheme.Tableau10 = true
is_tableau scheme.Blues = false

abbrev pub has_unfit_scheme : ℕ → FieldType → Scale → Bool
has_unfit_scheme channel type_ s = is_ramp channel type_ && option_map_or is_tableau s.scheme false

-- The rules at work.

names_have_no_line : (kind_fits X Nominal LINEAR ≡ false) × (kind_fits X Nominal POINT ≡ true) × (kind_fits X Quantitative BAND ≡ false)
names_have_no_line = (refl, refl, refl)

colours_of_numbers : (kind_fits COLOR Quantitative LINEAR ≡ true) × (kind_fits COLOR Ordinal BAND ≡ false) × (kind_fits COLOR Ordinal ORDINAL ≡ true)
colours_of_numbers = (refl, refl, refl)

two_ways_of_opacity : (kind_fits OPACITY Nominal POINT ≡ true) × (kind_fits OPACITY Nominal ORDINAL ≡ true) × (kind_fits SIZE Nominal ORDINAL ≡ false)
two_ways_of_opacity = (refl, refl, refl)

-- a cell
one : Cell
one = cell.Number (pos 1)

two_numbers_for_places : (range_fits X Quantitative None (one ∷ one ∷ []) ≡ true) × (range_fits X Nominal None (one ∷ []) ≡ false)
unfolding one
two_numbers_for_places = (refl, refl)

any_list_for_names : (range_fits COLOR Nominal None (one ∷ []) ≡ true) × (range_fits OPACITY Nominal (Some ORDINAL) (one ∷ []) ≡ true)
any_list_for_names = (refl, refl)

no_list_for_a_ramp : range_fits COLOR Temporal None (one ∷ one ∷ []) ≡ false
no_list_for_a_ramp = refl
