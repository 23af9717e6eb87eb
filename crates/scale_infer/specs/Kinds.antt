-- The kind of a scale. It is discrete or continuous as its first definition is, unit after unit, and in a unit the channel's own
-- definition before those of its conditions. Numbers make it linear, instants one of time; a continuous color is a ramp, of numbers or
-- of instants. All other cells stand apart, and the scale is discrete. In x and y it is then a band scale where a unit that shares it is a
-- bar, a rect or a rule, and else a point scale; where a definition says `band` or `point` as its scale's type, the first that does decides.
-- In color and shape it is ordinal. In opacity it is a point scale, or ordinal where a definition says so. In size it is a point scale.
use Rattle.std.specs.Prelude.{◌≡◌, refl, ℕ, ◌==◌, ◌||◌, Bool, true, false, Option, Some, None, List, [], ◌∷◌, flat_map, codes, unwrap_or, if◌then◌else◌}
use Rattle.std.specs.Option.{option_map_or, option_and_then}
use Rattle.std.specs.List.{list_any}
use Rattle.case_table.specs.Names.{index_of, scale_kinds}
use Rattle.vl_normalize.specs.declared.codes.TheConstants.{X, Y, COLOR, OPACITY, SIZE, SHAPE}
use Rattle.vl_spec.specs.declared.marks.MarkType.{MarkType}
use Rattle.vl_spec.specs.declared.marks.MarkType.TheVariants as mark
use Rattle.vl_spec.specs.declared.definitions.FieldType.{FieldType}
use Rattle.vl_spec.specs.declared.definitions.FieldType.TheVariants.{Quantitative, Temporal, Ordinal, Nominal}
use Rattle.scale_infer.specs.declared.codes.TheConstants.{LINEAR, TIME, BAND, POINT, ORDINAL, RAMP}
use Rattle.scale_infer.specs.declared.said.Said.{Said}
use Rattle.scale_infer.specs.declared.sharers.Sharer.{Sharer}
use Rattle.scale_infer.specs.Types.{field_with, scale_with}
use Rattle.scale_infer.specs.Said.{said_of, first_given}

-- what all definitions of a scale say, unit after unit
abbrev pub all_said : List Sharer → List Said
all_said sharers = flat_map (λ (s : Sharer). s.says) sharers

-- what kind of cells the first definition shows; where there is none, cells that stand apart
abbrev pub first_type : List Said → FieldType
first_type [] = Nominal
first_type (s ∷ more) = s.type_

-- the places of a plot
abbrev pub is_place : ℕ → Bool
is_place channel = channel == X || channel == Y

-- a mark with a width of its own where cells stand apart
abbrev pub is_banded : MarkType → Bool
is_banded mark.Bar = true
is_banded mark.Rect = true
is_banded mark.Point = false
is_banded mark.Circle = false
is_banded mark.Square = false
is_banded mark.Line = false
is_banded mark.Area = false
is_banded mark.Tick = false
is_banded mark.Rule = true
is_banded mark.Text = false

-- whether a unit has such a mark
abbrev pub has_bands : Sharer → Bool
has_bands s = option_map_or is_banded s.mark false

-- the type that a definition gives a discrete scale of x or y
abbrev pub band_or_point : ℕ → Option ℕ
band_or_point kind = if kind == BAND || kind == POINT then Some kind else None

abbrev pub place_kind : Said → Option ℕ
place_kind s = option_and_then band_or_point s.kind

-- whether a definition says that its scale is ordinal
abbrev pub says_ordinal : Said → Bool
says_ordinal s = option_map_or (λ kind. kind == ORDINAL) s.kind false

-- the kind of a discrete scale of x or y, where a unit that shares it has bands or none has
abbrev pub place_kind_of : Bool → List Said → ℕ
place_kind_of banded said = unwrap_or (first_given place_kind said) (if banded then BAND else POINT)

-- the kind of a discrete scale of opacity
abbrev pub opacity_kind_of : List Said → ℕ
opacity_kind_of said = if list_any says_ordinal said then ORDINAL else POINT

-- the kind of a discrete scale
abbrev pub discrete_kind : ℕ → Bool → List Said → ℕ
discrete_kind channel banded said =
    if is_place channel then place_kind_of banded said
    else (if channel == COLOR || channel == SHAPE then ORDINAL
    else (if channel == OPACITY then opacity_kind_of said
    else POINT))

-- the kind of a continuous scale, of numbers or of instants
abbrev pub continuous_kind : ℕ → ℕ → ℕ
continuous_kind channel kind = if channel == COLOR then RAMP else kind

-- the kind of a scale whose first definition shows such cells
abbrev pub kind_by : FieldType → ℕ → Bool → List Said → ℕ
kind_by Quantitative channel banded said = continuous_kind channel LINEAR
kind_by Temporal channel banded said = continuous_kind channel TIME
kind_by Ordinal channel banded said = discrete_kind channel banded said
kind_by Nominal channel banded said = discrete_kind channel banded said

-- the kind of the scale of a channel that these units share
abbrev pub kind_of : ℕ → List Sharer → ℕ
kind_of channel sharers =
    kind_by (first_type (all_said sharers)) channel (list_any has_bands sharers) (all_said sharers)

-- The rules at work.

the_codes_of_kinds :
    (index_of scale_kinds (codes "linear") ≡ Some LINEAR) × (index_of scale_kinds (codes "time") ≡ Some TIME)
    × (index_of scale_kinds (codes "band") ≡ Some BAND) × (index_of scale_kinds (codes "point") ≡ Some POINT)
    × (index_of scale_kinds (codes "ordinal") ≡ Some ORDINAL) × (index_of scale_kinds (codes "ramp") ≡ Some RAMP)
the_codes_of_kinds = (refl, refl, refl, refl, refl, refl)

-- a unit of this mark, whose channel shows cells of this type on a scale that says this type
abbrev pub unit_with : MarkType → FieldType → Option ℕ → Sharer
unit_with type_ cells kind = record {
  mark = Some type_;
  x_is_measure = false;
  says = said_of (field_with (Some cells) None None None None (Some (scale_with kind))) ∷ [];
}

points_for_names : kind_of X (unit_with mark.Circle Nominal None ∷ []) ≡ POINT
points_for_names = refl

bands_where_one_is_a_rule : kind_of Y (unit_with mark.Circle Nominal None ∷ unit_with mark.Rule Ordinal None ∷ []) ≡ BAND
bands_where_one_is_a_rule = refl

points_where_the_second_says_so : kind_of X (unit_with mark.Bar Nominal None ∷ unit_with mark.Bar Nominal (Some POINT) ∷ []) ≡ POINT
points_where_the_second_says_so = refl

the_first_decides : (kind_of X (unit_with mark.Bar Quantitative None ∷ unit_with mark.Bar Nominal (Some BAND) ∷ []) ≡ LINEAR)
    × (kind_of X (unit_with mark.Point Nominal None ∷ unit_with mark.Bar Quantitative (Some LINEAR) ∷ []) ≡ BAND)
the_first_decides = (refl, refl)

time_for_instants : (kind_of X (unit_with mark.Line Temporal None ∷ []) ≡ TIME) × (kind_of SHAPE (unit_with mark.Point Temporal None ∷ []) ≡ TIME)
time_for_instants = (refl, refl)

ramps_for_colors : (kind_of COLOR (unit_with mark.Bar Temporal None ∷ []) ≡ RAMP) × (kind_of COLOR (unit_with mark.Bar Quantitative None ∷ []) ≡ RAMP)
ramps_for_colors = (refl, refl)

ordinal_colors_and_shapes : (kind_of COLOR (unit_with mark.Bar Nominal None ∷ []) ≡ ORDINAL)
    × (kind_of SHAPE (unit_with mark.Point Ordinal None ∷ []) ≡ ORDINAL)
ordinal_colors_and_shapes = (refl, refl)

opacity_by_points : kind_of OPACITY (unit_with mark.Bar Nominal None ∷ unit_with mark.Bar Nominal (Some POINT) ∷ []) ≡ POINT
opacity_by_points = refl

opacity_in_turn : kind_of OPACITY (unit_with mark.Bar Nominal (Some POINT) ∷ unit_with mark.Bar Nominal (Some ORDINAL) ∷ []) ≡ ORDINAL
opacity_in_turn = refl

sizes_by_points : (kind_of SIZE (unit_with mark.Point Nominal None ∷ []) ≡ POINT) × (kind_of SIZE (unit_with mark.Point Quantitative None ∷ []) ≡ LINEAR)
sizes_by_points = (refl, refl)
