-- The scales of a specification: for each channel and the units that share its scale one scale, whose kind, flags and paddings go by these
-- units, in their order. What counts of a unit is its mark, which of x and y is its measure, and what the definitions of the channel say that
-- have a scale, the channel's own before those of its conditions.
use Rattle.std.specs.Prelude.{◌≡◌, refl, ℕ, true, false, pos, Option, Some, None, List, [], ◌∷◌, map, filter_map, slice_get, option_map}
use Rattle.fixed_num.specs.Number.{million, rounded, floor_quotient}
use Rattle.vl_normalize.specs.declared.codes.TheConstants.{X, Y}
use Rattle.vl_normalize.specs.Marks.{mark_type_of}
use Rattle.vl_spec.specs.declared.marks.MarkType.{MarkType}
use Rattle.vl_spec.specs.declared.marks.MarkType.TheVariants as mark
use Rattle.vl_spec.specs.declared.definitions.Definition.{Definition}
use Rattle.vl_spec.specs.declared.spec.VlSpec.{VlSpec}
use Rattle.vl_compose.specs.declared.views.SharedScale.{SharedScale}
use Rattle.vl_compose.specs.Definitions.{definitions_at}
use Rattle.vl_compose.specs.Units.{UnitAt, units_of}
use Rattle.scale_infer.specs.declared.codes.TheConstants.{LINEAR, BAND, POINT}
use Rattle.scale_infer.specs.declared.said.Said.{Said}
use Rattle.scale_infer.specs.declared.sharers.Sharer.{Sharer}
use Rattle.scale_infer.specs.declared.scales.ScaleOf.{ScaleOf}
use Rattle.scale_infer.specs.Said.{said_of}
use Rattle.scale_infer.specs.Measures.{x_is_measure}
use Rattle.scale_infer.specs.Kinds.{kind_of}
use Rattle.scale_infer.specs.Flags.{zero_of, nice_of, numbers_said, unit_saying}
use Rattle.scale_infer.specs.Paddings.{inner_of, outer_of}

-- the first of several definitions
abbrev pub first_definition : List Definition → Option Definition
first_definition [] = None
first_definition (d ∷ more) = Some d

-- the first definition of a channel of a unit that has a scale
abbrev pub first_at : UnitAt → ℕ → Option Definition
first_at unit channel = first_definition (definitions_at unit.channels channel)

-- a unit as one that shares the scale of a channel
abbrev pub sharer_of : ℕ → UnitAt → Sharer
sharer_of channel unit = record {
  mark = option_map mark_type_of unit.mark;
  x_is_measure = x_is_measure (first_at unit X) (first_at unit Y);
  says = map said_of (definitions_at unit.channels channel);
}

-- the unit of a number
abbrev pub sharer_at : List UnitAt → ℕ → ℕ → Option Sharer
sharer_at units channel number = option_map (sharer_of channel) (slice_get units number)

-- the units of these numbers
abbrev pub sharers_at : List UnitAt → ℕ → List ℕ → List Sharer
sharers_at units channel numbers = filter_map (sharer_at units channel) numbers

-- the scale of a channel that these units share
abbrev pub scale_over : ℕ → List ℕ → List Sharer → ScaleOf
scale_over channel units sharers = record {
  channel = channel;
  units = units;
  kind = kind_of channel sharers;
  zero = zero_of channel sharers;
  nice = nice_of channel sharers;
  inner = inner_of (kind_of channel sharers) sharers;
  outer = outer_of (kind_of channel sharers) channel sharers;
}

-- the scale that units share, by their numbers
abbrev pub scale_of : List UnitAt → SharedScale → ScaleOf
scale_of units shared = scale_over shared.channel shared.units (sharers_at units shared.channel shared.units)

-- the scales of a specification that units share
abbrev pub scales_of : VlSpec → List SharedScale → List ScaleOf
scales_of s shared = map (scale_of (units_of s)) shared

-- The rules at work.

-- a unit of this mark whose channel shows nothing on a scale
abbrev silent : MarkType → Sharer
silent type_ = record { mark = Some type_; x_is_measure = false; says = [] }

-- numbers by themselves
abbrev numbers : Said
numbers = numbers_said false false None None

a_line_and_its_points :
    scale_over X (0 ∷ 1 ∷ []) (unit_saying mark.Line false numbers ∷ unit_saying mark.Point false numbers ∷ [])
    ≡ record { channel = X; units = 0 ∷ 1 ∷ []; kind = LINEAR; zero = true; nice = true; inner = pos 0; outer = pos 0 }
a_line_and_its_points = refl

bars_over_nothing :
    scale_over X (3 ∷ []) (silent mark.Bar ∷ [])
    ≡ record { channel = X; units = 3 ∷ []; kind = BAND; zero = false; nice = false; inner = pos 100000; outer = pos 50000 }
unfolding rounded floor_quotient
bars_over_nothing = refl

points_over_nothing :
    scale_over Y (0 ∷ []) (silent mark.Circle ∷ [])
    ≡ record { channel = Y; units = 0 ∷ []; kind = POINT; zero = false; nice = false; inner = pos million; outer = pos 500000 }
points_over_nothing = refl

no_such_unit : sharers_at [] X (0 ∷ []) ≡ []
no_such_unit = refl
