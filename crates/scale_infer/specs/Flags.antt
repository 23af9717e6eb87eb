-- Whether the domain of a scale takes in 0, and whether it then ends at round numbers. As the first definition says that gives the
-- member `zero`, or `nice`. Where none gives `nice`, it is true for x and y where a definition shows numbers that aren't bins and gives no
-- domain, by a list or by a selection. Where none gives `zero`, it is true for size, and for x and y where the same holds in a unit of which
-- the channel isn't the dimension or which is no bar, area or line. Each unit goes by its own definitions; where units differ, true holds.
use Rattle.std.specs.Prelude.{◌≡◌, refl, ℕ, ◌==◌, ◌&&◌, ◌||◌, not, Bool, true, false, Option, Some, None, List, [], ◌∷◌, unwrap_or, if◌then◌else◌}
use Rattle.std.specs.Option.{option_map_or}
use Rattle.std.specs.List.{list_any}
use Rattle.vl_normalize.specs.declared.codes.TheConstants.{X, Y, COLOR, SIZE}
use Rattle.vl_spec.specs.declared.marks.MarkType.{MarkType}
use Rattle.vl_spec.specs.declared.marks.MarkType.TheVariants as mark
use Rattle.vl_spec.specs.declared.definitions.FieldType.TheVariants.{Quantitative}
use Rattle.scale_infer.specs.declared.said.Said.{Said}
use Rattle.scale_infer.specs.declared.sharers.Sharer.{Sharer}
use Rattle.scale_infer.specs.Said.{is_unbound, first_given}
use Rattle.scale_infer.specs.Kinds.{all_said, is_place}

-- whether numbers of a unit are unbound
abbrev pub is_open : Sharer → Bool
is_open s = list_any is_unbound s.says

-- a mark that runs along its dimension, where 0 means nothing
abbrev pub is_run : MarkType → Bool
is_run mark.Bar = true
is_run mark.Rect = false
is_run mark.Point = false
is_run mark.Circle = false
is_run mark.Square = false
is_run mark.Line = true
is_run mark.Area = true
is_run mark.Tick = false
is_run mark.Rule = false
is_run mark.Text = false

-- whether a unit has such a mark
abbrev pub is_runner : Sharer → Bool
is_runner s = option_map_or is_run s.mark false

-- whether x, or else y, is the dimension of a unit
abbrev pub is_dimension : ℕ → Sharer → Bool
is_dimension channel s = if channel == X then not s.x_is_measure else s.x_is_measure

-- whether a unit runs along x, or else y
abbrev pub runs_along : ℕ → Sharer → Bool
runs_along channel s = is_runner s && is_dimension channel s

-- whether a unit lets the domain of x, or else y, take in 0
abbrev pub takes_zero : ℕ → Sharer → Bool
takes_zero channel s = is_open s && not (runs_along channel s)

-- whether the domain takes in 0 where no definition says it
abbrev pub default_zero : ℕ → List Sharer → Bool
default_zero channel sharers = channel == SIZE || (is_place channel && list_any (takes_zero channel) sharers)

-- whether it ends at round numbers where no definition says it
abbrev pub default_nice : ℕ → List Sharer → Bool
default_nice channel sharers = is_place channel && list_any is_open sharers

abbrev pub zero_said : List Said → Option Bool
zero_said said = first_given (λ (s : Said). s.zero) said

abbrev pub nice_said : List Said → Option Bool
nice_said said = first_given (λ (s : Said). s.nice) said

-- whether the domain takes in 0
abbrev pub zero_of : ℕ → List Sharer → Bool
zero_of channel sharers = unwrap_or (zero_said (all_said sharers)) (default_zero channel sharers)

-- whether it ends at round numbers
abbrev pub nice_of : ℕ → List Sharer → Bool
nice_of channel sharers = unwrap_or (nice_said (all_said sharers)) (default_nice channel sharers)

-- The rules at work.

-- what numbers say that are no bins, or bins; whose domain is given, or isn't; with these flags
abbrev pub numbers_said : Bool → Bool → Option Bool → Option Bool → Said
numbers_said binned bound zero nice = record {
  type_ = Quantitative;
  is_binned = binned;
  has_domain = bound;
  kind = None;
  zero = zero;
  nice = nice;
  padding = None;
  padding_inner = None;
  padding_outer = None;
}

-- a unit of this mark, whose measure is x or else y, and which says this
abbrev pub unit_saying : MarkType → Bool → Said → Sharer
unit_saying type_ along_x s = record { mark = Some type_; x_is_measure = along_x; says = s ∷ [] }

abbrev free : Said
free = numbers_said false false None None

a_bar_from_0 : (zero_of Y (unit_saying mark.Bar false free ∷ []) ≡ true) × (nice_of Y (unit_saying mark.Bar false free ∷ []) ≡ true)
a_bar_from_0 = (refl, refl)

along_a_line : (zero_of X (unit_saying mark.Line false free ∷ []) ≡ false) × (nice_of X (unit_saying mark.Line false free ∷ []) ≡ true)
along_a_line = (refl, refl)

a_lying_area : (zero_of X (unit_saying mark.Area true free ∷ []) ≡ true) × (zero_of Y (unit_saying mark.Area true free ∷ []) ≡ false)
a_lying_area = (refl, refl)

both_of_points : (zero_of X (unit_saying mark.Point false free ∷ []) ≡ true) × (zero_of Y (unit_saying mark.Point false free ∷ []) ≡ true)
both_of_points = (refl, refl)

points_over_a_line : zero_of X (unit_saying mark.Line false free ∷ unit_saying mark.Point false free ∷ []) ≡ true
points_over_a_line = refl

neither_of_bins : (zero_of Y (unit_saying mark.Point false (numbers_said true false None None) ∷ []) ≡ false)
    × (nice_of Y (unit_saying mark.Point false (numbers_said true false None None) ∷ []) ≡ false)
neither_of_bins = (refl, refl)

neither_of_a_given_domain : (zero_of Y (unit_saying mark.Point false (numbers_said false true None None) ∷ []) ≡ false)
    × (nice_of Y (unit_saying mark.Point false (numbers_said false true None None) ∷ []) ≡ false)
neither_of_a_given_domain = (refl, refl)

sizes_from_0 : (zero_of SIZE (unit_saying mark.Point false (numbers_said true true None None) ∷ []) ≡ true)
    × (nice_of SIZE (unit_saying mark.Point false free ∷ []) ≡ false)
sizes_from_0 = (refl, refl)

colors_from_the_least : (zero_of COLOR (unit_saying mark.Point false free ∷ []) ≡ false) × (nice_of COLOR (unit_saying mark.Point false free ∷ []) ≡ false)
colors_from_the_least = (refl, refl)

as_the_first_says : zero_of X
    (unit_saying mark.Point false free ∷ unit_saying mark.Point false (numbers_said false false (Some false) (Some false))
    ∷ unit_saying mark.Point false (numbers_said false false (Some true) (Some true)) ∷ []) ≡ false
as_the_first_says = refl
