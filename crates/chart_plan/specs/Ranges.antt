-- What a scale gives. Its range is the first that is given and fits its kind: two numbers for a scale that gives places or amounts, any list for
-- one that gives its entries in turn, none for a ramp. Else a scale of x or y gives the places of its plot; color ten colours in turn or, by the
-- scheme `blues`, those of a ramp, and by numbers a ramp itself; shape four signs; opacity 0.3 to 0.8, and size 0 to 361. `reverse` turns a range
-- round. Places of x run from 0 to the plot's width; those of y from 0 to its height where the scale is discrete, and from the height to 0 where it
-- is continuous.
use Rattle.std.specs.Prelude.{◌≡◌, refl, ℕ, ◌==◌, ◌*◌, Bool, true, false, not, ◌&&◌, ℤ, pos, int_le, Option, Some, None, List, [], ◌∷◌}
use Rattle.std.specs.Prelude.{option_map, unwrap_or, if◌then◌else◌}
use Rattle.std.specs.Option.{option_map_or}
use Rattle.fixed_num.specs.Number.{million}
use Rattle.cell_value.specs.declared.cell.Cell.{Cell}
use Rattle.cell_value.specs.declared.cell.Cell.TheVariants as cell
use Rattle.vl_normalize.specs.declared.codes.TheConstants.{X, Y, COLOR, OPACITY, SIZE, SHAPE}
use Rattle.vl_spec.specs.declared.scales.Scale.{Scale}
use Rattle.vl_spec.specs.declared.scales.Scheme.{Scheme}
use Rattle.vl_spec.specs.declared.scales.Scheme.TheVariants as scheme
use Rattle.scale_infer.specs.declared.codes.TheConstants.{LINEAR, TIME, BAND, POINT, ORDINAL, RAMP}
use Rattle.plan_kit.specs.declared.ranges.RangePlan.{RangePlan}
use Rattle.plan_kit.specs.declared.ranges.RangePlan.TheVariants.{Across, Between, Entries, Colors, Blues, Signs}
use Rattle.guide_infer.specs.Axes.{is_continuous}
use Rattle.guide_infer.specs.First.{first_given}

-- a range between the numbers of two cells
abbrev pub with_end : ℤ → Cell → Option RangePlan
with_end from cell.Null = None
with_end from (cell.Flag b) = None
with_end from (cell.Number to) = Some (Between from to)
with_end from (cell.Text t) = None
with_end from (cell.Pair a b) = None

abbrev pub between : Cell → Cell → Option RangePlan
between cell.Null to = None
between (cell.Flag b) to = None
between (cell.Number from) to = with_end from to
between (cell.Text t) to = None
between (cell.Pair a b) to = None

-- the range of a list of two numbers
abbrev pub two_numbers : List Cell → Option RangePlan
two_numbers [] = None
two_numbers (a ∷ []) = None
two_numbers (a ∷ b ∷ []) = between a b
two_numbers (a ∷ b ∷ c ∷ cells) = None

-- the first range that is given and has two numbers, and the first that is given at all
abbrev pub given_ends : List Scale → Option RangePlan
given_ends said = first_given (λ (s : Scale). option_map_or two_numbers s.range None) said

abbrev pub given_entries : List Scale → Option RangePlan
given_entries said = option_map Entries (first_given (λ (s : Scale). s.range) said)

-- the colours of a scheme
abbrev pub scheme_range : Scheme → RangePlan
scheme_range scheme.Tableau10 = Colors
scheme_range scheme.Blues = Blues

-- the colours that are in turn where no list is given: those of the first scheme, else ten
abbrev pub scheme_colors : List Scale → RangePlan
scheme_colors said = option_map_or scheme_range (first_given (λ (s : Scale). s.scheme) said) Colors

-- 0.3 and 0.8
abbrev pub faint : ℤ
faint = pos 300000

abbrev pub strong : ℤ
strong = pos 800000

-- two opacities, in turn
abbrev pub two_opacities : RangePlan
two_opacities = Entries (cell.Number faint ∷ cell.Number strong ∷ [])

-- what a scale gives in turn where no list is given
abbrev pub default_entries : ℕ → List Scale → RangePlan
default_entries channel said =
    if channel == OPACITY then two_opacities
    else (if channel == SHAPE then Signs else scheme_colors said)

-- what a scale of places or amounts gives where no two numbers are given; a continuous shape gives no sign, so its range doesn't show
abbrev pub default_ends : ℕ → RangePlan
default_ends channel =
    if channel == OPACITY then Between faint strong
    else (if channel == SIZE then Between (pos 0) (pos (361 * million))
    else (if channel == SHAPE then Between (pos 0) (pos million)
    else Across))

-- the range of a scale of a kind in a channel, by what its definitions say of scales
abbrev pub range_of : ℕ → ℕ → List Scale → RangePlan
range_of channel kind said =
    if kind == RAMP then Blues
    else (if kind == ORDINAL then unwrap_or (given_entries said) (default_entries channel said)
    else unwrap_or (given_ends said) (default_ends channel))

-- whether a range is turned round
abbrev pub reverse_of : List Scale → Bool
reverse_of said = unwrap_or (first_given (λ (s : Scale). s.reverse) said) false

-- whether a range rises, before it is turned round
abbrev pub runs_up : ℕ → ℕ → RangePlan → Bool
runs_up channel kind Across = not (channel == Y && is_continuous kind)
runs_up channel kind (Between from to) = int_le from to
runs_up channel kind (Entries cells) = true
runs_up channel kind Colors = true
runs_up channel kind Blues = true
runs_up channel kind Signs = true

abbrev pub rises : ℕ → ℕ → RangePlan → Bool → Bool
rises channel kind range reverse = if reverse then not (runs_up channel kind range) else runs_up channel kind range

-- The rules at work.

-- what is said of a range, a scheme and `reverse`
abbrev pub range_said : Option (List Cell) → Option Scheme → Option Bool → Scale
range_said range scheme reverse = record {
  type_ = None;
  domain = None;
  range = range;
  scheme = scheme;
  zero = None;
  nice = None;
  padding = None;
  padding_inner = None;
  padding_outer = None;
  reverse = reverse;
}

-- 5, 0
abbrev two : List Cell
two = cell.Number (pos 5) ∷ cell.Number (pos 0) ∷ []

-- "red"
abbrev one : List Cell
one = cell.Text (114 ∷ 101 ∷ 100 ∷ []) ∷ []

places_of_a_plot : (range_of X LINEAR [] ≡ Across) × (range_of Y BAND [] ≡ Across)
places_of_a_plot = (refl, refl)

the_first_that_fits : (range_of X POINT (range_said (Some one) None None ∷ range_said (Some two) None None ∷ []) ≡ Between (pos 5) (pos 0))
    × (range_of COLOR ORDINAL (range_said (Some one) None None ∷ range_said (Some two) None None ∷ []) ≡ Entries one)
    × (range_of COLOR RAMP (range_said (Some one) None None ∷ []) ≡ Blues)
the_first_that_fits = (refl, refl, refl)

colors_in_turn : (range_of COLOR ORDINAL [] ≡ Colors) × (range_of COLOR ORDINAL (range_said None (Some scheme.Blues) None ∷ []) ≡ Blues)
    × (range_of COLOR ORDINAL (range_said (Some one) (Some scheme.Blues) None ∷ []) ≡ Entries one)
colors_in_turn = (refl, refl, refl)

signs_and_amounts : (range_of SHAPE ORDINAL [] ≡ Signs) × (range_of SIZE LINEAR [] ≡ Between (pos 0) (pos 361000000))
    × (range_of OPACITY POINT [] ≡ Between faint strong) × (range_of OPACITY ORDINAL [] ≡ two_opacities)
signs_and_amounts = (refl, refl, refl, refl)

y_falls : (rises Y LINEAR Across false ≡ false) × (rises Y LINEAR Across true ≡ true) × (rises Y BAND Across false ≡ true) × (rises X TIME Across false ≡ true)
y_falls = (refl, refl, refl, refl)

two_numbers_that_fall : (rises X LINEAR (Between (pos 5) (pos 0)) false ≡ false) × (rises X LINEAR (Between (pos 5) (pos 0)) true ≡ true)
two_numbers_that_fall = (refl, refl)
