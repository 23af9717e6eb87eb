-- The scales of a plot, and its size. A scale of places lays its domain over its plot, or between two given numbers; x runs from 0 to the plot's width,
-- y from 0 to its height where the scale is discrete, and from the height to 0 where it is continuous; `reverse` swaps the ends, the colours of
-- a ramp, and the order of a list. Ordinal scales give the entries of a list in turn: a written one, ten colours, four signs, or as many colours of a ramp
-- as there are cells. A size is a number of pixels, or a step times the space of the bands, rounded, tested for range and cut to 10^11.
use Rattle.std.specs.Prelude.{◌≡◌, refl, ℕ, ◌==◌, ◌*◌, ◌^◌, Bool, true, false, ℤ, pos, ◌*ℤ◌, Option, Some, List, [], ◌∷◌, map, find, length}
use Rattle.std.specs.Prelude.{codes, if◌then◌else◌, slice_get, unwrap_or}
use Rattle.std.specs.Int.{int_min}
use Rattle.std.specs.Option.{option_map}
use Rattle.fixed_num.specs.Bands.{space_of}
use Rattle.fixed_num.specs.Number.{million, rounded, floor_quotient}
use Rattle.fixed_num.specs.Ranges.{◌>>=◌, in_range}
use Rattle.cell_value.specs.declared.cell.Cell.{Cell}
use Rattle.cell_value.specs.declared.cell.Cell.TheVariants.{Null, Text}
use Rattle.scale_kit.specs.declared.scale.Scale.{Scale}
use Rattle.scale_kit.specs.declared.scale.Scale.TheVariants.{Linear, Time, Band, Point, Ordinal, Ramp}
use Rattle.domain_kit.specs.Entries.{category_colors, symbol_shapes, ramp_entries, entries_turned, color_from, color_to}
use Rattle.vl_normalize.specs.declared.codes.TheConstants.{Y}
use Rattle.scale_infer.specs.declared.codes.TheConstants.{LINEAR, TIME, BAND, POINT, RAMP}
use Rattle.plan_kit.specs.declared.domains.DomainPlan.TheVariants as domain
use Rattle.plan_kit.specs.declared.ranges.RangePlan.{RangePlan}
use Rattle.plan_kit.specs.declared.ranges.RangePlan.TheVariants as range
use Rattle.plan_kit.specs.declared.scales.ScalePlan.{ScalePlan}
use Rattle.plan_kit.specs.declared.sizes.SizePlan.{SizePlan}
use Rattle.plan_kit.specs.declared.sizes.SizePlan.TheVariants as size
use Rattle.guide_infer.specs.Axes.{is_continuous}
use Rattle.chart_meaning.specs.Domains.{a_scale_over}
use Rattle.chart_meaning.specs.Parts.{Copy, Domain, OfCells, OfNumbers, a_copy}

-- ---- ranges

-- two ends, swapped where that is asked
abbrev pub turned : Bool → ℤ × ℤ → ℤ × ℤ
turned reverse ends = if reverse then (ends.1, ends.0) else ends

-- the ends of a plot of this width and height along a channel
abbrev pub ends_of_plot : ℤ → ℤ → ℕ → Bool → ℤ × ℤ
ends_of_plot width height channel continuous =
    if channel == Y then (if continuous then (height, pos 0) else (pos 0, height)) else (pos 0, width)

-- the ends between which a scale gives places or amounts; a list has none
abbrev pub ends_in : ℤ → ℤ → ScalePlan → RangePlan → ℤ × ℤ
ends_in width height s range.Across = ends_of_plot width height s.channel (is_continuous s.kind)
ends_in width height s (range.Between from to) = (from, to)
ends_in width height s (range.Entries cells) = (pos 0, pos 0)
ends_in width height s range.Colors = (pos 0, pos 0)
ends_in width height s range.Blues = (pos 0, pos 0)
ends_in width height s range.Signs = (pos 0, pos 0)

-- the list that an ordinal scale of so many cells gives in turn; places have none
abbrev pub entries_in : RangePlan → ℕ → List Cell
entries_in range.Across n = []
entries_in (range.Between from to) n = []
entries_in (range.Entries cells) n = cells
entries_in range.Colors n = map Text category_colors
entries_in range.Blues n = ramp_entries n
entries_in range.Signs n = map Text symbol_shapes

-- ---- scales

-- a scale over cells, by its kind
abbrev pub over_cells : ScalePlan → List Cell → ℤ × ℤ → Scale
over_cells s cells ends =
    if s.kind == BAND then Band cells s.inner s.outer ends.0 ends.1
    else (if s.kind == POINT then Point cells s.outer ends.0 ends.1
    else Ordinal cells (entries_turned s.reverse (entries_in s.range (length cells))))

-- a scale over numbers
abbrev pub over_numbers : ScalePlan → ℤ → ℤ → ℤ × ℤ → Scale
over_numbers s d0 d1 ends =
    if s.kind == RAMP then Ramp s.is_time d0 d1 (color_from s.reverse) (color_to s.reverse)
    else (if s.kind == TIME then Time d0 d1 ends.0 ends.1 else Linear d0 d1 ends.0 ends.1)

abbrev pub over_domain : ScalePlan → Domain → ℤ × ℤ → Scale
over_domain s (OfCells cells) ends = over_cells s cells ends
over_domain s (OfNumbers d0 d1) ends = over_numbers s d0 d1 ends

-- a scale over its domain in a plot of this width and height
abbrev pub scale_over : ℤ → ℤ → ScalePlan → Domain → Scale
scale_over width height s scaled = over_domain s scaled (turned s.reverse (ends_in width height s s.range))

-- ---- the scales of a copy

-- what the scale of a number scales in a copy
abbrev pub is_of_number : ℕ → ℕ × Domain → Bool
is_of_number number found = found.0 == number

abbrev pub domain_at : Copy → ℕ → Option Domain
domain_at copy number = option_map (λ (found : ℕ × Domain). found.1) (find (is_of_number number) copy.domains)

-- a scale without cells, which gives nothing
abbrev pub no_scale : Scale
no_scale = Ordinal [] []

-- the scale of a number in a plot of this width and height; each number of a plan has one
abbrev pub found_scale : ℤ → ℤ → Option ScalePlan → Option Domain → Option Scale
found_scale width height s scaled = do
  plan ← s
  found ← scaled
  Some (scale_over width height plan found)

abbrev pub scale_in : List ScalePlan → ℤ → ℤ → Copy → ℕ → Scale
scale_in scales width height copy number =
    unwrap_or (found_scale width height (slice_get scales number) (domain_at copy number)) no_scale

-- ---- sizes

-- how many cells a domain has
abbrev pub count_cells : Domain → ℕ
count_cells (OfCells cells) = length cells
count_cells (OfNumbers d0 d1) = 0

-- the greatest size: 10^11 pixels
abbrev pub greatest_size : ℤ
greatest_size = pos (10 ^ 11 * million)

-- the size of so many cells at a step from one to the next; None where it is out of range
abbrev pub size_of_steps : ℤ → ScalePlan → ℕ → Option ℤ
size_of_steps step s count = option_map (int_min greatest_size) (in_range (rounded (step *ℤ space_of (pos (count * million)) s.inner s.outer) million))

abbrev pub steps_over : ℤ → Option ScalePlan → Option Domain → Option ℤ
steps_over step s scaled = do
  plan ← s
  found ← scaled
  size_of_steps step plan (count_cells found)

-- a size in a copy
abbrev pub size_in : List ScalePlan → Copy → SizePlan → Option ℤ
size_in scales copy (size.Pixels n) = Some n
size_in scales copy (size.Steps step number) = steps_over step (slice_get scales number) (domain_at copy number)

-- The rules at work.

-- a scale of x, or of y, in a plot of 60 by 80 pixels
abbrev pixels : ℕ → ℤ
pixels n = pos (n * million)

abbrev in_the_plot : ScalePlan → Domain → Scale
in_the_plot s scaled = scale_over (pixels 60) (pixels 80) s scaled

abbrev of_kind : ℕ → ℕ → Bool → ScalePlan
of_kind channel kind reverse = record (a_scale_over kind (domain.Cells [])) { channel = channel; reverse = reverse }

y_falls_where_it_is_continuous : (in_the_plot (of_kind Y LINEAR false) (OfNumbers (pos 1) (pos 2)) ≡ Linear (pos 1) (pos 2) (pixels 80) (pos 0))
    × (in_the_plot (of_kind Y LINEAR true) (OfNumbers (pos 1) (pos 2)) ≡ Linear (pos 1) (pos 2) (pos 0) (pixels 80))
    × (in_the_plot (of_kind Y POINT false) (OfCells (Null ∷ [])) ≡ Point (Null ∷ []) (pos 500000) (pos 0) (pixels 80))
    × (in_the_plot (of_kind 0 TIME true) (OfNumbers (pos 1) (pos 2)) ≡ Time (pos 1) (pos 2) (pixels 60) (pos 0))
y_falls_where_it_is_continuous = (refl, refl, refl, refl)

lists_are_turned_round : in_the_plot (record (of_kind 4 4 true) { range = range.Signs }) (OfCells (Null ∷ []))
    ≡ Ordinal (Null ∷ []) (Text (codes "diamond") ∷ Text (codes "triangle-up") ∷ Text (codes "square") ∷ Text (codes "circle") ∷ [])
unfolding symbol_shapes
lists_are_turned_round = refl

-- three bands of 20 pixels each, of which a tenth lies between; and none
abbrev bands : ScalePlan
bands = record (of_kind 0 BAND false) { inner = pos 100000; outer = pos 50000 }

sizes_of_bands : (size_of_steps (pixels 20) bands 3 ≡ Some (pixels 60)) × (size_of_steps (pixels 20) bands 0 ≡ Some (pos 0))
    × (size_in [] a_copy (size.Pixels (pixels 7)) ≡ Some (pixels 7))
unfolding rounded floor_quotient
sizes_of_bands = (refl, refl, refl)
