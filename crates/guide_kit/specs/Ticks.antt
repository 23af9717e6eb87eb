-- The ticks of axes and the entries of legends, before they are drawn.
use Rattle.std.specs.Prelude.{◌≡◌, refl, ℕ, ◌+◌, ◌-◌, ◌*◌, ◌/◌, min, max, if◌then◌else◌, List, [], ◌∷◌, map, ℤ, pos, int_lt, unsigned_abs, Option, Some}
use Rattle.std.specs.Option.{option_map, option_map_or}
use Rattle.std.specs.Result.{result_ok}
use Rattle.std.specs.List.{filter_map}
use Rattle.fixed_num.specs.Number.{million, floor_quotient, floored, ceiled}
use Rattle.fixed_num.specs.Ranges.{all_found}
use Rattle.cell_value.specs.declared.cell.Cell.{Cell}
use Rattle.cell_value.specs.declared.cell.Cell.TheVariants.{Number}
use Rattle.tick_kit.specs.Steps.{step_of, span_of, spaced}
use Rattle.tick_kit.specs.Ticks.{ticks_of, multiples_in}
use Rattle.tick_kit.specs.TimeTicks.{time_ticks_of}
use Rattle.tick_kit.specs.Labels.{decimals_of}
use Rattle.scale_kit.specs.declared.scale.Scale.{Scale}
use Rattle.scale_kit.specs.declared.scale.Scale.TheVariants.{Linear, Time, Band, Point, Ordinal, Ramp}
use Rattle.scale_kit.specs.Places.{place_in_band_of}
use Rattle.guide_text.specs.declared.labels.Shows.{Shows}
use Rattle.guide_text.specs.declared.labels.Shows.TheVariants.{Numbers, Instants, Cells}
use Rattle.guide_text.specs.Labels.{label_of}
use Rattle.guide_kit.specs.declared.ticks.Tick.{Tick}

-- the cells at the ticks of a domain of numbers; none where their step is out of range
unfoldable pub number_cells : ℕ → ℤ × ℤ → Option (List Cell)
number_cells count domain = option_map (map Number) (ticks_of count domain)

-- the cells at the ticks of a domain of instants
unfoldable pub instant_cells : ℕ → ℤ × ℤ → List Cell
instant_cells count domain = map Number (time_ticks_of count domain)

-- the cells that a scale shows by itself, for so many ticks: those at its ticks, or all of a list
abbrev pub cells_shown : ℕ → Scale → Option (List Cell)
cells_shown count (Linear d0 d1 r0 r1) = number_cells count (d0, d1)
cells_shown count (Time d0 d1 r0 r1) = Some (instant_cells count (d0, d1))
cells_shown count (Band domain inner outer r0 r1) = Some domain
cells_shown count (Point domain outer r0 r1) = Some domain
cells_shown count (Ordinal domain range) = Some domain
cells_shown count (Ramp time d0 d1 from to) = if time then Some (instant_cells count (d0, d1)) else number_cells count (d0, d1)

-- the decimals of the labels on a continuous domain: those of the step for so many ticks, none where it is out of range; those of its
-- number where the domain is one point
unfoldable pub decimals_on : ℕ → ℤ × ℤ → ℕ
decimals_on count domain =
    if int_lt domain.0 domain.1 then option_map_or decimals_of (option_map pos (step_of (span_of domain) count)) 0
    else decimals_of domain.0

-- what the labels of a scale show, for so many ticks
abbrev pub shows_of : ℕ → Scale → Shows
shows_of count (Linear d0 d1 r0 r1) = Numbers (decimals_on count (d0, d1))
shows_of count (Time d0 d1 r0 r1) = Instants (decimals_on count (d0, d1))
shows_of count (Band domain inner outer r0 r1) = Cells
shows_of count (Point domain outer r0 r1) = Cells
shows_of count (Ordinal domain range) = Cells
shows_of count (Ramp time d0 d1 from to) = if time then Instants (decimals_on count (d0, d1)) else Numbers (decimals_on count (d0, d1))

-- one tick for each 40 pixels of an axis and for what is left, at least 1 and at most 1,000
abbrev pub count_for : ℤ → ℕ
count_for length = max (min ((unsigned_abs length + (40 * million - 1)) / (40 * million)) 1000) 1

-- the tick of a cell with its label at a place, if there is one
abbrev pub tick_at : Shows → Option (List ℕ) → Cell → Option ℤ → Option Tick
tick_at shows format v place = option_map (λ at. record { place = at; label = label_of shows format v }) place

-- the tick of a cell: at its place, on a band at the centre. An outer None stands for a place out of range, an inner one for a cell without
-- a place.
abbrev pub tick_of : Scale → Shows → Option (List ℕ) → Cell → Option (Option Tick)
tick_of s shows format v = option_map (tick_at shows format v) (result_ok (place_in_band_of s v (pos 500000)))

-- what each of a list has, in its order, without those that have nothing; None where one of them is out of range
abbrev pub each_that_has : {X Y : Type 0} → (X → Option (Option Y)) → List X → Option (List Y)
each_that_has one xs = option_map (filter_map (λ found. found)) (all_found (map one xs))

-- ---- worked examples

counts_of_ticks : (count_for (pos 0) ≡ 1) × (count_for (pos (40 * million)) ≡ 1) × (count_for (pos (40 * million + 1)) ≡ 2)
    × (count_for (pos (300 * million)) ≡ 8) × (count_for (pos (100000 * million)) ≡ 1000)
counts_of_ticks = (refl, refl, refl, refl, refl)

decimals_of_labels : (decimals_on 10 (pos 0, pos (2 * million)) ≡ 1) × (decimals_on 2 (pos 0, pos (4 * million)) ≡ 0)
    × (decimals_on 2 (pos 1250000, pos 1250000) ≡ 2)
unfolding decimals_on decimals_of step_of spaced
decimals_of_labels = (refl, refl, refl)

cells_at_ticks : cells_shown 2 (Linear (pos 0) (pos (4 * million)) (pos 0) (pos 0))
    ≡ Some (Number (pos 0) ∷ Number (pos (2 * million)) ∷ Number (pos (4 * million)) ∷ [])
unfolding number_cells multiples_in step_of spaced ceiled floored floor_quotient
cells_at_ticks = refl
