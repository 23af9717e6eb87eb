-- Whether the axes of an object are as callers ask.
use Rattle.std.specs.Prelude.{◌≡◌, refl, ◌*◌, Bool, true, false, List, [], pos, Some, unwrap_or}
use Rattle.std.specs.Option.{option_map_or}
use Rattle.std.specs.List.{All, list_all}
use Rattle.fixed_num.specs.Number.{million}
use Rattle.fixed_num.specs.Ranges.{is_within}
use Rattle.guide_kit.specs.Measures.{pixels}
use Rattle.vega_spec.specs.declared.guides.Axis.{Axis}
use Rattle.vega_spec.specs.declared.guides.Side.TheVariants.{Left}
use Rattle.vega_spec.specs.declared.spec.Group.{Group, Group-F}
use Rattle.vega_spec.specs.declared.spec.VgMark.{VgMark}
use Rattle.vega_guides.specs.Shown.{IsAxis, an_axis_on}

-- the axes of an object
abbrev pub axes_in : Group-F Group VgMark → List Axis
axes_in g = unwrap_or g.axes []

-- what every caller asks of the axes of an object
abbrev pub HasKeptAxes : Group-F Group VgMark → Type 0
HasKeptAxes g = All IsAxis (axes_in g)

-- as a test: the count of ticks of an axis is from 1 to 1,000, if it has one
abbrev pub is_kept_axis : Axis → Bool
is_kept_axis a = option_map_or (is_within (pos million) (pos (1000 * million))) a.tick_count true

abbrev pub has_kept_axes : Group-F Group VgMark → Bool
has_kept_axes g = list_all is_kept_axis (axes_in g)

-- where the test holds, each axis has what callers ask
abbrev pub AxesAreTested : Type 0
AxesAreTested = (g : Group-F Group VgMark) → has_kept_axes g ≡ true → HasKeptAxes g

-- ---- worked examples

counts_of_ticks : (is_kept_axis (an_axis_on Left) ≡ true) × (is_kept_axis (record (an_axis_on Left) { tick_count = Some (pixels 1000) }) ≡ true)
    × (is_kept_axis (record (an_axis_on Left) { tick_count = Some (pixels 1001) }) ≡ false)
counts_of_ticks = (refl, refl, refl)
