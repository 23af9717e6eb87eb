-- Scales and axes behind references, as definitions see them.
use Rattle.std.specs.Prelude.{Bool, true, false, not, IsTrue, List, [], map, All}
use Rattle.vega_scales.specs.Scales.{KeepsBounds, FitsScale, is_built}
use Rattle.vega_guides.specs.Shown.{IsAxis}
use Rattle.vega_spec.specs.declared.scales.Scale.{Scale as VegaScale}
use Rattle.vega_scales.specs.declared.scaled.Scaled.{Scaled}
use Rattle.vega_drawing.specs.declared.scales.ScaleKept.{ScaleKept}
use Rattle.vega_drawing.specs.declared.scales.ScaleHere.{ScaleHere as HeldScale}
use Rattle.vega_drawing.specs.declared.scales.AxisHere.{AxisHere as HeldAxis}
use Rattle.vega_drawing.specs.declared.scales.OfChart.{OfChart}
use Rattle.vega_drawing.specs.declared.scales.OfChart.TheVariants as of
use Rattle.vega_drawing.specs.Scales.{ScaleHere, AxisHere, is_sized}

-- whether a scale belongs to the whole chart
abbrev pub chart_has : OfChart → VegaScale → Bool
chart_has of.Group s = false
chart_has of.Plot s = true
chart_has of.Grid s = not (is_sized s.range)

-- a scale of the object itself
abbrev pub kept_seen : ScaleKept → ScaleHere
kept_seen s = record { scale = s.scale.now; domain = s.domain.now; is_of_chart = s.of_chart; passed = [] }

abbrev pub scale_seen : HeldScale → ScaleHere
scale_seen s = record { scale = s.kept.now.scale.now; domain = s.kept.now.domain.now; is_of_chart = s.kept.now.of_chart; passed = s.passed }

abbrev pub axis_seen : HeldAxis → AxisHere
axis_seen a = record { axis = a.axis.now; scale = scale_seen a.scale }

-- a domain that fits its scale, whose numbers are those that specifications may have
pub record IsFit (s : VegaScale) (domain : Scaled) : Type 0 where
  pub built : IsTrue (is_built s)
  pub bounds : KeepsBounds s
  pub fits : FitsScale s domain

-- the same of a scale of an object, and of one that has a name there
abbrev pub IsKeptScale : ScaleKept → Type 0
IsKeptScale s = IsFit s.scale.now s.domain.now

abbrev pub IsFitHere : ScaleHere → Type 0
IsFitHere s = IsFit s.scale s.domain

abbrev pub AreKeptScales : List HeldScale → Type 0
AreKeptScales scales = All IsFitHere (map scale_seen scales)

-- an axis that asks for as many ticks as specifications may, over such a scale
abbrev pub IsKeptAxis : AxisHere → Type 0
IsKeptAxis a = IsAxis a.axis × IsFitHere a.scale

abbrev pub AreKeptAxes : List HeldAxis → Type 0
AreKeptAxes axes = All IsKeptAxis (map axis_seen axes)
