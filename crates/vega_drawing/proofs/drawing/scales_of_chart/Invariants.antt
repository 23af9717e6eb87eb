use Rattle.std.proofs.Common.{◌≡◌, ◌++◌, drop, map}
use Rattle.vega_drawing.specs.Scales.{scale_in}
use Rattle.vega_drawing.specs.Drawings.{scales_of_chart}
use Rattle.vega_drawing.specs.inner.Framed.{unlisted}
use Rattle.vega_drawing.specs.inner.Kept.{scale_seen}
use Rattle.vega_drawing.specs.inner.Topped.{is_of_chart}
use Rattle.vega_drawing.proofs.TopLemmas.{those}
use Rattle.vega_drawing.proofs.drawing.scales_of_chart.Given as goal

abbrev pub invariant-loop-scale : goal.invariant-loop-scale
invariant-loop-scale l =
    l.out ++ those is_of_chart (scale_in l.frame.width l.frame.height) (map scale_seen (drop l.scale-index l.frame.scales.now))
    ≡ scales_of_chart (unlisted l.frame)
