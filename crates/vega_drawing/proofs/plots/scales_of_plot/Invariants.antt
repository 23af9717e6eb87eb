use Rattle.std.proofs.Common.{◌≡◌, ◌++◌, drop, map}
use Rattle.vega_drawing.specs.Scales.{scale_in}
use Rattle.vega_drawing.specs.Plots.{scales_of_plot}
use Rattle.vega_drawing.specs.inner.Framed.{unlisted}
use Rattle.vega_drawing.specs.inner.Kept.{scale_seen}
use Rattle.vega_drawing.specs.inner.Plotted.{is_of_plot}
use Rattle.vega_drawing.proofs.TopLemmas.{those}
use Rattle.vega_drawing.proofs.plots.scales_of_plot.Given as goal

abbrev pub invariant-loop-scale : goal.invariant-loop-scale
invariant-loop-scale l =
    l.out ++ those is_of_plot (scale_in l.frame.width l.frame.height) (map scale_seen (drop l.scale-index l.frame.scales.now))
    ≡ scales_of_plot (unlisted l.frame)
