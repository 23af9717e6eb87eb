use Rattle.std.proofs.Common.{◌≡◌, ◌++◌, map}
use Rattle.vega_drawing.specs.Scales.{own_scales}
use Rattle.vega_drawing.specs.inner.Kept.{chart_has, kept_seen}
use Rattle.vega_drawing.proofs.kept.kept_scales.Given as goal

abbrev pub invariant-loop-scale : goal.invariant-loop-scale
invariant-loop-scale l =
    map kept_seen l.kept ++ own_scales (chart_has l.of) l.scale-iterator.a.rest.now l.scale-iterator.b.rest.now
    ≡ own_scales (chart_has l.of) l.scales l.domains
