use Rattle.vega_drawing.specs.Scales.{scale_in}
use Rattle.vega_drawing.specs.inner.Topped.{is_of_chart}
use Rattle.vega_drawing.proofs.TopLemmas.{one_more_scale, scale_kept}
use Rattle.vega_drawing.proofs.drawing.scales_of_chart.Goals as goal

pub push_chart_scale-requires-clause-kept : goal.push_chart_scale-requires-clause-kept
push_chart_scale-requires-clause-kept c =
    scale_kept c.args.frame.now.scales.now c.loop-scale.scale-index _ c.requires.scales c.loop-scale-test.true c.scale-item.is

pub loop-scale-preserved : goal.loop-scale-preserved
loop-scale-preserved c =
    one_more_scale is_of_chart (scale_in c.args.frame.now.width c.args.frame.now.height) c.args.frame.now.scales.now c.loop-scale.scale-index _
    c.loop-scale.out _ _ c.loop-scale-test.true c.scale-item.is c.loop-scale.invariant c.in_ok-push_chart_scale.ensures
