use Rattle.vega_events.proofs.ScaleLemmas.{inverted_is_scale}
use Rattle.vega_events.proofs.scales.ChartScalesDragScales.inverted.Goals as goal

pub returns-in-Some-clause-scale : goal.returns-in-Some-clause-scale
returns-in-Some-clause-scale c =
    inverted_is_scale c.args.self.now.scales.now c.in-Some.v.now c.args.index c.in-Some.v.now.selection.name c.args.channel.now _ c.requires
    c.inverted_by.ensures
