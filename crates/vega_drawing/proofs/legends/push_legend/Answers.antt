use Rattle.std.proofs.lemmas.Result.{on_ok_weaker}
use Rattle.vega_guides.specs.declared.channels.LegendChannel.TheVariants.{Fill, Opacity, Shape, Size}
use Rattle.vega_drawing.specs.Guides.{legend_in_channel}
use Rattle.vega_drawing.specs.inner.Framed.{unlisted}
use Rattle.vega_drawing.proofs.LegendLemmas.{four_pushed}
use Rattle.vega_drawing.proofs.legends.push_legend.Goals as goal

pub returns-clause-value : goal.returns-clause-value
returns-clause-value c =
    let shown = legend_in_channel c.args.here.now.object (unlisted c.args.frame.now) (c.args.here.now.index, c.args.here.now.legend.now) in
    on_ok_weaker c.push_in_channel-4.result
    (λ e. four_pushed (shown (0, Fill)) (shown (1, Opacity)) (shown (2, Shape)) (shown (3, Size)) c.args.out.now c.push_in_channel.new.out
    c.push_in_channel-2.new.out c.push_in_channel-3.new.out c.push_in_channel-4.new.out c.in_ok-push_in_channel.ensures.value
    c.in_ok-push_in_channel-2.ensures.value c.in_ok-push_in_channel-3.ensures.value e)
    c.push_in_channel-4.ensures.value

pub returns-clause-kept : goal.returns-clause-kept
returns-clause-kept c all =
    c.push_in_channel-4.ensures.kept
    (c.in_ok-push_in_channel-3.ensures.kept (c.in_ok-push_in_channel-2.ensures.kept (c.in_ok-push_in_channel.ensures.kept all)))
