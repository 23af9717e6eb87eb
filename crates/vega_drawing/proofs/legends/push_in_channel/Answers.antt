use Rattle.std.proofs.Common.{◌∙◌, sym}
use Rattle.vega_drawing.specs.inner.Framed.{unlisted}
use Rattle.vega_drawing.proofs.LegendLemmas.{no_name, none_listed}
use Rattle.vega_drawing.proofs.legends.push_in_channel.Goals as goal

pub push_named-requires-clause-named : goal.push_named-requires-clause-named
push_named-requires-clause-named c = sym c.scale_shown.ensures ∙ c.in-Some.is

pub returns-in-None-clause-value : goal.returns-in-None-clause-value
returns-in-None-clause-value c =
    none_listed _ c.args.out.now
    (no_name c.args.here.now.object (unlisted c.args.frame.now) c.args.here.now.index c.args.here.now.legend.now c.args.place c.args.channel
    (sym c.scale_shown.ensures ∙ c.in-None.is))
