use Rattle.std.proofs.Common.{◌++◌, ◌∙◌, Some, map, sym, ap, subst}
use Rattle.std.specs.List.{All}
use Rattle.std.specs.Option.{option_to_list}
use Rattle.std.proofs.lemmas.List.Elements.{All-push}
use Rattle.std.proofs.lemmas.Result.{on_ok_weaker}
use Rattle.plot_scenes.specs.Legends.{IsLegendShown}
use Rattle.vega_drawing.specs.Scales.{scale_named}
use Rattle.vega_drawing.specs.inner.Kept.{scale_seen}
use Rattle.vega_drawing.specs.inner.Framed.{unlisted}
use Rattle.vega_drawing.proofs.KeptLemmas.{named_kept}
use Rattle.vega_drawing.proofs.LegendLemmas.{no_scale, one_legend, none_listed}
use Rattle.vega_drawing.proofs.legends.push_named.Goals as goal

pub laid_over-requires-clause-kept : goal.laid_over-requires-clause-kept
laid_over-requires-clause-kept c =
    named_kept (map scale_seen c.args.frame.now.scales.now) c.as_str.result.now (scale_seen c.in-Some.scale.now) c.requires.frame.scales
    (sym c.in-Some.ensures)

pub returns-in_ok-laid-in-Some-clause-value : goal.returns-in_ok-laid-in-Some-clause-value
returns-in_ok-laid-in-Some-clause-value c =
    on_ok_weaker c.push.result
    (λ e. e
    ∙ ap (λ o. c.args.out.now ++ option_to_list o)
    ((λ i. Some (record {
      channel = c.args.place;
      object = c.args.here.now.object;
      index = c.args.here.now.index;
      legend = c.in_ok-shown-in-Some.ensures.value i;
      scale = c.in_ok-laid-in-Some.ensures.value i;
    }))
    ∙ sym (one_legend c.args.here.now.object (unlisted c.args.frame.now) c.args.here.now.index
    c.args.here.now.legend.now c.args.place c.args.channel c.args.name.now
    (scale_seen c.in-Some.scale.now) c.requires.named
    (sym (c.in-Some.ensures ∙ ap (scale_named (map scale_seen c.args.frame.now.scales.now)) c.as_str.ensures)))))
    c.push.ensures.ok

pub returns-in_ok-laid-in-Some-clause-kept : goal.returns-in_ok-laid-in-Some-clause-kept
returns-in_ok-laid-in-Some-clause-kept c all =
    on_ok_weaker c.push.result
    (λ e. subst (All IsLegendShown) (sym e)
    (All-push IsLegendShown c.args.out.now _ all (c.in_ok-laid-in-Some.ensures.sound, c.in_ok-shown-in-Some.ensures.shown)))
    c.push.ensures.ok

pub returns-in-None-clause-value : goal.returns-in-None-clause-value
returns-in-None-clause-value c =
    none_listed _ c.args.out.now
    (no_scale c.args.here.now.object (unlisted c.args.frame.now) c.args.here.now.index
    c.args.here.now.legend.now c.args.place c.args.channel c.args.name.now c.requires.named
    (sym (c.in-None.ensures ∙ ap (scale_named (map scale_seen c.args.frame.now.scales.now)) c.as_str.ensures)))
