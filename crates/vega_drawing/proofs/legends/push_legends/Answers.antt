use Rattle.std.proofs.Common.{◌++◌, ◌∙◌, ap}
use Rattle.std.specs.List.{flat_map, enumerate_from}
use Rattle.vega_drawing.specs.inner.Framed.{unlisted}
use Rattle.vega_drawing.proofs.LegendLemmas.{in_channels, next_enumerated, all_enumerated}
use Rattle.vega_drawing.proofs.legends.push_legends.Goals as goal

pub loop-index-preserved : goal.loop-index-preserved
loop-index-preserved c =
    let shown = in_channels c.args.object (unlisted c.args.frame.now) in
    record {
      value =
          next_enumerated shown c.legends_in-legends.result.now c.loop-index.index c.index-legends-index.result c.loop-index.out c.push_legend.new.out
          (c.args.out.now ++ flat_map shown (enumerate_from 0 c.legends_in-legends.result.now)) c.loop-index-test.true c.index-legends-index.is
          c.loop-index.invariant.value c.in_ok-push_legend.ensures.value;
      kept = λ all. c.in_ok-push_legend.ensures.kept (c.loop-index.invariant.kept all);
    }

pub returns-clause-value : goal.returns-clause-value
returns-clause-value c =
    let shown = in_channels c.args.object (unlisted c.args.frame.now) in
    all_enumerated shown c.legends_in-legends.result.now c.loop-index.index c.loop-index.out
    (c.args.out.now ++ flat_map shown (enumerate_from 0 c.legends_in-legends.result.now))
    c.loop-index-test.false c.loop-index.invariant.value
    ∙ ap (λ legends. c.args.out.now ++ flat_map shown (enumerate_from 0 legends)) c.legends_in-legends.ensures
