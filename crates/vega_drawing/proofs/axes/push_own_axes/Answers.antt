use Rattle.std.proofs.Common.{◌++◌, map, sym, subst}
use Rattle.std.proofs.lemmas.List.Elements.{All-get_or}
use Rattle.vega_guides.specs.Shown.{IsAxis}
use Rattle.vega_drawing.specs.Scales.{axes_here}
use Rattle.vega_drawing.specs.Guides.{axes_over}
use Rattle.vega_drawing.specs.inner.Kept.{scale_seen}
use Rattle.vega_drawing.proofs.SeenLemmas.{one_more_added}
use Rattle.vega_drawing.proofs.AxisLemmas.{own_made}
use Rattle.vega_drawing.proofs.axes.push_own_axes.Goals as goal

pub push_own-requires-clause-axis : goal.push_own-requires-clause-axis
push_own-requires-clause-axis c =
    subst IsAxis (sym c.axis-item.is) (All-get_or IsAxis c.args.axes.now c.loop-axis.axis-index c.axis-item.result c.loop-axis-test.true c.requires.axes)

pub loop-axis-preserved : goal.loop-axis-preserved
loop-axis-preserved c = record {
  value =
      one_more_added (λ xs. axes_over c.args.width c.args.height (axes_here (map scale_seen c.args.scales.now) xs)) c.args.axes.now c.loop-axis.axis-index
      c.axis-item.result c.loop-axis.out c.push_own.new.out
      (c.args.out.now ++ axes_over c.args.width c.args.height (axes_here (map scale_seen c.args.scales.now) c.args.axes.now))
      (own_made c.args.width c.args.height (map scale_seen c.args.scales.now)) c.loop-axis-test.true c.axis-item.is c.loop-axis.invariant.value
      c.in_ok-push_own.ensures.value;
  kept = λ all. c.in_ok-push_own.ensures.kept (c.loop-axis.invariant.kept all);
}
