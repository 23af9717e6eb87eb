use Rattle.std.proofs.Common.{◌++◌, map}
use Rattle.vega_drawing.specs.Guides.{axes_over}
use Rattle.vega_drawing.specs.inner.Kept.{axis_seen, IsKeptAxis}
use Rattle.vega_drawing.proofs.SeenLemmas.{one_more_added, at_seen}
use Rattle.vega_drawing.proofs.AxisLemmas.{shown_made}
use Rattle.vega_drawing.proofs.axes.push_all_shown.Goals as goal

pub push_shown-requires-clause-kept : goal.push_shown-requires-clause-kept
push_shown-requires-clause-kept c =
    (at_seen IsKeptAxis axis_seen c.args.axes.now c.loop-axis.axis-index c.axis-item.result c.loop-axis-test.true c.axis-item.is c.requires.kept).1

pub push_shown-requires-clause-axis : goal.push_shown-requires-clause-axis
push_shown-requires-clause-axis c =
    (at_seen IsKeptAxis axis_seen c.args.axes.now c.loop-axis.axis-index c.axis-item.result c.loop-axis-test.true c.axis-item.is c.requires.kept).0

pub loop-axis-preserved : goal.loop-axis-preserved
loop-axis-preserved c = record {
  value =
      one_more_added (λ xs. axes_over c.args.width c.args.height (map axis_seen xs)) c.args.axes.now c.loop-axis.axis-index c.axis-item.result
      c.loop-axis.out c.push_shown.new.out (c.args.out.now ++ axes_over c.args.width c.args.height (map axis_seen c.args.axes.now))
      (shown_made c.args.width c.args.height) c.loop-axis-test.true c.axis-item.is c.loop-axis.invariant.value c.in_ok-push_shown.ensures.value;
  kept = λ all. c.in_ok-push_shown.ensures.kept (c.loop-axis.invariant.kept all);
}
