use Rattle.std.proofs.Common.{◌++◌, map, refl, sym, subst}
use Rattle.std.specs.List.{All}
use Rattle.std.proofs.lemmas.List.Elements.{All-append}
use Rattle.vega_drawing.specs.Scales.{axes_here}
use Rattle.vega_drawing.specs.inner.Kept.{scale_seen, axis_seen, IsKeptAxis}
use Rattle.vega_drawing.proofs.SeenLemmas.{all_added}
use Rattle.vega_drawing.proofs.AxisLemmas.{axes_kept}
use Rattle.vega_drawing.proofs.axes.and_axes.Goals as goal

pub returns-clause-kept : goal.returns-clause-kept
returns-clause-kept c =
    subst (All IsKeptAxis)
    (sym (all_added (axes_here (map scale_seen c.args.scales.now)) c.args.axes.now c.loop-axis.axis-index (map axis_seen c.loop-axis.all)
    (map axis_seen c.args.outer.now ++ axes_here (map scale_seen c.args.scales.now) c.args.axes.now) refl c.loop-axis-test.false c.loop-axis.invariant))
    (All-append IsKeptAxis (map axis_seen c.args.outer.now) (axes_here (map scale_seen c.args.scales.now) c.args.axes.now) c.requires.outer
    (axes_kept (map scale_seen c.args.scales.now) c.args.axes.now c.requires.kept c.requires.axes))
