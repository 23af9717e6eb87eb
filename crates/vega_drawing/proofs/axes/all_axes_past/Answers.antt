use Rattle.std.proofs.Common.{map, refl, sym, subst}
use Rattle.std.specs.List.{All}
use Rattle.vega_drawing.specs.Scales.{axis_past}
use Rattle.vega_drawing.specs.inner.Kept.{axis_seen, IsKeptAxis}
use Rattle.vega_drawing.proofs.SeenLemmas.{all_added}
use Rattle.vega_drawing.proofs.AxisLemmas.{axes_kept_past}
use Rattle.vega_drawing.proofs.axes.all_axes_past.Goals as goal

pub returns-clause-kept : goal.returns-clause-kept
returns-clause-kept c =
    subst (All IsKeptAxis)
    (sym (all_added (λ xs. map (axis_past c.args.spot) (map axis_seen xs)) c.args.axes.now c.loop-axis.axis-index (map axis_seen c.loop-axis.out)
    (map (axis_past c.args.spot) (map axis_seen c.args.axes.now)) refl c.loop-axis-test.false c.loop-axis.invariant))
    (axes_kept_past c.args.spot (map axis_seen c.args.axes.now) c.requires.kept)
