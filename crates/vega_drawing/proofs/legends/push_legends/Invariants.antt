use Rattle.std.proofs.Common.{◌≡◌, ◌++◌, drop}
use Rattle.std.specs.List.{All, flat_map, enumerate_from}
use Rattle.plot_scenes.specs.Legends.{IsLegendShown}
use Rattle.vega_drawing.specs.inner.Framed.{unlisted}
use Rattle.vega_drawing.proofs.LegendLemmas.{in_channels}
use Rattle.vega_drawing.proofs.legends.push_legends.Given as goal

abbrev pub invariant-loop-index : goal.invariant-loop-index
invariant-loop-index l =
    let shown = in_channels l.object (unlisted l.frame) in
    record {
      value : l.out ++ flat_map shown (enumerate_from l.index (drop l.index l.legends)) ≡ l.fn.out ++ flat_map shown (enumerate_from 0 l.legends);
      kept : All IsLegendShown l.fn.out → All IsLegendShown l.out;
    }
