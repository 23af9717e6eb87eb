use Rattle.std.proofs.Common.{◌≡◌, ◌++◌, drop, map}
use Rattle.std.specs.List.{All}
use Rattle.scale_kit.specs.Scale.{IsScale}
use Rattle.scale_kit.specs.declared.scale.ScaleIn.{ScaleIn}
use Rattle.vega_drawing.specs.Scales.{scale_in}
use Rattle.vega_drawing.specs.inner.Kept.{scale_seen}
use Rattle.vega_drawing.proofs.scales.set_of.Given as goal

abbrev pub invariant-loop-scale : goal.invariant-loop-scale
invariant-loop-scale l = record {
  value : l.made ++ map (scale_in l.width l.height) (map scale_seen (drop l.scale-index l.scales))
      ≡ map (scale_in l.width l.height) (map scale_seen l.scales);
  sound : All (λ (made : ScaleIn). IsScale made.scale) l.made;
}
