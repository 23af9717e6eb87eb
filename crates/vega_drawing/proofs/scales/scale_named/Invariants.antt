use Rattle.std.proofs.Common.{◌≡◌, drop, map}
use Rattle.vega_drawing.specs.Scales.{scale_named}
use Rattle.vega_drawing.specs.inner.Kept.{scale_seen}
use Rattle.vega_drawing.proofs.scales.scale_named.Given as goal

abbrev pub invariant-loop-scale : goal.invariant-loop-scale
invariant-loop-scale l = scale_named (map scale_seen (drop l.scale-index l.scales)) l.name ≡ scale_named (map scale_seen l.scales) l.name
