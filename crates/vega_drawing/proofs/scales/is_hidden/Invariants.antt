use Rattle.std.proofs.Common.{◌≡◌, drop, map}
use Rattle.vega_drawing.specs.Scales.{has_scale}
use Rattle.vega_drawing.specs.inner.Kept.{kept_seen}
use Rattle.vega_drawing.proofs.scales.is_hidden.Given as goal

abbrev pub invariant-loop-other : goal.invariant-loop-other
invariant-loop-other l = has_scale (map kept_seen (drop l.other-index l.own)) l.name ≡ has_scale (map kept_seen l.own) l.name
