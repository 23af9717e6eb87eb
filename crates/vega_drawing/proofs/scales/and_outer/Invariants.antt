use Rattle.std.proofs.Common.{◌≡◌, ◌++◌, drop, map}
use Rattle.std.specs.Prelude.{not}
use Rattle.std.specs.List.{filter}
use Rattle.vega_drawing.specs.Scales.{and_outer, has_scale, name_of}
use Rattle.vega_drawing.specs.inner.Kept.{scale_seen, kept_seen}
use Rattle.vega_drawing.proofs.scales.and_outer.Given as goal

abbrev pub invariant-loop-scale : goal.invariant-loop-scale
invariant-loop-scale l =
    map scale_seen l.out ++ filter (λ s. not (has_scale (map kept_seen l.own) (name_of s))) (map scale_seen (drop l.scale-index l.outer))
    ≡ and_outer (map scale_seen l.outer) (map kept_seen l.own)
