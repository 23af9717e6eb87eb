use Rattle.std.proofs.Common.{◌≡◌, drop}
use Rattle.std.specs.List.{list_any}
use Rattle.vega_assemble.specs.Assembled.{scale_begins}
use Rattle.vega_assemble.proofs.assembled.scales_begin.Given as goal

abbrev pub invariant-loop-scale : goal.invariant-loop-scale
invariant-loop-scale l =
    list_any (scale_begins l.unit) (drop l.scale-index l.scales) ≡ list_any (scale_begins l.unit) l.scales
