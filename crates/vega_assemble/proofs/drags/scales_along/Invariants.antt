use Rattle.std.proofs.Common.{◌≡◌, ◌++◌, drop, map}
use Rattle.std.specs.Prelude.{filter}
use Rattle.vega_assemble.specs.Drags.{is_along}
use Rattle.vega_assemble.specs.Drags.{scale_of}
use Rattle.vega_assemble.proofs.drags.scales_along.Given as goal

abbrev pub invariant-loop-drag : goal.invariant-loop-drag
invariant-loop-drag l =
    l.out ++ map scale_of (filter (is_along l.channel) (drop l.drag-index l.s.drags)) ≡ map scale_of (filter (is_along l.channel) l.s.drags)
