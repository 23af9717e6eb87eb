use Rattle.std.proofs.Common.{◌≡◌, ◌++◌, drop}
use Rattle.std.specs.List.{flat_map}
use Rattle.vega_assemble.specs.Mentioned.{in_drag}
use Rattle.vega_assemble.specs.inner.Lent.{lent}
use Rattle.vega_assemble.proofs.mentioned.push_drags.Given as goal

abbrev pub invariant-loop-drag : goal.invariant-loop-drag
invariant-loop-drag l =
    lent l.out ++ flat_map in_drag (drop l.drag-index l.drags) ≡ lent l.fn.out ++ flat_map in_drag l.drags
