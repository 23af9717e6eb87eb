use Rattle.std.proofs.Common.{◌≡◌, ◌++◌, drop, map}
use Rattle.view_layout.specs.Lengths.{plus}
use Rattle.view_layout.specs.Grid.{positions}
use Rattle.view_layout.proofs.spans.positions.Given as goal

abbrev pub invariant-loop-span : goal.invariant-loop-span
invariant-loop-span l =
    l.out ++ map (plus l.passed) (positions l.from l.gap (drop l.span-index l.spans)) ≡ positions l.from l.gap l.spans
