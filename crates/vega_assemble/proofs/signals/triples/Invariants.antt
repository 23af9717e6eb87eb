use Rattle.std.proofs.Common.{◌≡◌, ◌++◌, drop}
use Rattle.std.specs.List.{flat_map}
use Rattle.vega_assemble.specs.Signals.{triple}
use Rattle.vega_assemble.proofs.signals.triples.Given as goal

abbrev pub invariant-loop-drag : goal.invariant-loop-drag
invariant-loop-drag l =
    l.out ++ flat_map (triple l.stem l.scales l.selection l.s) (drop l.drag-index l.s.kept.drag)
    ≡ flat_map (triple l.stem l.scales l.selection l.s) l.s.kept.drag
