use Rattle.std.proofs.Common.{◌≡◌, ◌++◌, drop}
use Rattle.vega_assemble.specs.Signals.{signals_from, signals_of}
use Rattle.vega_assemble.proofs.signals.signals_of.Given as goal

abbrev pub invariant-loop-param : goal.invariant-loop-param
invariant-loop-param l =
    l.out ++ signals_from l.stem l.scales l.selections l.place (drop l.param-index l.params) ≡ signals_of l.stem l.scales l.selections l.params
