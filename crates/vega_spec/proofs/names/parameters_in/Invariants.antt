use Rattle.std.proofs.Common.{◌≡◌, map, take}
use Rattle.vega_spec.specs.Names.{parameter_of}
use Rattle.vega_spec.proofs.names.parameters_in.Given as goal

abbrev pub invariant-loop-signal : goal.invariant-loop-signal
invariant-loop-signal l = l.out ≡ map parameter_of (take l.signal-index l.signals)
