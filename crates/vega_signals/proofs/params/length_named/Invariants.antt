use Rattle.std.proofs.Common.{◌≡◌, drop}
use Rattle.vega_signals.specs.Parameters.{length_named}
use Rattle.vega_signals.proofs.params.length_named.Given as goal

abbrev pub invariant-loop-scale : goal.invariant-loop-scale
invariant-loop-scale l = length_named (drop l.scale-index l.lengths) l.name ≡ length_named l.lengths l.name
