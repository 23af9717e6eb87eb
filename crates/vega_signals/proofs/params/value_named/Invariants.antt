use Rattle.std.proofs.Common.{◌≡◌, drop}
use Rattle.vega_signals.specs.Parameters.{value_named}
use Rattle.vega_signals.proofs.params.value_named.Given as goal

abbrev pub invariant-loop-param : goal.invariant-loop-param
invariant-loop-param l = value_named (drop l.param-index l.params) l.name ≡ value_named l.params l.name
