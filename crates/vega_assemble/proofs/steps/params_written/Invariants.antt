use Rattle.std.proofs.Common.{◌≡◌, ◌++◌, drop, map}
use Rattle.vega_assemble.specs.Steps.{param_given}
use Rattle.vega_assemble.proofs.steps.params_written.Given as goal

abbrev pub invariant-loop-param : goal.invariant-loop-param
invariant-loop-param l =
    l.out ++ map param_given (drop l.param-index l.params) ≡ map param_given l.params
