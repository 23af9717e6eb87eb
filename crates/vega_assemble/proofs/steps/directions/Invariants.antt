use Rattle.std.proofs.Common.{◌≡◌, ◌++◌, drop, map}
use Rattle.vega_assemble.specs.Steps.{directed}
use Rattle.vega_assemble.proofs.steps.directions.Given as goal

abbrev pub invariant-loop-one : goal.invariant-loop-one
invariant-loop-one l =
    l.out ++ map directed (drop l.one-index l.by) ≡ map directed l.by
