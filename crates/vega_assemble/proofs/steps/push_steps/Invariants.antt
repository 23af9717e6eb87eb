use Rattle.std.proofs.Common.{◌≡◌, ◌++◌, drop, map}
use Rattle.vega_assemble.specs.Steps.{step_written}
use Rattle.vega_assemble.proofs.steps.push_steps.Given as goal

abbrev pub invariant-loop-step : goal.invariant-loop-step
invariant-loop-step l =
    l.out ++ map (step_written l.stem) (drop l.step-index l.steps) ≡ l.fn.out ++ map (step_written l.stem) l.steps
