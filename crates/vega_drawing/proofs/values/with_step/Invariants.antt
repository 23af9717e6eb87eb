use Rattle.std.proofs.Common.{◌≡◌, ◌++◌, ◌∷◌, drop}
use Rattle.vega_drawing.proofs.values.with_step.Given as goal

abbrev pub invariant-loop-other : goal.invariant-loop-other
invariant-loop-other l = l.path ++ drop l.other-index l.outer ≡ l.fn.step ∷ l.outer
