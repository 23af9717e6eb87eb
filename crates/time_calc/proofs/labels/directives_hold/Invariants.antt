use Rattle.time_calc.proofs.LabelLemmas.{HoldsSoFar}
use Rattle.time_calc.proofs.labels.directives_hold.Given as goal

abbrev pub invariant-loop-c : goal.invariant-loop-c
invariant-loop-c l = HoldsSoFar l.yielded l.after_percent
