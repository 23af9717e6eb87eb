use Rattle.time_calc.proofs.FormLemmas.{IsSoFar}
use Rattle.time_calc.proofs.forms.value.Given as goal

abbrev pub invariant-loop-i : goal.invariant-loop-i
invariant-loop-i l = IsSoFar l.letter l.form l.text l.i l.number
