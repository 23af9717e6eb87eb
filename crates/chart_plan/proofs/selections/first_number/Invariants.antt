use Rattle.std.proofs.Common.{◌≡◌, drop}
use Rattle.guide_infer.specs.First.{first_given}
use Rattle.chart_plan.specs.inner.Marked.{number_there, unit_there}
use Rattle.chart_plan.proofs.selections.first_number.Given as goal

abbrev pub invariant-loop-place : goal.invariant-loop-place
invariant-loop-place l =
    first_given (number_there l.plot (unit_there l.units)) (drop l.place-index l.places) ≡ first_given (number_there l.plot (unit_there l.units)) l.places
