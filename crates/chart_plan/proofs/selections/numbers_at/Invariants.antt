use Rattle.std.proofs.Common.{◌≡◌, ◌++◌, drop}
use Rattle.chart_plan.specs.inner.Marked.{numbers_at, unit_there}
use Rattle.chart_plan.proofs.selections.numbers_at.Given as goal

abbrev pub invariant-loop-place : goal.invariant-loop-place
invariant-loop-place l =
    l.out ++ numbers_at (unit_there l.units) (drop l.place-index l.places) ≡ numbers_at (unit_there l.units) l.places
