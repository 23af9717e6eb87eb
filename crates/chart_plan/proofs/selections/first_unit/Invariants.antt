use Rattle.std.proofs.Common.{◌≡◌, drop}
use Rattle.chart_plan.specs.inner.Marked.{first_at, unit_there}
use Rattle.chart_plan.proofs.selections.first_unit.Given as goal

abbrev pub invariant-loop-place : goal.invariant-loop-place
invariant-loop-place l = first_at (unit_there l.units) (drop l.place-index l.places) ≡ first_at (unit_there l.units) l.places
