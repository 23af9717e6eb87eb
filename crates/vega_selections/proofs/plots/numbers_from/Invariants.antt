use Rattle.std.proofs.Common.{◌≡◌, ◌++◌, ◌+◌, ◌-◌}
use Rattle.vega_selections.specs.Plots.{numbers_from}
use Rattle.vega_selections.proofs.plots.numbers_from.Given as goal

abbrev pub invariant-loop-at : goal.invariant-loop-at
invariant-loop-at l = l.units ++ numbers_from (l.unit + l.at) (l.size - l.at) ≡ numbers_from l.unit l.size
