use Rattle.std.proofs.Common.{◌≡◌, drop, find}
use Rattle.vega_events.specs.Scales.{is_of_chart}
use Rattle.vega_events.proofs.scales.of_chart.Given as goal

abbrev pub invariant-loop-s : goal.invariant-loop-s
invariant-loop-s l = find (is_of_chart l.name) (drop l.s-index l.scales) ≡ find (is_of_chart l.name) l.scales
