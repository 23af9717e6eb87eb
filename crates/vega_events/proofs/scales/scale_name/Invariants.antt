use Rattle.std.proofs.Common.{◌≡◌, drop, find}
use Rattle.std.specs.List.{enumerate_from}
use Rattle.vega_events.specs.Scales.{is_along}
use Rattle.vega_events.proofs.scales.scale_name.Given as goal

abbrev pub invariant-loop-at : goal.invariant-loop-at
invariant-loop-at l =
    find (is_along l.channel) (enumerate_from l.at (drop l.at l.drag)) ≡ find (is_along l.channel) (enumerate_from 0 l.drag)
