use Rattle.std.proofs.Common.{◌≡◌, drop, find}
use Rattle.vega_events.specs.Scales.{is_of_panel}
use Rattle.vega_events.proofs.scales.of_panel.Given as goal

abbrev pub invariant-loop-s : goal.invariant-loop-s
invariant-loop-s l = find (is_of_panel l.index l.name) (drop l.s-index l.scales) ≡ find (is_of_panel l.index l.name) l.scales
