use Rattle.std.proofs.Common.{◌≡◌, drop, find}
use Rattle.vega_events.specs.Laws.{is_named}
use Rattle.vega_events.proofs.scales.selection_named.Given as goal

abbrev pub invariant-loop-v : goal.invariant-loop-v
invariant-loop-v l = find (is_named l.name) (drop l.v-index l.selections) ≡ find (is_named l.name) l.selections
