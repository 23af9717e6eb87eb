use Rattle.std.proofs.Common.{◌≡◌, take, map, Some}
use Rattle.fixed_num.specs.Ranges.{all_found}
use Rattle.vega_signals.specs.Signals.{valued_here}
use Rattle.vega_signals.proofs.signals.all_valued.Given as goal

abbrev pub invariant-loop-entry : goal.invariant-loop-entry
invariant-loop-entry l = all_found (map valued_here (take l.entry-index l.settled)) ≡ Some l.out
