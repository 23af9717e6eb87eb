use Rattle.std.proofs.Common.{◌≡◌, take}
use Rattle.vega_assemble.specs.Keys.{ordered}
use Rattle.vega_assemble.proofs.keys.ordered_count.Given as goal

abbrev pub invariant-loop-at : goal.invariant-loop-at
invariant-loop-at l = ordered (take l.at l.fields) ≡ ordered l.fields
