use Rattle.std.proofs.Common.{◌≡◌, map, take}
use Rattle.chart_opening.specs.Opening.{first_store}
use Rattle.chart_opening.proofs.states.stores_of.Given as goal

abbrev pub invariant-loop-v : goal.invariant-loop-v
invariant-loop-v l = l.stores ≡ map first_store (take l.v-index l.selections)
