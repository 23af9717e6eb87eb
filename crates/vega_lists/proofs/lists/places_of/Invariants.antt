use Rattle.vega_lists.proofs.PlaceLemmas.{ArePlacesFrom}
use Rattle.vega_lists.proofs.lists.places_of.Given as goal

abbrev pub invariant-loop-at : goal.invariant-loop-at
invariant-loop-at l = ArePlacesFrom l.sources l.at l.places
