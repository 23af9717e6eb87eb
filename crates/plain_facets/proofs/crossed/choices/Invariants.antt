use Rattle.std.proofs.Common.{◌≡◌, drop}
use Rattle.plain_facets.specs.Facets.{choices}
use Rattle.plain_facets.proofs.crossed.choices.Given as goal

abbrev pub invariant-loop-at : goal.invariant-loop-at
invariant-loop-at l = l.made ≡ choices (drop l.at l.lists)
