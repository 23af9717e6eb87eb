use Rattle.std.proofs.Common.{◌≡◌, ◌++◌, map, drop}
use Rattle.plain_facets.specs.Facets.{home_among}
use Rattle.plain_facets.proofs.homes.homes_of.Given as goal

abbrev pub invariant-loop-key : goal.invariant-loop-key
invariant-loop-key l = l.homes ++ map (home_among l.copies) (drop l.key-index l.keys) ≡ map (home_among l.copies) l.keys
