use Rattle.std.proofs.Common.{◌≡◌, ◌++◌, map, drop}
use Rattle.plain_facets.specs.inner.Places.{home_shown}
use Rattle.plain_facets.proofs.homes.homes_in.Given as goal

abbrev pub invariant-loop-row : goal.invariant-loop-row
invariant-loop-row l = l.homes ++ map (home_shown l.copies l.fields) (drop l.row-index l.rows) ≡ map (home_shown l.copies l.fields) l.rows
