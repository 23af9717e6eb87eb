use Rattle.std.proofs.Common.{◌≡◌, ◌++◌, drop}
use Rattle.plain_groups.specs.inner.GroupPlaces.{joined_rows}
use Rattle.plain_groups.proofs.joins.joined_rows.Given as goal

abbrev pub invariant-loop-at : goal.invariant-loop-at
invariant-loop-at l = l.out ++ joined_rows l.given (drop l.at l.rows) (drop l.at l.leaders) ≡ joined_rows l.given l.rows l.leaders
