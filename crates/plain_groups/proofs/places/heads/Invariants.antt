use Rattle.std.proofs.Common.{◌≡◌, ◌++◌, drop}
use Rattle.plain_groups.specs.inner.Places.{heads_from}
use Rattle.plain_groups.proofs.places.heads.Given as goal

abbrev pub invariant-loop-at : goal.invariant-loop-at
invariant-loop-at l = l.heads ++ heads_from l.at (drop l.at l.leaders) ≡ heads_from 0 l.leaders
