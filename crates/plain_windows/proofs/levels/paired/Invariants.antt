use Rattle.std.proofs.Common.{◌≡◌, ◌*◌, ◌++◌, drop}
use Rattle.plain_windows.specs.inner.Levels.{paired}
use Rattle.plain_windows.proofs.levels.paired.Given as goal

abbrev pub invariant-loop-at : goal.invariant-loop-at
invariant-loop-at l = l.next ++ paired l.greatest (drop (2 * l.at) l.level) ≡ paired l.greatest l.level
