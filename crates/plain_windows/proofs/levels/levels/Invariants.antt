use Rattle.std.proofs.Common.{ℤ, ◌++◌, Option, List, length}
use Rattle.plain_windows.specs.inner.Levels.{AreLevels}
use Rattle.plain_windows.proofs.levels.levels.Given as goal

abbrev pub invariant-loop-alloc : goal.invariant-loop-alloc
invariant-loop-alloc l =
    (rest : List (List (Option ℤ))) → AreLevels l.greatest l.level rest → AreLevels l.greatest l.initial.level (l.levels ++ rest)

abbrev pub decreases-loop-alloc : goal.decreases-loop-alloc
decreases-loop-alloc l = length l.level
