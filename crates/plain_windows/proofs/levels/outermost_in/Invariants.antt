use Rattle.std.proofs.Common.{ℤ, ◌≤◌, Option, List, length, drop}
use Rattle.plain_windows.specs.inner.Levels.{AreLevels, Gives, outermost}
use Rattle.plain_windows.specs.inner.Views.{part}
use Rattle.plain_windows.proofs.levels.outermost_in.Given as goal

abbrev pub invariant-loop-level : goal.invariant-loop-level
invariant-loop-level l =
    (numbers : List (Option ℤ)) → AreLevels l.greatest numbers l.levels → l.fn.frame.to ≤ length numbers
    → Gives l.greatest (drop l.level-index l.levels) l.from l.to l.found (outermost l.greatest (part l.fn.frame numbers))
