use Rattle.std.proofs.Common.{◌≡◌, ◌++◌, drop, map}
use Rattle.unit_plan.specs.Shows.{branch_shows}
use Rattle.unit_plan.specs.inner.Lent.{branches_shown}
use Rattle.unit_plan.specs.inner.LentShows.{shows_shown}
use Rattle.unit_plan.proofs.shows.push_branch_shows.Given as goal

abbrev pub invariant-loop-branch : goal.invariant-loop-branch
invariant-loop-branch l =
    shows_shown l.out ++ map (branch_shows l.channel) (branches_shown (drop l.branch-index l.branches))
    ≡ shows_shown l.fn.out ++ map (branch_shows l.channel) (branches_shown l.branches)
