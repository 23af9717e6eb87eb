use Rattle.std.proofs.Common.{◌≡◌, drop}
use Rattle.unit_plan.specs.Branches.{covers}
use Rattle.unit_plan.specs.inner.Lent.{branches_shown}
use Rattle.unit_plan.proofs.ends.covers.Given as goal

abbrev pub invariant-loop-branch : goal.invariant-loop-branch
invariant-loop-branch l = covers (branches_shown (drop l.branch-index l.branches)) ≡ covers (branches_shown l.branches)
