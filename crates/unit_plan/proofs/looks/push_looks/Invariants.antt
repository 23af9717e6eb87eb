use Rattle.std.proofs.Common.{◌≡◌, ◌++◌, drop, map}
use Rattle.unit_plan.specs.Looks.{look_way}
use Rattle.unit_plan.specs.Selections.{is_selection}
use Rattle.unit_plan.specs.inner.Lent.{branches_shown}
use Rattle.unit_plan.proofs.looks.push_looks.Given as goal

abbrev pub invariant-loop-branch : goal.invariant-loop-branch
invariant-loop-branch l =
    l.out ++ map (look_way (is_selection l.names.params.now) l.channel l.scale) (branches_shown (drop l.branch-index l.branches))
    ≡ l.fn.out ++ map (look_way (is_selection l.names.params.now) l.channel l.scale) (branches_shown l.branches)
