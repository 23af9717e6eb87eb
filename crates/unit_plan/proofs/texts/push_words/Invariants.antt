use Rattle.std.proofs.Common.{◌≡◌, ◌++◌, drop, map}
use Rattle.unit_plan.specs.Texts.{words_way}
use Rattle.unit_plan.specs.Selections.{is_selection}
use Rattle.unit_plan.specs.inner.Lent.{branches_shown}
use Rattle.unit_plan.proofs.texts.push_words.Given as goal

abbrev pub invariant-loop-branch : goal.invariant-loop-branch
invariant-loop-branch l =
    l.out ++ map (words_way (is_selection l.names.params.now)) (branches_shown (drop l.branch-index l.branches))
    ≡ l.fn.out ++ map (words_way (is_selection l.names.params.now)) (branches_shown l.branches)
