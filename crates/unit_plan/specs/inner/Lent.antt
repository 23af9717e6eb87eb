-- What contracts see of branches and fields that are lent, and of the branches of conditions.
use Rattle.std.specs.Prelude.{List, [], ◌∷◌, ◌++◌, map}
use Rattle.vl_spec.specs.declared.channels.Condition.{Condition, out-Condition}
use Rattle.vl_spec.specs.declared.channels.Conditions.{Conditions, fold-Conditions}
use Rattle.unit_plan.specs.declared.branches.BranchHere.{BranchHere}
use Rattle.unit_plan.specs.Branches.{Branch, Under, conditions_here, channel_here, condition_here, branches_under}

abbrev pub branch_shown : BranchHere → Branch
branch_shown b = record { tests = map (λ t. t.now) b.tests; shows = b.shows.now }

abbrev pub branches_shown : List BranchHere → List Branch
branches_shown bs = map branch_shown bs

-- those of conditions
abbrev pub under_conditions : Conditions → Under
under_conditions = fold-Conditions Under Under Under conditions_here channel_here condition_here

-- those of one condition
abbrev pub under_condition : Condition → Under
under_condition c tests = branches_under (out-Condition c).shows (tests ++ (out-Condition c).test ∷ [])
