use Rattle.std.proofs.Common.{◌≡◌, List, ◌++◌, map, sym, subst}
use Rattle.std.specs.Prelude.{OnOk}
use Rattle.unit_plan.specs.Branches.{Branch}
use Rattle.unit_plan.specs.inner.Lent.{branches_shown}
use Rattle.unit_plan.proofs.BranchLemmas.{several_conditions}
use Rattle.unit_plan.proofs.branches.+branches.Goals as goal

pub push_conditions-returns-in-Several : goal.push_conditions-returns-in-Several
push_conditions-returns-in-Several t c =
    let all : List Branch → Type 0 = λ bs. OnOk c.push_each.result (branches_shown c.push_each.new.out ≡ branches_shown c.args.out.now ++ bs) in
    subst all (sym (several_conditions c.args.conditions.now c.in-Several.conditions (map (λ t. t.now) c.args.outer.now) c.in-Several.is)) c.push_each.ensures
