use Rattle.std.proofs.Common.{◌≡◌, List, ◌++◌, map, sym, subst}
use Rattle.std.specs.Prelude.{OnOk}
use Rattle.vl_spec.specs.declared.definitions.Definition.{Definition}
use Rattle.chart_plan.proofs.DefinitionLemmas.{several_conditions}
use Rattle.chart_plan.proofs.seconds.+channels.Goals as goal

pub push_conditions-returns-in-Several : goal.push_conditions-returns-in-Several
push_conditions-returns-in-Several t c =
    let all : List Definition → Type 0 = λ ds. OnOk c.push_each.result (map (λ d. d.now) c.push_each.new.out ≡ map (λ d. d.now) c.args.out.now ++ ds) in
    subst all (sym (several_conditions c.args.conditions.now c.in-Several.conditions c.in-Several.is)) c.push_each.ensures
