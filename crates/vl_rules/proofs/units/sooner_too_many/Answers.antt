use Rattle.std.proofs.Common.{◌≡◌, List, map, subst}
use Rattle.std.specs.Prelude.{IfOk}
use Rattle.spec_schema.specs.Order.{earlier}
use Rattle.vl_trails.specs.declared.fault.RuleFault.{RuleFault}
use Rattle.vl_trails.specs.Faults.{earliest_placed}
use Rattle.vl_rules.specs.inner.Shown.{marked_shown}
use Rattle.vl_rules.proofs.CountLemmas.{too_many_is}
use Rattle.vl_rules.proofs.units.sooner_too_many.Goals as goal

pub returns : goal.returns
returns c =
    let all : List RuleFault → Type 0 = λ fs. IfOk c.sooner_wrong.result (λ f. f ≡ earlier c.args.so_far (earliest_placed c.args.tree.now fs)) in
    subst all (too_many_is (map marked_shown c.args.units.now) _ c.trail_behind.ensures) c.sooner_wrong.ensures
