use Rattle.std.proofs.Common.{◌≡◌, Some, subst}
use Rattle.std.specs.Prelude.{IfOk}
use Rattle.spec_schema.specs.Order.{earlier}
use Rattle.vl_trails.specs.declared.fault.Broken.{Broken}
use Rattle.vl_trails.specs.Faults.{placed_as}
use Rattle.vl_rules.proofs.units.sooner_missing_data.Goals as goal

pub returns : goal.returns
returns c =
    let all : Broken → Type 0 = λ what. IfOk c.sooner_placed.result
    (λ f. f ≡ earlier c.args.so_far (Some (placed_as c.args.tree.now c.args.trail.now what))) in
    subst all c.in_ok-what.ensures c.sooner_placed.ensures
