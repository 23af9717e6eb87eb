use Rattle.std.proofs.Common.{arith}
use Rattle.vl_rules.specs.Rules.{faults_of_unit}
use Rattle.vl_rules.specs.inner.Shown.{marked_shown}
use Rattle.vl_rules.proofs.LoopLemmas.{one_shown}
use Rattle.vl_rules.proofs.units.sooner_units.Goals as goal

pub loop-unit-preserved : goal.loop-unit-preserved
loop-unit-preserved c =
    one_shown c.args.tree.now marked_shown (faults_of_unit c.args.tree.now) c.args.units.now c.loop-unit.unit-index c.unit-item.result
    c.loop-unit.so_far c.in_ok-so_far.so_far _ (omega arith) c.unit-item.is c.in_ok-so_far.ensures c.loop-unit.invariant
