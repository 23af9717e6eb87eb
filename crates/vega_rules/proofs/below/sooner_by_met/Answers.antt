use Rattle.std.proofs.Common.{arith}
use Rattle.vega_rules.specs.Below.{below_by}
use Rattle.vega_rules.proofs.LoopLemmas.{one_step}
use Rattle.vega_rules.proofs.below.sooner_by_met.Goals as goal

pub loop-number-preserved : goal.loop-number-preserved
loop-number-preserved c =
    one_step (below_by c.args.parts.now) c.args.parts.now c.loop-number.number c.loop-number.so_far c.in_ok-so_far.so_far _
    c.index-parts-number.result (omega arith) c.index-parts-number.is c.in_ok-so_far.ensures c.loop-number.invariant
