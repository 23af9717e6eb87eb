use Rattle.std.proofs.Common.{arith}
use Rattle.vega_rules.specs.Faults.{shown_by}
use Rattle.vega_rules.proofs.LoopLemmas.{one_step}
use Rattle.vega_rules.proofs.rules.first_shown.Goals as goal

pub loop-part-preserved : goal.loop-part-preserved
loop-part-preserved c =
    one_step shown_by c.args.parts.now c.loop-part.part-index c.loop-part.so_far c.in_ok-so_far.so_far _ c.part-item.result
    (omega arith) c.part-item.is
    c.in_ok-so_far.ensures c.loop-part.invariant
