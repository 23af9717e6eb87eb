use Rattle.std.proofs.Common.{arith}
use Rattle.vl_trails.proofs.OrderLemmas.{next_fault}
use Rattle.vl_trails.proofs.first.first_placed.Goals as goal

pub loop-fault-preserved : goal.loop-fault-preserved
loop-fault-preserved c =
    next_fault c.args.tree.now c.args.faults.now c.loop-fault.fault-index c.loop-fault.so_far c.in_ok-so_far.so_far _ c.fault-item.result
    (omega arith) c.fault-item.is c.in_ok-so_far.ensures c.loop-fault.invariant
