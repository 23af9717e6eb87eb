use Rattle.std.proofs.Common.{◌≡◌, drop}
use Rattle.spec_schema.specs.Order.{earlier}
use Rattle.vl_trails.specs.Faults.{earliest_placed}
use Rattle.vl_trails.proofs.first.first_placed.Given as goal

-- the fault so far and those of the rest
abbrev pub invariant-loop-fault : goal.invariant-loop-fault
invariant-loop-fault l = earlier l.so_far (earliest_placed l.tree (drop l.fault-index l.faults)) ≡ earliest_placed l.tree l.faults
