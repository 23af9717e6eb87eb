use Rattle.std.proofs.Common.{◌≡◌}
use Rattle.plan_kit.specs.Joins.{paired_times}
use Rattle.plan_kit.proofs.joins.all_paired.Given as goal

abbrev pub invariant-loop-times : goal.invariant-loop-times
invariant-loop-times l = paired_times l.op l.times l.left ≡ paired_times l.op 64 l.fn.es

abbrev pub decreases-loop-times : goal.decreases-loop-times
decreases-loop-times l = l.times
