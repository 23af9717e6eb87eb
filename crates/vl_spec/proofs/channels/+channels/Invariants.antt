use Rattle.std.proofs.Common.{◌≡◌, ◌++◌, take}
use Rattle.vl_spec.proofs.channels.+channels.Given as goal

abbrev pub invariant-push_copies-loop-condition : goal.invariant-push_copies-loop-condition
invariant-push_copies-loop-condition l = l.out ≡ l.fn.out ++ take l.condition-index l.conditions
